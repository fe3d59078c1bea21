-- A text has one right answer at most.
use Rattle.std.specs.Prelude.{◌≡◌, ℕ, List, Option, Result}
use Rattle.config_table.specs.Table.{TableValue, IsValid}
use Rattle.script_text.specs.declared.ScriptError.{ScriptError}
use Rattle.trace_audit.specs.declared.audit.Verdict.{Verdict}
use Rattle.trace_audit.specs.AuditedTrace.{Audits}

-- Two answers that are right of a text are one: it follows, or breaks at one frame, or is refused at one line.
abbrev pub OneAnswer : Type 0
OneAnswer = (table : TableValue) (named : Option ℕ) (bytes : List ℕ) (one other : Result Verdict ScriptError)
    → IsValid table → Audits table named bytes one → Audits table named bytes other → one ≡ other
