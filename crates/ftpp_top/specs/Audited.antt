-- What `audit` writes: the line of the verdict on a trace, or the first line that is refused.
use Rattle.std.specs.Prelude.{◌≡◌, ◌⊎◌, ℕ, List, [], ◌++◌, codes, Option, Result, Ok, Err}
use Rattle.std.specs.Fmt.{decimal}
use Rattle.ftpp_base.specs.declared.element.Slot.{Slot}
use Rattle.config_table.specs.Table.{TableValue}
use Rattle.script_text.specs.declared.ScriptError.{ScriptError}
use Rattle.script_text.specs.declared.ScriptError.TheVariants as refused
use Rattle.trace_audit.specs.declared.audit.Verdict.{Verdict}
use Rattle.trace_audit.specs.declared.audit.Verdict.TheVariants.{Follows, Breaks}
use Rattle.trace_audit.specs.AuditedTrace.{Audits, round_word}
use Rattle.command_steps.specs.declared.status.Status.{Status}
use Rattle.command_steps.specs.declared.status.Status.TheVariants.{Done, Usage, Script, Config, Read, Write, Memory, TooLong, Stream}
use Rattle.command_steps.specs.Ends.{Outcome, Exactly, Ends, done_with, refused_script}
use Rattle.command_steps.specs.Known.{Known, Untold, Ending, Given, IsHalt}

-- what is audited: a text, from a table on, where the frames of an element that is named may be any
pub record Audited : Type 0 where
  pub table : TableValue
  pub named : Option ℕ
  pub bytes : List ℕ

unfoldable pub follows_line : ℕ → List ℕ
follows_line cycles = codes "follows cycles " ++ decimal cycles ++ codes "\n"

unfoldable pub breaks_line : Slot → ℕ → ℕ → List ℕ
breaks_line at from to =
    codes "breaks " ++ decimal at.cycle ++ codes " " ++ round_word at.round ++ codes " " ++ decimal from ++ codes " " ++ decimal to ++ codes "\n"

abbrev pub verdict_line : Verdict → List ℕ
verdict_line (Follows cycles) = follows_line cycles
verdict_line (Breaks at from to) = breaks_line at from to

-- how the call ends with an answer; an audit takes no memory, so no answer is want of it
abbrev pub judged : Result Verdict ScriptError → Outcome
judged (Ok verdict) = done_with (Exactly (verdict_line verdict))
judged (Err (refused.At line code)) = refused_script line code
judged (Err refused.Memory) = record { status = Memory; output = Exactly [] }

-- It ends with the answer that is right of the text: by the codes of its lines, and by whether its trace follows.
abbrev pub EndsAudit : Audited → Status → Option (List ℕ) → Option (List ℕ) → Type 0
EndsAudit a status old new = (answer : Result Verdict ScriptError) × Audits a.table a.named a.bytes answer × Ends (judged answer) status old new

-- So it is where it is known what is audited, but for a failed read or want of memory before anything is written.
abbrev pub Judged : Known Audited → Status → Option (List ℕ) → Option (List ℕ) → Type 0
Judged Untold status old new = Unit {0}
Judged (Ending o) status old new = Ends o status old new
Judged (Given a) status old new = (IsHalt status × (new ≡ old)) ⊎ EndsAudit a status old new

-- what an audit ends with
abbrev pub IsOfAudit : Status → Type 0
IsOfAudit Done = Unit {0}
IsOfAudit Write = Unit {0}
IsOfAudit (Script line code) = Unit {0}
IsOfAudit Read = ⊥
IsOfAudit Memory = ⊥
IsOfAudit Usage = ⊥
IsOfAudit TooLong = ⊥
IsOfAudit (Config code) = ⊥
IsOfAudit (Stream cycle code) = ⊥
