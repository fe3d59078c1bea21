-- What `trace` writes for a script without a rejoin, `audit` of its faulty element answers `follows`.
use Rattle.std.specs.Prelude.{◌≡◌, ℕ, ◌*◌, ◌≤◌, ◌⊎◌, true, List, [], length, Option, Some, Result, Ok}
use Rattle.ftpp_outside.specs.Files.{NamedBytes}
use Rattle.config_table.specs.Table.{IsValid}
use Rattle.script_text.specs.Playable.{IsPlayable}
use Rattle.script_text.specs.declared.ScriptError.{ScriptError}
use Rattle.report_text.specs.PlayedRun.{trace_text}
use Rattle.trace_audit.specs.declared.audit.Verdict.{Verdict}
use Rattle.trace_audit.specs.declared.audit.Verdict.TheVariants as verdict
use Rattle.trace_audit.specs.Trace.{Follows, per_cycle}
use Rattle.trace_audit.specs.AuditedTrace.{trace_of, Audits}
use Rattle.command_words.specs.Commands.{Trace, Audit}
use Rattle.command_steps.specs.declared.status.Status.{Status}
use Rattle.command_steps.specs.Ends.{Outcome, Exactly, Ends, done_with}
use Rattle.command_steps.specs.Known.{Given, IsHalt}
use Rattle.command_steps.specs.Loading.{Run, run_for, script_limit}
use Rattle.ftpp_top.specs.Audited.{Audited, EndsAudit, Judged, follows_line}
use Rattle.ftpp_top.specs.Commands.{ends_of, audited_of}

-- A script without a rejoin that can be played, on a valid table.
pub record IsCalmRun (r : Run) : Type 0 where
  pub valid : IsValid r.table
  pub playable : IsPlayable r.table.n r.plan
  pub calm : r.plan.rejoins ≡ []

-- There is one.
abbrev pub SomeRunIsCalm : Type 0
SomeRunIsCalm = (r : Run) × IsCalmRun r

-- The text of its trace is read to these frames, as many as its cycles have, and they follow for its faulty element, or for none.
pub record HasFollowingTrace (r : Run) : Type 0 where
  pub frames : List (List ℕ)
  pub read : trace_of r.table.n (trace_text r.table r.plan) ≡ Ok frames
  pub whole : length frames ≡ r.plan.cycles * per_cycle r.table.n
  pub follows : Follows r.table r.plan.faulty frames

abbrev pub TraceFollows : Type 0
TraceFollows = (r : Run) → IsCalmRun r → HasFollowingTrace r

-- So the one right answer is that it follows, with the number of the script's cycles.
abbrev pub AnswersFollows : Type 0
AnswersFollows = (r : Run) (answer : Result Verdict ScriptError) → IsCalmRun r
    → Audits r.table r.plan.faulty (trace_text r.table r.plan) answer → answer ≡ Ok (verdict.Follows r.plan.cycles)

-- the audit of its trace for its faulty element, and its outcome: the line of that answer
abbrev pub audit_of : Run → Audited
audit_of r = record { table = r.table; named = r.plan.faulty; bytes = trace_text r.table r.plan }

abbrev pub following : Run → Outcome
following r = done_with (Exactly (follows_line r.plan.cycles))

abbrev pub EndsFollowing : Type 0
EndsFollowing = (r : Run) (status : Status) (old new : Option (List ℕ)) → IsCalmRun r → EndsAudit (audit_of r) status old new → Ends (following r) status old new

-- ---- two calls

-- What a call loads is a script that can be played, on a valid table.
abbrev pub LoadsPlayable : Type 0
LoadsPlayable = (files : Option (List NamedBytes)) (left config : Option (List ℕ)) (r : Run) → run_for files left config ≡ Given r
    → IsValid r.table × IsPlayable r.table.n r.plan

-- **What `trace` writes, `audit` answers `follows`**: where a call of `trace` loads a script without a rejoin and is to write this text,
-- and the source of a call of `audit` holds the text, with the same table and for the script's faulty element, that call ends with
-- `follows` and the number of cycles; but for a failed read or want of memory before anything is written.
abbrev pub AuditsOfTraces : Type 0
AuditsOfTraces = (files : Option (List NamedBytes)) (left config : Option (List ℕ)) (r : Run) (text : List ℕ) (status : Status) (old new : Option (List ℕ))
    → run_for files left config ≡ Given r → r.plan.rejoins ≡ []
    → ends_of true files left (Trace config) ≡ Given (done_with (Exactly text)) → length text ≤ script_limit
    → Judged (audited_of files (Some text) (Audit r.plan.faulty config)) status old new
    → (IsHalt status × (new ≡ old)) ⊎ Ends (following r) status old new
