-- What a reader of an audited trace has after each line.
use Rattle.std.specs.Prelude.{◌≡◌, ℕ, ◌+◌, ◌/◌, ◌%◌, Bool, true, false, not, ◌||◌, ◌==◌, List, [], length, count_by, Option, Some, None, Result, Ok, Err, if◌then◌else◌}
use Rattle.script_words.specs.Lines.{is_newline}
use Rattle.script_text.specs.declared.ScriptError.{ScriptError}
use Rattle.script_text.specs.declared.ScriptError.TheVariants.{At, Memory}
use Rattle.trace_audit.specs.declared.audit.Verdict.{Verdict}
use Rattle.trace_audit.specs.declared.audit.Verdict.TheVariants as verdict
use Rattle.trace_audit.specs.declared.audit.Reading.{Reading}
use Rattle.trace_audit.specs.Trace.{per_cycle}
use Rattle.trace_audit.specs.Links.{link_at}
use Rattle.trace_audit.specs.Progress.{Progress, progress_after, is_awaited, first_break}
use Rattle.trace_audit.specs.AuditedTrace.{bad_line, ends_inside, frames_from, trace_lines}

-- the place of the first frame that is not awaited, with one frame more
abbrev pub broken_with : Option ℕ → Progress → ℕ → List ℕ → Option ℕ
broken_with (Some place) p lines frame = Some place
broken_with None p lines frame = if is_awaited p frame then None else Some lines

-- It took one frame more. Behind the first that is not awaited, the auditor takes none.
pub record Takes (n : ℕ) (old : Reading n) (frame : List ℕ) (new : Reading n) : Type 0 where
  pub lines : new.lines ≡ old.lines + 1
  pub broken : new.broken ≡ broken_with old.broken old.auditor old.lines frame
  pub auditor : old.broken ≡ None → new.auditor ≡ progress_after old.auditor frame

-- what a line does, by the frame on it
abbrev pub TakesLine : (n : ℕ) → Reading n → Option (List ℕ) → Result Unit ScriptError → Reading n → Type 0
TakesLine n old None result new = result ≡ Err (At (old.lines + 1) bad_line)
TakesLine n old (Some frame) result new = (result ≡ Ok tt) × Takes n old frame new

-- what a piece of the text does: it is a line, or the end behind the last newline
abbrev pub TakesPiece : (n : ℕ) → Reading n → Bool → Option (List ℕ) → Result Unit ScriptError → Reading n → Type 0
TakesPiece n old true frame result new = TakesLine n old frame result new
TakesPiece n old false frame result new = (result ≡ Ok tt) × (new ≡ old)

-- The lines were all read: how many newlines there are, the frames, and the first that is not awaited.
pub record HasRead (n : ℕ) (start : Progress) (bytes : List ℕ) (last : ℕ) (r : Reading n) : Type 0 where
  pub taken : List (List ℕ)
  pub frames : frames_from n [] (trace_lines bytes) ≡ Ok taken
  pub newlines : last ≡ 1 + count_by is_newline bytes
  pub lines : r.lines ≡ length taken
  pub broken : r.broken ≡ first_break start 0 taken

-- what reading all lines leaves
abbrev pub ReadsAll : (n : ℕ) → Progress → List ℕ → Result ℕ ScriptError → Reading n → Type 0
ReadsAll n start bytes (Ok last) r = HasRead n start bytes last r
ReadsAll n start bytes (Err (At line code)) r = frames_from n [] (trace_lines bytes) ≡ Err (record { line = line; code = code })
ReadsAll n start bytes (Err Memory) r = ⊥

-- the verdict, by the first frame that is not awaited
abbrev pub verdict_of : ℕ → ℕ → Option ℕ → Verdict
verdict_of n lines None = verdict.Follows (lines / per_cycle n)
verdict_of n lines (Some place) =
    let link = link_at n (place % per_cycle n) in
    verdict.Breaks (record { cycle = place / per_cycle n; round = link.round }) link.from link.to

abbrev pub verdict_if : ℕ → ℕ → ℕ → Option ℕ → Result Verdict ScriptError
verdict_if n last lines broken =
    if lines == 0 || not (lines % per_cycle n == 0) then Err (At last ends_inside) else Ok (verdict_of n lines broken)
