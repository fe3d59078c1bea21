-- The text of an audited trace: the frames of its lines, or the first line that is not in its place; and the verdict.
use Rattle.std.specs.Prelude.{◌≡◌, ℕ, ◌+◌, ◌*◌, ◌/◌, ◌%◌, not, ◌&&◌, ◌||◌, ◌==◌, nat_le, List, [], ◌∷◌, ◌++◌, length, take, drop, codes, count_by, Option, Some, None, Result, Ok, Err, if◌then◌else◌}
use Rattle.std.specs.List.{slice_split}
use Rattle.std.specs.Fmt.{decimal}
use Rattle.arrayvec.specs.ArrayVec.{ArrayVec}
use Rattle.ftpp_base.specs.declared.element.Round.{Round}
use Rattle.ftpp_base.specs.declared.element.Round.TheVariants.{A1, A2, B1, B2}
use Rattle.packet_format.specs.Packets.{same_bytes}
use Rattle.config_table.specs.Table.{TableValue}
use Rattle.script_words.specs.Lines.{is_newline, has_bytes}
use Rattle.script_words.specs.Fields.{◌>>=◌, frame_of}
use Rattle.script_words.specs.declared.refusals.Refused.{Refused}
use Rattle.script_text.specs.Reading.{Refusal}
use Rattle.script_text.specs.declared.ScriptError.{ScriptError}
use Rattle.script_text.specs.declared.ScriptError.TheVariants.{At, Memory}
use Rattle.trace_audit.specs.declared.links.Link.{Link}
use Rattle.trace_audit.specs.declared.audit.Verdict.{Verdict}
use Rattle.trace_audit.specs.declared.audit.Verdict.TheVariants as verdict
use Rattle.trace_audit.specs.Trace.{Follows, Breaks, per_cycle}
use Rattle.trace_audit.specs.Links.{link_at, bytes_of}

-- ---- lines

abbrev pub round_word : Round → List ℕ
round_word A1 = codes "A1"
round_word A2 = codes "A2"
round_word B1 = codes "B1"
round_word B2 = codes "B2"

-- what stands in a line before the bytes of its frame
unfoldable pub line_head : ℕ → Link → List ℕ
line_head cycle link =
    codes "frame " ++ decimal cycle ++ codes " " ++ round_word link.round ++ codes " " ++ decimal link.from ++ codes " " ++ decimal link.to ++ codes " "

-- the head of the line at a place of a trace
abbrev pub head_at : ℕ → ℕ → List ℕ
head_at n place = line_head (place / per_cycle n) (link_at n (place % per_cycle n))

-- what follows the head of a line, if the line begins with it
abbrev pub after_head : List ℕ → List ℕ → Option (List ℕ)
after_head head line =
    if nat_le (length head) (length line) && same_bytes (take (length head) line) head then Some (drop (length head) line) else None

-- the bytes that a word spells
abbrev pub bytes_if_read : Result (ArrayVec ℕ) Refused → Option (List ℕ)
bytes_if_read (Ok frame) = Some (bytes_of frame)
bytes_if_read (Err why) = None

abbrev pub bytes_spelled : Option (List ℕ) → Option (List ℕ)
bytes_spelled None = None
bytes_spelled (Some word) = bytes_if_read (frame_of word)

-- the frame of the line at a place of a trace, if the line is so
unfoldable pub frame_on : ℕ → ℕ → List ℕ → Option (List ℕ)
frame_on n place line = bytes_spelled (after_head (head_at n place) line)

-- the lines, of which the last may be without a newline
abbrev pub whole_lines : List (List ℕ) → List (List ℕ)
whole_lines [] = []
whole_lines (line ∷ []) = if has_bytes line then line ∷ [] else []
whole_lines (line ∷ next ∷ lines) = line ∷ whole_lines (next ∷ lines)

abbrev pub trace_lines : List ℕ → List (List ℕ)
trace_lines bytes = whole_lines (slice_split is_newline bytes)

-- ---- the two codes

abbrev pub bad_line : ℕ
bad_line = 12

abbrev pub ends_inside : ℕ
ends_inside = 13

-- the frame of a line, or the line as the first that is refused
abbrev pub or_refused : ℕ → Option (List ℕ) → Result (List ℕ) Refusal
or_refused line None = Err (record { line = line; code = bad_line })
or_refused line (Some frame) = Ok frame

-- the frames of the lines, behind those of the lines before
unfoldable pub frames_from : ℕ → List (List ℕ) → List (List ℕ) → Result (List (List ℕ)) Refusal
frames_from n taken [] = Ok taken
frames_from n taken (line ∷ lines) = do
  frame ← or_refused (length taken + 1) (frame_on n (length taken) line)
  frames_from n (taken ++ frame ∷ []) lines

-- the frames of whole cycles, of which there is one
abbrev pub if_whole : ℕ → ℕ → List (List ℕ) → Result (List (List ℕ)) Refusal
if_whole n last frames = if length frames == 0 || not (length frames % per_cycle n == 0) then Err (record { line = last; code = ends_inside }) else Ok frames

-- the trace that a text is, among n elements
unfoldable pub trace_of : ℕ → List ℕ → Result (List (List ℕ)) Refusal
trace_of n bytes = do
  frames ← frames_from n [] (trace_lines bytes)
  if_whole n (1 + count_by is_newline bytes) frames

-- ---- the verdict

-- A verdict is right: the trace follows and has that many cycles, or that frame is the first that is not expected.
abbrev pub Judges : TableValue → Option ℕ → List (List ℕ) → Verdict → Type 0
Judges table named trace (verdict.Follows cycles) = Follows table named trace × (length trace ≡ cycles * per_cycle table.n)
Judges table named trace (verdict.Breaks at from to) = Breaks table named trace at.cycle at.round from to

-- What is answered of a text: the verdict on its trace, or its first refused line and its code.
abbrev pub Audits : TableValue → Option ℕ → List ℕ → Result Verdict ScriptError → Type 0
Audits table named bytes (Ok judged) = (trace : List (List ℕ)) × (trace_of table.n bytes ≡ Ok trace) × Judges table named trace judged
Audits table named bytes (Err (At line code)) = trace_of table.n bytes ≡ Err (record { line = line; code = code })
Audits table named bytes (Err Memory) = ⊥
