-- Worked scripts on four elements: the whole report, and lines of the trace.
use Rattle.std.proofs.Common.{◌≡◌, ℕ, List, [], ◌∷◌, ◌++◌, map, take, refl}
use Rattle.std.specs.Prelude.{Some, None, codes}
use Rattle.std.specs.Fmt.{digits}
use Rattle.hex.specs.Hex.{encode_with}
use Rattle.ftpp_base.specs.declared.element.Round.{Round}
use Rattle.ftpp_base.specs.declared.element.Round.TheVariants.{A1}
use Rattle.frame_format.specs.Frames.{decoded}
use Rattle.fault_script.specs.declared.Edit.{Edit}
use Rattle.fault_script.specs.declared.EditKind.TheVariants.{Flip, Repeat}
use Rattle.fault_script.specs.Edited.{is_of, edited_frame}
use Rattle.script_text.specs.Reading.{Plan}
use Rattle.packet_format.specs.declared.acts.Act.{Act}
use Rattle.element_core.proofs.WorkedParts.{worked, four_elements, posts_at, updates_by, to_three}
use Rattle.report_text.specs.Words.{packet_text, proc_text, delivered_text, request_text, entry_text, elements_text}
use Rattle.report_text.specs.Lines.{trace_line, first_line, rejoin_line, full_line, none_line, got_line, pattern_line, serve_line, discard_line, result_line, refused_line, deliver_line, syndrome_line, end_line}
use Rattle.report_text.specs.Report.{shown_lines, rest_lines, cycle_lines}
use Rattle.report_text.specs.PlayedCycle.{input_played, cycle_played, frame_between}
use Rattle.report_text.specs.PlayedRun.{standing_at, shown_in, lines_at, totals_played, report_text}

-- what these compute with
unfoldable texts : Unit {0}
unfolding worked digits encode_with decoded is_of edited_frame packet_text proc_text delivered_text request_text entry_text elements_text trace_line first_line rejoin_line full_line none_line got_line pattern_line serve_line discard_line result_line refused_line deliver_line syndrome_line end_line shown_lines rest_lines cycle_lines input_played cycle_played totals_played report_text
texts = tt

-- a change of one byte of the faulty element's frame of a round to an element
abbrev flip : ℕ → Round → ℕ → ℕ → ℕ → Edit
flip cycle round to offset bits = record { cycle = cycle; round = Some round; to = Some to; what = Flip offset bits }

-- the acts of a cycle
abbrev in_cycle : ℕ → List Act → List (ℕ × Act)
in_cycle cycle acts = map (λ act. (cycle, act)) acts

-- ---- posts of three members, voted

abbrev voted_posts : Plan
voted_posts = record { cycles = 1; faulty = None; acts = in_cycle 0 (posts_at (0 ∷ 1 ∷ 2 ∷ []) 1 to_three (0x41 ∷ [])); edits = []; rejoins = [] }

voted_posts_report : report_text four_elements voted_posts
    ≡ codes "cycle 0\npattern 0 2 3:3:1:0 2 2 2 2 2 2\npattern 1 2 3:3:1:0 2 2 2 2 2 2\npattern 2 2 3:3:1:0 2 2 2 2 2 2\npattern 3 2 2 2 2 2 2 2 2\nserve 2 to 3 class 1 kind voted waited 0 admitted 0 1 2\nresult 0 41\nresult 1 41\nresult 2 41\nresult 3 41\ndeliver 1.2 stored\ndeliver 2.2 stored\ndeliver 3.2 stored\nend cycles 1 served 1 discarded 0 idle 0 stored 3 overrun 0 syndromes 0\n"
unfolding texts
voted_posts_report = refl

-- ---- a two-faced pattern

abbrev two_faced_pattern : Plan
two_faced_pattern = record { cycles = 1; faulty = Some 3; acts = []; edits = flip 0 A1 0 7 1 ∷ flip 0 A1 1 7 2 ∷ []; rejoins = [] }

two_faced_pattern_report : report_text four_elements two_faced_pattern
    ≡ codes "cycle 0\npattern 0 2 2 2 2 2 2 2 2\npattern 1 2 2 2 2 2 2 2 2\npattern 2 2 2 2 2 2 2 2 2\npattern 3 2 2 2 2 2 2 2 2\nidle\nsyndrome 0 P1 3 3\nsyndrome 0 P2 1 3\nsyndrome 1 P1 3 3\nsyndrome 1 P2 0 3\nsyndrome 2 P2 0 3\nsyndrome 2 P2 1 3\nend cycles 1 served 0 discarded 0 idle 1 stored 0 overrun 0 syndromes 6\n"
unfolding texts
two_faced_pattern_report = refl

-- ---- an element that rejoins, and another that is faulty from then on

abbrev rejoined_element : Plan
rejoined_element = record {
  cycles = 3;
  faulty = Some 3;
  acts = in_cycle 0 (updates_by (0 ∷ 1 ∷ 2 ∷ 3 ∷ []) (1 ∷ 2 ∷ [])) ++ in_cycle 1 (posts_at (1 ∷ 2 ∷ []) 1 to_three (0x55 ∷ []));
  edits = [];
  rejoins = (1, Some 2) ∷ [];
}

rejoined_element_lines : lines_at four_elements rejoined_element 1
    ≡ codes "cycle 1\nrejoin 3 taken\npattern 0 2 2 2 2 2 2 2 2\npattern 1 2 3:3:1:0 2 2 2 2 2 2\npattern 2 2 3:3:1:0 2 2 2 2 2 2\npattern 3 2 2 2 2 2 2 2 2\nserve 2 to 3 class 1 kind every waited 0 admitted 1 2\nresult 0 55\nresult 1 55\nresult 3 55\ndeliver 1.2 stored\ndeliver 3.2 stored\n"
unfolding texts
rejoined_element_lines = refl

rejoined_element_end : end_line (totals_played four_elements rejoined_element) ≡ codes "end cycles 3 served 2 discarded 0 idle 1 stored 2 overrun 0 syndromes 0\n"
unfolding texts
rejoined_element_end = refl

-- ---- a repeated frame: no bytes in the first cycle, and in the next the frame of the first, which reads as no cell there

abbrev repeats : Plan
repeats = record { cycles = 2; faulty = Some 3; acts = []; edits = repeat 0 ∷ repeat 1 ∷ []; rejoins = [] } where
  repeat : ℕ → Edit
  repeat cycle = record { cycle = cycle; round = Some A1; to = None; what = Repeat }

abbrev sent_to_first : ℕ → List ℕ
sent_to_first cycle = frame_between repeats (standing_at four_elements repeats cycle) (shown_in four_elements repeats cycle) A1 3 0

repeats_nothing : sent_to_first 0 ≡ []
unfolding texts
repeats_nothing = refl

repeats_first : take 7 (sent_to_first 1) ≡ 0xa1 ∷ 0 ∷ 0 ∷ 0 ∷ 0 ∷ 3 ∷ 1 ∷ []
unfolding texts
repeats_first = refl

repeats_lines : lines_at four_elements repeats 1
    ≡ codes "cycle 1\npattern 0 2 2 2 2 2 2 2 2\npattern 1 2 2 2 2 2 2 2 2\npattern 2 2 2 2 2 2 2 2 2\npattern 3 0 0 0 0 0 0 0 0\nidle\n"
unfolding texts
repeats_lines = refl
