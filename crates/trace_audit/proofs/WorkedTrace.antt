-- A worked trace of one cycle among four elements: element 3 tells element 1 another pattern of element 0.
use Rattle.std.proofs.Common.{◌≡◌, ℕ, List, [], ◌∷◌, Bool, filter, map, not, refl}
use Rattle.std.specs.Prelude.{Option, Some, None, ◌&&◌, ◌==◌, if◌then◌else◌}
use Rattle.std.specs.List.{flat_map}
use Rattle.ftpp_base.specs.Lists.{below, others, is_this, change_at}
use Rattle.ftpp_base.specs.declared.element.Round.{Round}
use Rattle.ftpp_base.specs.declared.element.Round.TheVariants.{A1, A2, B1, B2}
use Rattle.bit_vote.specs.Vote.{Cell}
use Rattle.frame_format.specs.Frames.{frame_bytes, decoded}
use Rattle.element_core.specs.Cycle.{Shown, start, step}
use Rattle.element_core.specs.Run.{no_input}
use Rattle.element_core.specs.Sent.{cells_sent}
use Rattle.element_core.proofs.WorkedParts.{worked, flipped, four_elements}
use Rattle.trace_audit.specs.Known.{Frames, known_first, known_after, round_told, pattern_told, decision_told, is_expected, shows_port, still_standing, still_column, update_told, known_served}
use Rattle.trace_audit.specs.Trace.{all_rounds}

-- what a trace is computed with
unfoldable pub traced : Unit {0}
unfolding worked round_told pattern_told decision_told is_expected shows_port still_standing still_column update_told known_served known_after decoded
traced = tt

-- the frames of a cycle in which nothing is asked for
abbrev first : Shown
first = (step (start four_elements) no_input).shown

abbrev false_cells : Round → ℕ → ℕ → List Cell → List Cell
false_cells A1 from to cells = cells
false_cells A2 from to cells = if from == 3 && to == 1 then change_at (flipped 0 1) cells 0 else cells
false_cells B1 from to cells = cells
false_cells B2 from to cells = cells

abbrev false_echo : Frames
false_echo round from to = frame_bytes (record { cycle = 0; round = round }) from (false_cells round from to (cells_sent first round from))

-- the frames that are not expected, in the order of a trace
abbrev Link : Type 0
Link = Round × ℕ × ℕ

abbrev is_wrong : Option ℕ → Frames → Link → Bool
is_wrong named frames link = not (is_this named link.1) && not (is_expected (known_first four_elements) named frames link.0 link.1 link.2)

abbrev links_from : Round → ℕ → List Link
links_from round from = map (λ to. (round, from, to)) (others 4 from)

abbrev links_in : Round → List Link
links_in round = flat_map (links_from round) (below 4)

abbrev unexpected : Option ℕ → Frames → List Link
unexpected named frames = filter (is_wrong named frames) (flat_map links_in all_rounds)

-- with element 3 named the trace follows
follows_for_three : unexpected (Some 3) false_echo ≡ []
unfolding traced
follows_for_three = refl

-- for another, or for none, its frame of A2 to element 1 is the one that is not expected
breaks_for_none : unexpected None false_echo ≡ (A2, 3, 1) ∷ []
unfolding traced
breaks_for_none = refl

breaks_for_zero : unexpected (Some 0) false_echo ≡ (A2, 3, 1) ∷ []
unfolding traced
breaks_for_zero = refl
