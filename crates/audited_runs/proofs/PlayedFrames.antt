-- The frames of a played run are those of the run of its journal, a line can spell each, and they are what is carried.
use Rattle.std.proofs.Common.{◌≡◌, ◌≢◌, ℕ, zero, suc, ◌+◌, ◌<◌, Bool, true, false, cond, List, ◌++◌, map, refl, ap, arith, sym, ◌∙◌, subst}
use Rattle.std.specs.Prelude.{Option, None}
use Rattle.std.specs.List.{flat_map, range_with_len}
use Rattle.std.proofs.lemmas.Bool.{ne_eqb}
use Rattle.ftpp_base.specs.Lists.{below, cell_at, is_this}
use Rattle.ftpp_base.specs.declared.element.Round.{Round}
use Rattle.ftpp_base.specs.declared.element.Round.TheVariants.{A1, B1}
use Rattle.two_round.proofs.Agreement.{at_place}
use Rattle.two_round.proofs.Held.{is_this-true}
use Rattle.frame_format.specs.Frames.{first_cell}
use Rattle.config_table.specs.Table.{TableValue}
use Rattle.script_text.specs.Reading.{Plan}
use Rattle.script_text.specs.Playable.{IsPlayable}
use Rattle.element_core.specs.Cycle.{State, Input, Shown, step, shown_by}
use Rattle.element_core.specs.Sent.{frame_sent}
use Rattle.ftpp_base.proofs.Among.{either}
use Rattle.report_text.specs.Trace.{cycle_frames}
use Rattle.report_text.specs.PlayedCycle.{Standing, faulty_in, frame_played, read_played, cell_played, first_cells, input_asked, with_patterns, input_played, cycle_played, frame_between}
use Rattle.report_text.specs.PlayedRun.{standing_at, journal_of, frames_at, frames_played}
use Rattle.trace_audit.specs.Laws.{AreFramesOf, AreRunFrames}
use Rattle.audited_runs.specs.ReadBack.{IsSpelled, AreSpelled, carried_from}
use Rattle.audited_runs.specs.Played.{frames_in_cycle, PlaysRunFrames}
use Rattle.audited_runs.proofs.ByteFrames.{all_made}
use Rattle.audited_runs.proofs.PlayedInputs.{Stands, played_spelled, made_spelled, stands_at}

-- ---- one cycle

module _ (plan : Plan) (before : Standing) where
  -- a frame of an element that is not faulty, and of the faulty one
  by_fine : (shown : Shown) (round : Round) (from to : ℕ) → is_this (faulty_in plan before) from ≡ false → frame_between plan before shown round from to ≡ frame_sent shown round from
  by_fine shown round from to e = ap (λ (b : Bool). cond b (frame_played plan before from round (frame_sent shown round from) to) (frame_sent shown round from)) e

  by_faulty : (shown : Shown) (round : Round) (from to : ℕ) → is_this (faulty_in plan before) from ≡ true → frame_between plan before shown round from to ≡ frame_played plan before from round (frame_sent shown round from) to
  by_faulty shown round from to e = ap (λ (b : Bool). cond b (frame_played plan before from round (frame_sent shown round from) to) (frame_sent shown round from)) e

  -- what the faulty one's frame of a first round reads as
  cell_read : (shown : Shown) (round : Round) (f : Option ℕ) (from to : ℕ) → is_this f from ≡ true → from ≢ to
      → cell_played plan before shown round f to ≡ first_cell (read_played before round from (frame_played plan before from round (frame_sent shown round from) to))
  cell_read shown round f from to e away =
      let cell = first_cell (read_played before round from (frame_played plan before from round (frame_sent shown round from) to)) in
      ap (λ (o : Option ℕ). cell_played plan before shown round o to) (is_this-true f from e)
      ∙ ap (λ (b : Bool). cond b None cell) (ne_eqb from to away)

  -- in a cycle that shows the same of that round
  cell_same : (shown other : Shown) (round : Round) (from to : ℕ) → to < before.state.table.n → from ≢ to → is_this (faulty_in plan before) from ≡ true
      → frame_sent shown round from ≡ frame_sent other round from
      → first_cell (read_played before round from (frame_between plan before shown round from to)) ≡ cell_at (first_cells plan before other round) to
  cell_same shown other round from to l away e same =
      ap (λ (bytes : List ℕ). first_cell (read_played before round from bytes))
      (by_faulty shown round from to e ∙ ap (λ (own : List ℕ). frame_played plan before from round own to) same)
      ∙ sym (cell_read other round (faulty_in plan before) from to e away)
      ∙ sym (at_place before.state.table.n (cell_played plan before other round (faulty_in plan before)) to None l)

  abbrev shown_then : Shown
  shown_then = (cycle_played plan before).shown

  first_same : (from : ℕ) → frame_sent shown_then A1 from ≡ frame_sent (step before.state (input_asked plan before)).shown A1 from
  unfolding cycle_played input_played step shown_by
  first_same from = refl

  second_same : (from : ℕ) → frame_sent shown_then B1 from ≡ frame_sent (step before.state (with_patterns plan before (input_asked plan before))).shown B1 from
  unfolding cycle_played input_played step shown_by
  second_same from = refl

  -- its frames are those of the cycle
  frames_are : AreFramesOf shown_then (input_played plan before) (frame_between plan before shown_then)
  unfolding cycle_played input_played step shown_by
  frames_are = record {
    honest = λ round from to l m away fine. by_fine shown_then round from to fine;
    patterns = λ from to m away bad. cell_same shown_then (step before.state (input_asked plan before)).shown A1 from to m away bad (first_same from);
    packets = λ from to m away bad. cell_same shown_then (step before.state (with_patterns plan before (input_asked plan before))).shown B1 from to m away bad (second_same from);
  }

-- a line can spell each
frames_spelled : (n : ℕ) (plan : Plan) (before : Standing) → IsPlayable n plan → Stands n before → AreSpelled n (frame_between plan before (cycle_played plan before).shown)
frames_spelled n plan before playable h round from to l m away =
    let own = frame_sent (cycle_played plan before).shown round from in
    let is = made_spelled n plan before playable h round from l in
    either IsSpelled (is_this (faulty_in plan before) from) (frame_played plan before from round own to) own (played_spelled n plan before playable h from round own to is) is

-- ---- the cycles of a run

module _ (table : TableValue) (plan : Plan) where
  abbrev input_at : ℕ → Input
  input_at cycle = input_played plan (standing_at table plan cycle)

  next_state : (k : ℕ) → (step (standing_at table plan k).state (input_at k)).state ≡ (standing_at table plan (suc k)).state
  unfolding cycle_played
  next_state k = refl

  here : (k : ℕ) → AreFramesOf (step (standing_at table plan k).state (input_at k)).shown (input_at k) (frames_in_cycle table plan k)
  unfolding cycle_played
  here k = frames_are plan (standing_at table plan k)

  run_from : (a n : ℕ) → AreRunFrames (standing_at table plan a).state (map input_at (range_with_len a n)) (map (frames_in_cycle table plan) (range_with_len a n))
  run_from a zero = tt
  run_from a (suc n) =
      let one : a + 1 ≡ suc a = omega arith in (
        here a,
        subst (λ (s : State). AreRunFrames s (map input_at (range_with_len (a + 1) n)) (map (frames_in_cycle table plan) (range_with_len (a + 1) n)))
            (ap (λ (k : ℕ). (standing_at table plan k).state) one ∙ sym (next_state a)) (run_from (a + 1) n),
      )

  carried_same : ((k : ℕ) → (standing_at table plan k).state.table.n ≡ table.n) → (a n : ℕ) → flat_map (frames_at table plan) (range_with_len a n) ≡ carried_from table.n a (map (frames_in_cycle table plan) (range_with_len a n))
  carried_same size a zero = refl
  carried_same size a (suc n) = λ i. cycle_frames (size a i) a (frames_in_cycle table plan a) ++ carried_same size (a + 1) n i

pub plays_run_frames : PlaysRunFrames
unfolding journal_of frames_played
plays_run_frames table plan valid playable = record {
  of_run = run_from table plan 0 plan.cycles;
  spelled = all_made (AreSpelled table.n) (frames_in_cycle table plan) (below plan.cycles) (λ k. frames_spelled table.n plan (standing_at table plan k) playable (stands_at table plan k valid playable));
  carried = carried_same table plan (λ k. (stands_at table plan k valid playable).size) 0 plan.cycles;
}
