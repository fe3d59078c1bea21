-- What comes from outside in each cycle of a played run is an input of the run.
use Rattle.std.proofs.Common.{◌≡◌, ℕ, zero, suc, ◌<◌, List, [], ◌∷◌, length, map, replicate, refl, arith, sym, ◌∙◌, subst, inl, inr}
use Rattle.std.specs.Prelude.{Option, Some, None, filter, ◌==◌}
use Rattle.std.specs.List.{AllByRecursion}
use Rattle.std.proofs.lemmas.List.{length-replicate}
use Rattle.std.proofs.lemmas.List.FromFn.{length-map-range_with_len}
use Rattle.ftpp_base.specs.Lists.{below, each_below, cell_at, is_this}
use Rattle.ftpp_base.specs.declared.element.Round.{Round}
use Rattle.ftpp_base.specs.declared.element.Round.TheVariants.{A1, B1}
use Rattle.ftpp_base.proofs.Among.{weaker, all-get_or, all-filter, either}
use Rattle.packet_format.specs.declared.acts.Act.{Act}
use Rattle.packet_format.specs.declared.acts.Act.TheVariants.{Post, Read}
use Rattle.bit_vote.specs.Vote.{Cell, IsCell}
use Rattle.two_round.proofs.Others.{IsSize}
use Rattle.frame_format.specs.Frames.{width_in, first_cell}
use Rattle.config_table.specs.Table.{TableValue, IsValid}
use Rattle.cluster.proofs.Reading.{none_cell, read_cell}
use Rattle.script_text.specs.Reading.{Plan}
use Rattle.script_text.specs.Printing.{IsOther, ActFits}
use Rattle.script_text.specs.Playable.{IsPlayable, IsThere, AreOthers, ActIsThere, EditIsThere}
use Rattle.element_core.specs.Cycle.{State, Input, Shown, step, shown_by}
use Rattle.element_core.specs.Sent.{frame_sent}
use Rattle.element_core.specs.Alone.{IsSound, IsInput, IsAct}
use Rattle.element_core.proofs.AloneLaws.{size_of}
use Rattle.element_core.proofs.Sound.{start_sound, step_sound, step_size}
use Rattle.report_text.specs.PlayedCycle.{Standing, is_of_cycle, acts_at, first_next, faulty_after, faulty_in, rejoined_in, slot_of, earlier_frame, frame_played, read_played, cell_played, first_cells, input_asked, with_patterns, input_played, cycle_played, own_frames, standing_after}
use Rattle.report_text.specs.PlayedRun.{standing_at, journal_of}
use Rattle.audited_runs.specs.ReadBack.{IsSpelled}
use Rattle.audited_runs.specs.Played.{PlaysInputs}
use Rattle.audited_runs.proofs.ByteFrames.{FitsEdit, all_made, none_spelled, sent_spelled, edited_spelled}

-- ---- what a script says of a cycle

-- who is faulty after a rejoin is there
abbrev IsNextThere : ℕ → ℕ × Option ℕ → Type 0
IsNextThere n entry = IsThere n entry.1

other_there : (n : ℕ) (faulty next : Option ℕ) → IsOther n faulty next → IsThere n next
other_there n faulty None is = tt
other_there n None (Some next) is = absurd is
other_there n (Some ne) (Some next) is = is.0

others_there : (n : ℕ) (faulty : Option ℕ) (rejoins : List (ℕ × Option ℕ)) → AreOthers n faulty rejoins → AllByRecursion (IsNextThere n) rejoins
others_there n faulty [] are = tt
others_there n faulty (entry ∷ rejoins) are = (other_there n faulty entry.1 are.0, others_there n entry.1 rejoins are.1)

after_there : (n : ℕ) (faulty : Option ℕ) (entries : List (ℕ × Option ℕ)) → IsThere n faulty → AllByRecursion (IsNextThere n) entries → IsThere n (faulty_after faulty (first_next entries))
after_there n faulty [] is are = is
after_there n faulty (entry ∷ entries) is are = are.0

pub faulty_there : (n : ℕ) (plan : Plan) (before : Standing) → IsPlayable n plan → IsThere n before.faulty → IsThere n (faulty_in plan before)
faulty_there n plan before playable is =
    let due = is_of_cycle before.state.cycle in
    after_there n before.faulty (filter due plan.rejoins) is (all-filter (IsNextThere n) due plan.rejoins (others_there n plan.faulty plan.rejoins playable.rejoins))

-- its acts are whole
act_whole : (n : ℕ) (act : Act) → ActFits n act → IsAct act
act_whole n (Post proc desc packet) fits = record { dest = fits.2; class = fits.3; source = fits.4; row = record { long = fits.5; bytes = fits.6 } }
act_whole n (Read proc) fits = tt

acts_whole : (n : ℕ) (entries : List (ℕ × Act)) → AllByRecursion (ActIsThere n) entries → AllByRecursion IsAct (map (λ (entry : ℕ × Act). entry.1) entries)
acts_whole n [] are = tt
acts_whole n (entry ∷ entries) are = (act_whole n entry.1 are.0, acts_whole n entries are.1)

-- its edits fit
edits_fit : (n : ℕ) (plan : Plan) → IsPlayable n plan → AllByRecursion FitsEdit plan.edits
edits_fit n plan playable = weaker (EditIsThere n plan.faulty plan.rejoins) FitsEdit (λ edit is. is.1) plan.edits playable.edits

-- ---- before a cycle

-- The state is sound, among n elements; the faulty element is there; a line can spell what its core made in the cycle before.
pub record Stands (n : ℕ) (before : Standing) : Type 0 where
  pub sound : IsSound before.state
  pub size : before.state.table.n ≡ n
  pub there : IsThere n before.faulty
  pub own : (round : Round) → IsSpelled (before.own round)

pub small : (n ne : ℕ) → IsSize n → ne < n → ne < 256
small n ne (inl e) l = omega arith
small n ne (inr e) l = omega arith

-- cells of a width, one for each element
record AreCells (wide n : ℕ) (cells : List Cell) : Type 0 where
  count : length cells ≡ n
  each : (s : ℕ) → IsCell wide (cell_at cells s)

no_cells : (wide n : ℕ) → AreCells wide n (replicate n None)
no_cells wide n = record { count = length-replicate n None; each = none_cell wide n }

named : (n : ℕ) (f : Option ℕ) (ne : ℕ) → IsThere n f → f ≡ Some ne → ne < n
named n None ne is e = absurd cc
named n (Some m) ne is e = let same : m ≡ ne = cc in subst (λ (k : ℕ). k < n) same is

module _ (n : ℕ) (plan : Plan) (before : Standing) (playable : IsPlayable n plan) (h : Stands n before) where
  abbrev s : State
  s = before.state

  -- the script's part of what comes from outside, with some cells
  abbrev with_cells : List Cell → List Cell → Input
  with_cells patterns packets = record { rejoined = rejoined_in plan before; faulty = faulty_in plan before; acts = acts_at plan s.cycle; patterns = patterns; packets = packets }

  is_with : (patterns packets : List Cell) → AreCells 32 n patterns → AreCells 64 n packets → IsInput n (with_cells patterns packets)
  is_with patterns packets p q = record {
    faulty = λ ne e. named n (faulty_in plan before) ne (faulty_there n plan before playable h.there) e;
    acts = acts_whole n (filter (is_of_cycle s.cycle) plan.acts) (all-filter (ActIsThere n) (is_of_cycle s.cycle) plan.acts playable.acts);
    patterns = p.count;
    packets = q.count;
    pattern_cells = p.each;
    packet_cells = q.each;
  }

  here : (input : Input) → IsInput n input → IsInput s.table.n input
  here input is = subst (λ (k : ℕ). IsInput k input) (sym h.size) is

  -- what the edits make of a frame
  pub played_spelled : (ne : ℕ) (round : Round) (own : List ℕ) (to : ℕ) → IsSpelled own → IsSpelled (frame_played plan before ne round own to)
  played_spelled ne round own to is =
      edited_spelled plan.edits (slot_of before round) to (earlier_frame before ne round) own (edits_fit n plan playable)
      (either IsSpelled (is_this before.faulty ne) (before.own round) [] (h.own round) none_spelled) is

  -- what it reads as
  cell_is : (shown : Shown) (round : Round) (f : Option ℕ) (to : ℕ) → ((ne : ℕ) → f ≡ Some ne → IsSpelled (frame_sent shown round ne)) → IsCell (width_in round) (cell_played plan before shown round f to)
  cell_is shown round None to is = tt
  cell_is shown round (Some ne) to is =
      let made = frame_played plan before ne round (frame_sent shown round ne) to in
      either (IsCell (width_in round)) (ne == to) None (first_cell (read_played before round ne made)) tt
      (read_cell s.table.n (slot_of before round) ne made 0 (played_spelled ne round (frame_sent shown round ne) to (is ne refl)).bytes)

  cells_are : (shown : Shown) (round : Round) → ((ne : ℕ) → ne < 256 → IsSpelled (frame_sent shown round ne)) → AreCells (width_in round) n (first_cells plan before shown round)
  cells_are shown round is =
      let cell = cell_played plan before shown round (faulty_in plan before) in
      let each = λ (to : ℕ). cell_is shown round (faulty_in plan before) to
      (λ ne e. is ne (small s.table.n ne (size_of s h.sound) (subst (λ (k : ℕ). ne < k) (sym h.size) (named n (faulty_in plan before) ne (faulty_there n plan before playable h.there) e)))) in
      record {
        count = length-map-range_with_len cell 0 s.table.n ∙ h.size;
        each = λ k. all-get_or (IsCell (width_in round)) (each_below s.table.n cell) k None (all_made (IsCell (width_in round)) cell (below s.table.n) each) tt;
      }

  -- what its core sends in A1 does not depend on cells from outside, and in B1 on those of packets
  first_sent : (ne : ℕ) → ne < 256 → IsSpelled (frame_sent (step s (input_asked plan before)).shown A1 ne)
  unfolding step shown_by
  first_sent ne l = sent_spelled s (with_cells (replicate n None) (replicate n None)) A1 ne h.sound (here (with_cells (replicate n None) (replicate n None)) (is_with (replicate n None) (replicate n None) (no_cells 32 n) (no_cells 64 n))) l

  abbrev patterns : List Cell
  patterns = first_cells plan before (step s (input_asked plan before)).shown A1

  patterns_are : AreCells 32 n patterns
  patterns_are = cells_are (step s (input_asked plan before)).shown A1 first_sent

  abbrev half : Input
  half = with_patterns plan before (input_asked plan before)

  second_sent : (ne : ℕ) → ne < 256 → IsSpelled (frame_sent (step s half).shown B1 ne)
  unfolding step shown_by
  second_sent ne l = sent_spelled s (with_cells patterns (replicate n None)) B1 ne h.sound (here (with_cells patterns (replicate n None)) (is_with patterns (replicate n None) patterns_are (no_cells 64 n))) l

  pub is_input : IsInput n (input_played plan before)
  unfolding input_played
  is_input = is_with patterns (first_cells plan before (step s half).shown B1) patterns_are (cells_are (step s half).shown B1 second_sent)

  -- a frame that a core makes
  pub made_spelled : (round : Round) (ne : ℕ) → ne < n → IsSpelled (frame_sent (cycle_played plan before).shown round ne)
  unfolding cycle_played
  made_spelled round ne l =
      sent_spelled s (input_played plan before) round ne h.sound (here (input_played plan before) is_input) (small s.table.n ne (size_of s h.sound) (subst (λ (k : ℕ). ne < k) (sym h.size) l))

  own_spelled : (f : Option ℕ) (round : Round) → IsThere n f → IsSpelled (own_frames (cycle_played plan before).shown f round)
  own_spelled None round is = none_spelled
  own_spelled (Some ne) round is = made_spelled round ne is

  pub stands_after : Stands n (standing_after plan before)
  unfolding cycle_played
  stands_after = record {
    sound = step_sound s (input_played plan before) h.sound (here (input_played plan before) is_input);
    size = step_size s (input_played plan before) ∙ h.size;
    there = faulty_there n plan before playable h.there;
    own = λ round. own_spelled (faulty_in plan before) round (faulty_there n plan before playable h.there);
  }

-- ---- in a run

pub stands_at : (table : TableValue) (plan : Plan) (k : ℕ) → IsValid table → IsPlayable table.n plan → Stands table.n (standing_at table plan k)
stands_at table plan zero valid playable = record { sound = start_sound table valid; size = refl; there = playable.first; own = λ round. none_spelled }
stands_at table plan (suc k) valid playable = stands_after table.n plan (standing_at table plan k) playable (stands_at table plan k valid playable)

pub plays_inputs : PlaysInputs
unfolding journal_of
plays_inputs table plan valid playable =
    all_made (IsInput table.n) (λ cycle. input_played plan (standing_at table plan cycle)) (below plan.cycles)
    (λ k. is_input table.n plan (standing_at table plan k) playable (stands_at table plan k valid playable))
