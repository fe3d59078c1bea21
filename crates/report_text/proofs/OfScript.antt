-- A cycle in which the fault-free elements send what they make, and the faulty one what the edits make of that, is the script's.
use Rattle.std.proofs.Common.{◌≡◌, ◌≢◌, ℕ, zero, suc, ◌+◌, ◌<◌, Bool, true, false, List, [], ◌∷◌, length, map, refl, ap, sym, ◌∙◌, arith}
use Rattle.std.specs.Prelude.{Option, Some, None, ◌==◌, if◌then◌else◌}
use Rattle.std.specs.List.{range_with_len}
use Rattle.std.proofs.lemmas.Bool.{eqb-true, eq-eqb, false≢true}
use Rattle.std.proofs.lemmas.List.FromFn.{length-map-range_with_len}
use Rattle.ftpp_base.specs.Lists.{each_below, is_this}
use Rattle.ftpp_base.specs.declared.element.Round.{Round}
use Rattle.ftpp_base.specs.declared.element.Round.TheVariants.{A1, A2, B1, B2}
use Rattle.bit_vote.specs.Vote.{Cell}
use Rattle.frame_format.specs.Frames.{first_cell}
use Rattle.fault_script.specs.Plays.{Told}
use Rattle.script_text.specs.Reading.{Plan}
use Rattle.two_round.proofs.Agreement.{at_place}
use Rattle.element_core.specs.Cycle.{State, Input, Shown, step, shown_by}
use Rattle.element_core.specs.Sent.{frame_sent}
use Rattle.element_core.specs.Told.{told_at}
use Rattle.report_text.specs.PlayedCycle.{Standing, slot_of, faulty_in, frame_played, read_played, cell_played, first_cells, relays_by, input_asked, with_patterns, input_played, cycle_played, frame_between, told_played, report_played}
use Rattle.report_text.specs.Laws.{PlaysScript, IsPlayed, PlaysAsScript, cell_by, relays_from, ReportsAsScript}
use Rattle.report_text.proofs.Repeated.{made_is}

-- ---- lists with one entry for each number

range_same : {A : Type 0} (f g : ℕ → A) (a n : ℕ) → ((k : ℕ) → k < a + n → f k ≡ g k) → map f (range_with_len a n) ≡ map g (range_with_len a n)
range_same f g a zero h = refl
range_same f g a (suc n) h = λ i. h a (omega arith) i ∷ range_same f g (a + 1) n (λ k l. h k (omega arith)) i

pub each_same : {A : Type 0} (n : ℕ) (f g : ℕ → A) → ((k : ℕ) → k < n → f k ≡ g k) → each_below n f ≡ each_below n g
each_same n f g h = range_same f g 0 n (λ k l. h k (omega arith))

-- ---- what a frame is made of

-- what an element sends in A1 is made of its own queues, and what it sends in B1 of the agreed pattern too
shown_first : (s : State) (input : Input) (patterns packets : List Cell) (ne : ℕ)
    → frame_sent (step s input).shown A1 ne
    ≡ frame_sent (step s (record { rejoined = input.rejoined; faulty = input.faulty; acts = input.acts; patterns = patterns; packets = packets })).shown A1 ne
unfolding step shown_by
shown_first s input patterns packets ne = refl

served_first : (s : State) (input : Input) (packets : List Cell) (ne : ℕ)
    → frame_sent (step s input).shown B1 ne
    ≡ frame_sent (step s (record { rejoined = input.rejoined; faulty = input.faulty; acts = input.acts; patterns = input.patterns; packets = packets })).shown B1 ne
unfolding step shown_by
served_first s input packets ne = refl

-- ---- what comes from outside

other_than : (ne to : ℕ) → (ne == to) ≡ false → to ≢ ne
other_than ne to e same = let here : (ne == to) ≡ true = eq-eqb ne to (sym same) in absurd (false≢true (sym e ∙ here))

choose_other : {A : Type 0} (b : Bool) (none one other : A) → (b ≡ false → one ≡ other) → (if b then none else one) ≡ (if b then none else other)
choose_other true none one other h = refl
choose_other false none one other h = h refl

-- the cell that the faulty element's frame reads as, where its frames are those of the script in a cycle that shows this
cell_same : (plan : Plan) (before : Standing) (shown : Shown) (round : Round) (frames : ℕ → ℕ → List ℕ) (f : Option ℕ) (to : ℕ)
    → ((ne : ℕ) → f ≡ Some ne → to ≢ ne → frames ne to ≡ frame_played plan before ne round (frame_sent shown round ne) to)
    → cell_by before.state.table.n (slot_of before round) f frames to ≡ cell_played plan before shown round f to
cell_same plan before shown round frames None to h = refl
cell_same plan before shown round frames (Some ne) to h =
    choose_other (ne == to) None (first_cell (read_played before round ne (frames ne to))) (first_cell (read_played before round ne (frame_played plan before ne round (frame_sent shown round ne) to)))
    (λ e. ap (λ bytes. first_cell (read_played before round ne bytes)) (h ne refl (other_than ne to e)))

-- the frames of the faulty element
edited_is : (plan : Plan) (before : Standing) (told : Told) (frames : Round → ℕ → ℕ → List ℕ) (input : Input) → PlaysScript plan before told → IsPlayed plan before told frames input
    → (round : Round) (ne to : ℕ) → faulty_in plan before ≡ Some ne → to < before.state.table.n → to ≢ ne
    → frames round ne to ≡ frame_played plan before ne round (frame_sent (step before.state input).shown round ne) to
edited_is plan before told frames input keeps h round ne to f l other =
    h.edited round ne to (h.faulty ∙ f) l other ∙ made_is plan before told round ne (step before.state input).shown to keeps

-- what the frames of a first round read as, where the core makes what it makes in a cycle with less from outside
cells_are : (plan : Plan) (before : Standing) (told : Told) (frames : Round → ℕ → ℕ → List ℕ) (input : Input) → PlaysScript plan before told → IsPlayed plan before told frames input
    → (round : Round) (less : Input) → ((ne : ℕ) → frame_sent (step before.state input).shown round ne ≡ frame_sent (step before.state less).shown round ne)
    → each_below before.state.table.n (cell_by before.state.table.n (slot_of before round) input.faulty (frames round)) ≡ first_cells plan before (step before.state less).shown round
cells_are plan before told frames input keeps h round less same =
    ap (λ f. each_below before.state.table.n (cell_by before.state.table.n (slot_of before round) f (frames round))) h.faulty
    ∙ each_same before.state.table.n (cell_by before.state.table.n (slot_of before round) (faulty_in plan before) (frames round)) (cell_played plan before (step before.state less).shown round (faulty_in plan before))
    (λ to l. cell_same plan before (step before.state less).shown round (frames round) (faulty_in plan before) to
    (λ ne f other. edited_is plan before told frames input keeps h round ne to f l other ∙ ap (λ own. frame_played plan before ne round own to) (same ne)))

input_is : (plan : Plan) (before : Standing) (told : Told) (frames : Round → ℕ → ℕ → List ℕ) (input : Input) → PlaysScript plan before told → IsPlayed plan before told frames input
    → input ≡ input_played plan before
unfolding input_played
input_is plan before told frames input keeps h =
    let asked = input_asked plan before in
    let half = with_patterns plan before asked in
    let shows : (ne : ℕ) → frame_sent (step before.state input).shown A1 ne ≡ frame_sent (step before.state asked).shown A1 ne =
    λ ne. shown_first before.state input [] [] ne ∙ (λ i. frame_sent (step before.state (record { rejoined = h.rejoined i; faulty = h.faulty i; acts = h.acts i; patterns = []; packets = [] })).shown A1 ne) in
    let patterns : input.patterns ≡ half.patterns = h.patterns ∙ cells_are plan before told frames input keeps h A1 asked shows in
    let serves : (ne : ℕ) → frame_sent (step before.state input).shown B1 ne ≡ frame_sent (step before.state half).shown B1 ne =
    λ ne. served_first before.state input [] ne ∙ (λ i. frame_sent (step before.state (record { rejoined = h.rejoined i; faulty = h.faulty i; acts = h.acts i; patterns = patterns i; packets = [] })).shown B1 ne) in
    let packets : input.packets ≡ first_cells plan before (step before.state half).shown B1 = h.packets ∙ cells_are plan before told frames input keeps h B1 half serves in
    λ i. record { rejoined = h.rejoined i; faulty = h.faulty i; acts = h.acts i; patterns = patterns i; packets = packets i }

shown_is : (plan : Plan) (before : Standing) (input : Input) → input ≡ input_played plan before → (step before.state input).shown ≡ (cycle_played plan before).shown
unfolding cycle_played
shown_is plan before input e = ap (λ x. (step before.state x).shown) e

-- ---- the frames

named_this : (f : Option ℕ) (ne : ℕ) → is_this f ne ≡ true → f ≡ Some ne
named_this None ne e = absurd (false≢true e)
named_this (Some m) ne e = ap Some (eqb-true m ne e)

frame_by : (plan : Plan) (before : Standing) (told : Told) (frames : Round → ℕ → ℕ → List ℕ) (input : Input) → PlaysScript plan before told → IsPlayed plan before told frames input
    → (round : Round) (from to : ℕ) → from < before.state.table.n → to < before.state.table.n → from ≢ to → (b : Bool) → is_this (faulty_in plan before) from ≡ b
    → frames round from to ≡ (if b then frame_played plan before from round (frame_sent (step before.state input).shown round from) to else frame_sent (step before.state input).shown round from)
frame_by plan before told frames input keeps h round from to l m other true e =
    edited_is plan before told frames input keeps h round from to (named_this (faulty_in plan before) from e) m (λ same. other (sym same))
frame_by plan before told frames input keeps h round from to l m other false e = h.others round from to l m other (ap (λ f. is_this f from) h.faulty ∙ e)

pub plays_as_script : PlaysAsScript
plays_as_script plan before told frames input keeps h =
    let same = input_is plan before told frames input keeps h in
    record {
      outside = same;
      sent = λ round from to l m other.
          frame_by plan before told frames input keeps h round from to l m other (is_this (faulty_in plan before) from) refl
          ∙ ap (λ shown. frame_between plan before shown round from to) (shown_is plan before input same);
    }

-- ---- the report

relays_are : (plan : Plan) (before : Standing) (frames : Round → ℕ → ℕ → List ℕ) (shown : Shown) (f : Option ℕ) (me : ℕ)
    → ((round : Round) (ne : ℕ) → f ≡ Some ne → me ≢ ne → frames round ne me ≡ frame_played plan before ne round (frame_sent shown round ne) me)
    → is_this f me ≡ false → relays_from before f frames me ≡ relays_by plan before shown f me
relays_are plan before frames shown None me h free = refl
relays_are plan before frames shown (Some ne) me h free =
    let other = other_than ne me free in
    λ i. record { patterns = read_played before A2 ne (h A2 ne refl other i); packets = read_played before B2 ne (h B2 ne refl other i) }

pub reports_as_script : ReportsAsScript
reports_as_script plan before told frames input report keeps h r =
    let same = input_is plan before told frames input keeps h in
    let shown = shown_is plan before input same in
    let n = before.state.table.n in
    let long : length (report_played plan before (cycle_played plan before).shown).rows ≡ n = length-map-range_with_len (told_played plan before (cycle_played plan before).shown) 0 n in
    record {
      cycle = r.cycle;
      faulty = r.faulty ∙ h.faulty;
      answers = r.answers ∙ ap (λ x. x.answers) shown;
      count = r.count ∙ sym long;
      rows = λ me d l free.
          let there : me < n = omega (arith, l, r.count) in
          let fine : is_this input.faulty me ≡ false = ap (λ f. is_this f me) (sym r.faulty) ∙ free in
          let free_here : is_this (faulty_in plan before) me ≡ false = ap (λ f. is_this f me) (sym h.faulty) ∙ fine in
          let relays : relays_from before input.faulty frames me ≡ relays_by plan before (step before.state input).shown (faulty_in plan before) me =
          ap (λ f. relays_from before f frames me) h.faulty
          ∙ relays_are plan before frames (step before.state input).shown (faulty_in plan before) me
          (λ round ne f other. edited_is plan before told frames input keeps h round ne me f there other) free_here in
          r.rows me d there fine
          ∙ ap (λ said. told_at (step before.state input).shown said me) relays
          ∙ ap (λ x. told_played plan before x me) shown
          ∙ sym (at_place n (told_played plan before (cycle_played plan before).shown) me d there);
    }
