-- The steps of a cycle, one after another.
use Rattle.std.proofs.Common.{◌≡◌, ℕ, ◌<◌, ◌≤◌, cond, List, [], length, refl, ap, sym, ◌∙◌, arith}
use Rattle.std.proofs.lemmas.Bool.{eq-eqb}
use Rattle.std.proofs.lemmas.List.{length-replicate, set-get_or, get_or-replicate}
use Rattle.std.proofs.lemmas.List.FromFn.{length-map-range_with_len}
use Rattle.std.specs.Prelude.{Option, Some, None, replicate, slice_index_or, slice_set}
use Rattle.ftpp_base.specs.Lists.{each_below, cell_at}
use Rattle.ftpp_base.specs.declared.element.Round.{Round}
use Rattle.ftpp_base.specs.declared.element.Round.TheVariants.{A1, A2, B1, B2}
use Rattle.bit_vote.specs.Vote.{Cell}
use Rattle.frame_format.specs.Frames.{reads_as}
use Rattle.two_round.specs.Echoes.{Echoes}
use Rattle.two_round.proofs.Agreement.{at_place}
use Rattle.element_core.proofs.PhaseLaws.{kept_size}
use Rattle.table_update.specs.declared.Update.{Update}
use Rattle.table_update.specs.declared.Applied.{Applied}
use Rattle.table_update.specs.declared.Applied.TheVariants as applied_variant
use Rattle.table_update.specs.Updates.{applied}
use Rattle.element_core.specs.Cycle.{update_in}
use Rattle.element_core.specs.Element.{Kept, Heard, Made, own_packet, own_update, made, kept_by, kept_with, kept_after}
use Rattle.element_core.specs.Noted.{own_pattern, where_relayed}
use Rattle.element_core.specs.Phases.{no_cells}
use Rattle.element_core.specs.ElementValue.{own_cells, cells_taken, heard_with, ended_with, decision_now}
use Rattle.element_core.specs.Steps.{OwnCellsBegin, OwnCellsStay, OwnCellsHold, CycleOfSteps}

-- ---- a cycle of steps

-- what is heard of four rounds, by sender
abbrev hearing : ℕ → (ℕ → List Cell) → (ℕ → List Cell) → (ℕ → List Cell) → (ℕ → List Cell) → Heard
hearing n a b c d = record {
  patterns = each_below n (λ s. cell_at (a s) 0);
  relayed_patterns = each_below n b;
  packets = each_below n (λ s. cell_at (c s) 0);
  relayed_packets = each_below n d;
}

-- what is taken in B1 after other rounds of patterns
abbrev third : Kept → (ℕ → List ℕ) → (ℕ → List Cell) → (ℕ → List Cell) → ℕ → List Cell
third kept frames a b = cells_taken kept (hearing kept.table.n a b (λ s. no_cells 0) (λ s. no_cells 0)) B1 frames

pub cycle_of_steps : CycleOfSteps
unfolding ended_with
cycle_of_steps e frames carried taken =
    let n = e.kept.table.n in
    let me = e.kept.me in
    let a = cells_taken e.kept e.heard A1 (frames A1) in
    let b = cells_taken e.kept e.heard A2 (frames A2) in
    let d = cells_taken e.kept e.heard B2 (frames B2) in
    let one : a ≡ (λ s. carried A1 s me) = λ i s. sym (taken A1 s) i in
    let two : b ≡ (λ s. carried A2 s me) = λ i s. sym (taken A2 s) i in
    let four : d ≡ (λ s. carried B2 s me) = λ i s. sym (taken B2 s) i in
    let rest : third e.kept (frames B1) (λ s. carried A1 s me) (λ s. carried A2 s me) ≡ (λ s. carried B1 s me) = λ i s. sym (taken B1 s) i in
    let three : third e.kept (frames B1) a b ≡ (λ s. carried B1 s me) = (λ i. third e.kept (frames B1) (one i) (two i)) ∙ rest in
    λ i. ended_with e (hearing n (one i) (two i) (three i) (four i))

-- ---- its own places

-- so many rounds were not heard yet
not_yet : (count rounds : ℕ) → rounds < count → count ≤ rounds → ⊥
not_yet count rounds few many = omega arith

-- as many cells as elements
count_none : (n : ℕ) → length (no_cells n) ≡ n
count_none n = length-replicate n None

-- nothing stands in a place of those that were not heard
relay_none : (n me : ℕ) → me < n → slice_index_or (replicate n (no_cells n)) me [] ≡ no_cells n
relay_none n me there = get_or-replicate n me (no_cells n) [] there

-- an element begins with no cells of others
pub own_cells_begin : OwnCellsBegin
own_cells_begin kept there = record {
  patterns = λ l. absurd (not_yet 1 0 (omega arith) l);
  packets = λ l. absurd (not_yet 3 0 (omega arith) l);
  pattern_relay = relay_none kept.table.n kept.me there;
  packet_relay = relay_none kept.table.n kept.me there;
  pattern_count = count_none kept.table.n;
  packet_count = count_none kept.table.n;
  pattern_relays = length-replicate kept.table.n (no_cells kept.table.n);
  packet_relays = length-replicate kept.table.n (no_cells kept.table.n);
}

-- what stands in its own place is its own cell
own_taken : (kept : Kept) (heard : Heard) (round : Round) (frames : ℕ → List ℕ) → cells_taken kept heard round frames kept.me ≡ own_cells kept heard round
own_taken kept heard round frames =
    ap (λ b. cond b (own_cells kept heard round) (reads_as kept.table.n (record { cycle = kept.cycle; round = round }) kept.me (frames kept.me))) (eq-eqb kept.me kept.me refl)

own_place : (kept : Kept) (heard : Heard) (round : Round) (frames : ℕ → List ℕ) → kept.me < kept.table.n
    → cell_at (each_below kept.table.n (λ s. cell_at (cells_taken kept heard round frames s) 0)) kept.me ≡ cell_at (own_cells kept heard round) 0
own_place kept heard round frames there =
    at_place kept.table.n (λ s. cell_at (cells_taken kept heard round frames s) 0) kept.me None there
    ∙ ap (λ cells. cell_at cells 0) (own_taken kept heard round frames)

-- nor do its own echoes
pub own_relay : (kept : Kept) (heard : Heard) (round : Round) (frames : ℕ → List ℕ) → kept.me < kept.table.n
    → slice_index_or (each_below kept.table.n (cells_taken kept heard round frames)) kept.me [] ≡ own_cells kept heard round
own_relay kept heard round frames there = at_place kept.table.n (cells_taken kept heard round frames) kept.me [] there ∙ own_taken kept heard round frames

-- an applied update, or none, leaves its number
me_by : (a : Applied) (update : Update) (kept : Kept) → (kept_by a update kept).me ≡ kept.me
me_by (applied_variant.Done procs) update kept = refl
me_by (applied_variant.Refused error) update kept = refl
me_by applied_variant.Absent update kept = refl

me_with : (o : Option Update) (kept : Kept) → (kept_with o kept).me ≡ kept.me
me_with None kept = refl
me_with (Some update) kept = me_by (applied kept.table update) update kept

pub kept_me : (kept : Kept) (m : Made) → (kept_after kept m).me ≡ kept.me
unfolding kept_after
kept_me kept m = me_with (update_in (own_update kept.table m.decision m.packets)) _

-- nothing was heard yet of the next cycle
fresh_relay : (n me next_n next_me : ℕ) → next_n ≡ n → next_me ≡ me → me < n → slice_index_or (replicate n (no_cells n)) next_me [] ≡ no_cells next_n
fresh_relay n me next_n next_me same_n same_me there = ap (λ i. slice_index_or (replicate n (no_cells n)) i []) same_me ∙ relay_none n me there ∙ ap no_cells (sym same_n)

-- they stand there after each step
pub own_cells_stay : OwnCellsStay
unfolding ended_with
own_cells_stay e A1 frames due there has = record {
  patterns = λ l. own_place e.kept e.heard A1 frames there;
  packets = λ l. absurd (not_yet 3 1 (omega arith) l);
  pattern_relay = has.pattern_relay;
  packet_relay = has.packet_relay;
  pattern_count = length-map-range_with_len (λ s. cell_at (cells_taken e.kept e.heard A1 frames s) 0) 0 e.kept.table.n;
  packet_count = has.packet_count;
  pattern_relays = has.pattern_relays;
  packet_relays = has.packet_relays;
}
own_cells_stay e A2 frames due there has = record {
  patterns = λ l. has.patterns (rw due (omega arith));
  packets = λ l. absurd (not_yet 3 2 (omega arith) l);
  pattern_relay = own_relay e.kept e.heard A2 frames there;
  packet_relay = has.packet_relay;
  pattern_count = has.pattern_count;
  packet_count = has.packet_count;
  pattern_relays = length-map-range_with_len (cells_taken e.kept e.heard A2 frames) 0 e.kept.table.n;
  packet_relays = has.packet_relays;
}
own_cells_stay e B1 frames due there has = record {
  patterns = λ l. has.patterns (rw due (omega arith));
  packets = λ l. own_place e.kept e.heard B1 frames there;
  pattern_relay = has.pattern_relay;
  packet_relay = has.packet_relay;
  pattern_count = has.pattern_count;
  packet_count = length-map-range_with_len (λ s. cell_at (cells_taken e.kept e.heard B1 frames s) 0) 0 e.kept.table.n;
  pattern_relays = has.pattern_relays;
  packet_relays = has.packet_relays;
}
own_cells_stay e B2 frames due there has =
    let n = e.kept.table.n in
    let m = made e.kept (heard_with e B2 frames) in
    let size = kept_size e.kept m in
    let cells = length-replicate n (no_cells n) ∙ sym size in
    let relay = fresh_relay n e.kept.me _ _ size (kept_me e.kept m) there in
    record {
      patterns = λ l. absurd (not_yet 1 0 (omega arith) l);
      packets = λ l. absurd (not_yet 3 0 (omega arith) l);
      pattern_relay = relay;
      packet_relay = relay;
      pattern_count = count_none n ∙ sym size;
      packet_count = count_none n ∙ sym size;
      pattern_relays = cells;
      packet_relays = cells;
    }

-- ---- what it holds

-- with its own cell put where it stands a list stays
put_again : (cells : List Cell) (me : ℕ) (own : Cell) → cell_at cells me ≡ own → slice_set cells me own ≡ cells
put_again cells me own e = ap (slice_set cells me) (sym e) ∙ set-get_or cells me None

-- what is held of an exchange, by its copies
abbrev echoes_with : ℕ → List (List Cell) → List Cell → Echoes
echoes_with me relayed copies = record { me = me; copies = copies; relayed = relayed }

pub own_cells_hold : OwnCellsHold
own_cells_hold e has = record {
  patterns = λ l. ap (echoes_with e.kept.me e.heard.relayed_patterns) (put_again e.heard.patterns e.kept.me (own_pattern e.kept) (has.patterns l));
  packets = λ l. ap (echoes_with e.kept.me e.heard.relayed_packets)
      (put_again e.heard.packets e.kept.me (own_packet e.kept (decision_now e)) (has.packets l));
  pattern_echo = λ l. put_again e.heard.patterns e.kept.me (own_pattern e.kept) (has.patterns l);
  packet_echo = λ l. ap (λ copies. each_below e.kept.table.n (where_relayed (decision_now e) copies))
      (put_again e.heard.packets e.kept.me (own_packet e.kept (decision_now e)) (has.packets l));
}
