-- What an element holds between two steps.
use Rattle.std.proofs.Common.{◌≡◌, ℕ, ◌+◌, length, slice_set, ◌∷◌, [], ◌<◌, ◌≤◌, ◌⊎◌, ◌==◌, Bool, true, false, cond, List, Option, refl, sym, ap, ◌∙◌, subst, arith, inl, inr}
use Rattle.ftpp_base.specs.declared.element.Round.{Round}
use Rattle.ftpp_base.specs.declared.element.Round.TheVariants.{A1, A2, B1, B2}
use Rattle.std.specs.Prelude.{None}
use Rattle.std.proofs.lemmas.List.{get_or-set_same}
use Rattle.two_round.specs.Echoes.{Echoes, no_echoes, result_for}
use Rattle.flag_vote.specs.Flags.{voted_flags}
use Rattle.scoreboard.specs.Choice.{scoreboard_decision, scoreboard_after}
use Rattle.scoreboard.specs.Times.{AreLinesOf, AreBefore}
use Rattle.syndrome_log.specs.declared.Syndrome.{Syndrome}
use Rattle.config_table.specs.declared.decisions.Decision.{Decision}
use Rattle.element_notes.specs.AtHand.{HasDiffering}
use Rattle.element_core.specs.Element.{Kept, own_packet, echoes_of, settled}
use Rattle.element_core.specs.Phases.{no_cells}
use Rattle.element_core.specs.Noted.{own_pattern, where_relayed, cells_made}
use Rattle.ftpp_base.specs.Lists.{cell_at, each_below}
use Rattle.ftpp_base.specs.declared.element.Slot.{Slot}
use Rattle.bit_vote.specs.Vote.{Cell}
use Rattle.frame_format.specs.Frames.{first_cell, reads_as}
use Rattle.std.proofs.lemmas.List.FromFn.{length-map-range_with_len}
use Rattle.element_core.specs.declared.pending.Pending.{Pending}
use Rattle.element_core.specs.declared.Due.{Due}
use Rattle.element_core.specs.declared.Due.TheVariants.{Emit, Absorb}
use Rattle.element_core.specs.ElementValue.{ElementValue, CycleTold, rounds_heard, after_emit, after_absorb, heard_with, cells_taken, taken_of, copy_taken, patterns_now, pattern_now}
use Rattle.element_core.specs.Frames.{cells_held}
use Rattle.element_core.specs.Steps.{HasOwnCells}
use Rattle.element_core.specs.Pending.{element_with, has_begun, IsPending, IsElement}
use Rattle.element_core.proofs.StepLaws.{own_cells_begin, own_cells_hold, own_cells_stay, own_relay}

-- none of the two rounds of patterns was heard
none_heard : {A : Type 0} → 2 ≤ 0 → A
none_heard l = absurd (omega arith)

-- at the beginning of a cycle, among as many elements as its table has
begun_on : (kept : Kept) (last : Option CycleTold) (log : List Syndrome) (pending : Pending kept.table.n) → (kept.table.n ≡ 4) ⊎ (kept.table.n ≡ 5) → kept.me < kept.table.n
    → IsElement kept.table.n (element_with kept (no_echoes kept.table.n kept.me) (no_echoes kept.table.n kept.me) (Emit A1) last log) pending
begun_on kept last log pending size below =
    let cells = own_cells_begin kept below in
    record {
      size = size;
      elements = refl;
      below = below;
      cells = record {
        patterns = cells.patterns;
        packets = cells.packets;
        pattern_relay = cells.pattern_relay;
        packet_relay = cells.packet_relay;
        pattern_count = cells.pattern_count;
        packet_count = cells.packet_count;
        pattern_relays = cells.pattern_relays;
        packet_relays = cells.packet_relays;
      };
      cycle = λ e. cc;
      agreed = λ l. none_heard l;
    }

-- at the beginning of a cycle it has heard nothing
pub holds_begun : (n : ℕ) (kept : Kept) (patterns packets : Echoes) (last : Option CycleTold) (log : List Syndrome) (pending : Pending n)
    → (n ≡ 4) ⊎ (n ≡ 5) → kept.table.n ≡ n → kept.me < n → patterns ≡ no_echoes n kept.me → packets ≡ no_echoes n kept.me
    → IsElement n (element_with kept patterns packets (Emit A1) last log) pending
holds_begun n kept patterns packets last log pending size elements below no_patterns no_packets =
    subst (λ (x : Echoes). IsElement n (element_with kept x packets (Emit A1) last log) pending) (sym no_patterns)
    (subst (λ (y : Echoes). IsElement n (element_with kept (no_echoes n kept.me) y (Emit A1) last log) pending) (sym no_packets)
    (subst (λ (k : ℕ). (pending : Pending k) → (k ≡ 4) ⊎ (k ≡ 5) → kept.me < k → IsElement k (element_with kept (no_echoes k kept.me) (no_echoes k kept.me) (Emit A1) last log) pending) elements
    (begun_on kept last log) pending size below))

-- four or five elements are few
pub few_by : (n : ℕ) → (n ≡ 4) ⊎ (n ≡ 5) → n ≤ 5
few_by n (inl e) = omega arith
few_by n (inr e) = omega arith

-- as many as a table has
pub size_on : (a b : ℕ) → a ≡ b → (a ≡ 4) ⊎ (a ≡ 5) → (b ≡ 4) ⊎ (b ≡ 5)
size_on a b e size = subst (λ (k : ℕ). (k ≡ 4) ⊎ (k ≡ 5)) e size

-- ---- what it sends

-- its frame is that of the cells that it makes
pub cells_sent_held : (n : ℕ) (e : ElementValue) (pending : Pending n) (patterns packets : Echoes) (round : Round) → IsElement n e pending → e.due ≡ Emit round
    → patterns.copies ≡ e.heard.patterns → packets.copies ≡ e.heard.packets → cells_held n e.kept patterns packets pending.decision round ≡ cells_made e.kept e.heard round
cells_sent_held n e pending patterns packets A1 h due same_patterns same_packets = refl
cells_sent_held n e pending patterns packets A2 h due same_patterns same_packets = same_patterns ∙ sym ((own_cells_hold e h.cells).pattern_echo (rw due (omega arith)))
cells_sent_held n e pending patterns packets B1 h due same_patterns same_packets =
    ap (λ (d : Decision). own_packet e.kept d ∷ []) (h.agreed (rw due (omega arith))).decision
cells_sent_held n e pending patterns packets B2 h due same_patterns same_packets =
    let decision = (h.agreed (rw due (omega arith))).decision in
    (λ i. each_below (sym h.elements i) (where_relayed (decision i) (same_packets i))) ∙ sym ((own_cells_hold e h.cells).packet_echo (rw due (omega arith)))

-- another step is due, after as many rounds of the cycle
with_due : (n : ℕ) (e : ElementValue) (pending : Pending n) (due : Due) → IsElement n e pending → rounds_heard due ≡ rounds_heard e.due → e.kept.cycle < 100000
    → IsElement n (record e { due = due }) pending
with_due n e pending due h same low = record {
  size = h.size;
  elements = h.elements;
  below = h.below;
  cells = record {
    patterns = λ l. h.cells.patterns (subst (λ k. 1 ≤ k) same l);
    packets = λ l. h.cells.packets (subst (λ k. 3 ≤ k) same l);
    pattern_relay = h.cells.pattern_relay;
    packet_relay = h.cells.packet_relay;
    pattern_count = h.cells.pattern_count;
    packet_count = h.cells.packet_count;
    pattern_relays = h.cells.pattern_relays;
    packet_relays = h.cells.packet_relays;
  };
  cycle = λ begun. low;
  agreed = λ l.
      let agreed = h.agreed (subst (λ k. 2 ≤ k) same l) in
      record { results = agreed.results; differing = agreed.differing; pattern = agreed.pattern; decision = agreed.decision; after = agreed.after; lines = agreed.lines; earlier = agreed.earlier };
}

-- as many rounds were heard before and after it sent
heard_as_many : (round : Round) → rounds_heard (Absorb round) ≡ rounds_heard (Emit round)
heard_as_many A1 = refl
heard_as_many A2 = refl
heard_as_many B1 = refl
heard_as_many B2 = refl

-- sending changes what is due alone
pub holds_sent : (n : ℕ) (e : ElementValue) (pending : Pending n) (round : Round) → IsElement n e pending → e.due ≡ Emit round → e.kept.cycle < 100000
    → IsElement n (after_emit round e) pending
holds_sent n e pending round h due low = with_due n e pending (Absorb round) h (heard_as_many round ∙ ap rounds_heard (sym due)) low

-- ---- what it hears

-- in a first round a cell stands for each sender, its own in its own place
one_cell : (b : Bool) (own : Cell) (cells : List Cell) → cond b own (first_cell cells) ≡ cell_at (cond b (own ∷ []) cells) 0
one_cell true own cells = refl
one_cell false own cells = refl

-- so the copies that came are those that it takes
pub copies_are : (n : ℕ) (slot : Slot) (me : ℕ) (own : Cell) (frames : ℕ → List ℕ)
    → each_below n (copy_taken n slot me own frames) ≡ each_below n (λ s. cell_at (taken_of n slot me (own ∷ []) frames s) 0)
copies_are n slot me own frames = λ i. each_below n (λ s. one_cell (s == me) own (reads_as n slot s (frames s)) i)

-- the rounds that were heard before a step that it is due to take
begun_by : (due : Due) (round : Round) → due ≡ Absorb round → has_begun due ≡ true
begun_by due round e = ap has_begun e

-- after it took the patterns
pub holds_patterns : (n : ℕ) (e : ElementValue) (pending : Pending n) (frames : ℕ → List ℕ) → IsElement n e pending → e.due ≡ Absorb A1 → IsElement n (after_absorb A1 frames e) pending
holds_patterns n e pending frames h due = record {
  size = h.size;
  elements = h.elements;
  below = h.below;
  cells = own_cells_stay e A1 frames due (subst (λ k. e.kept.me < k) (sym h.elements) h.below) h.cells;
  cycle = λ begun. h.cycle (begun_by e.due A1 due);
  agreed = λ l. absurd (omega arith);
}

-- after it took their echoes, with what it made of both
pub holds_agreed : (n : ℕ) (e : ElementValue) (old pending : Pending n) (frames : ℕ → List ℕ) → IsElement n e old → e.due ≡ Absorb A2
    → IsPending n (after_absorb A2 frames e) pending → IsElement n (after_absorb A2 frames e) pending
holds_agreed n e old pending frames h due agreed = record {
  size = h.size;
  elements = h.elements;
  below = h.below;
  cells = own_cells_stay e A2 frames due (subst (λ k. e.kept.me < k) (sym h.elements) h.below) h.cells;
  cycle = λ begun. h.cycle (begun_by e.due A2 due);
  agreed = λ l. agreed;
}

-- after it took the packets
pub holds_packets : (n : ℕ) (e : ElementValue) (pending : Pending n) (frames : ℕ → List ℕ) → IsElement n e pending → e.due ≡ Absorb B1 → IsElement n (after_absorb B1 frames e) pending
holds_packets n e pending frames h due = record {
  size = h.size;
  elements = h.elements;
  below = h.below;
  cells = own_cells_stay e B1 frames due (subst (λ k. e.kept.me < k) (sym h.elements) h.below) h.cells;
  cycle = λ begun. h.cycle (begun_by e.due B1 due);
  agreed = λ l. let a = h.agreed (rw due (omega arith)) in
      record { results = a.results; differing = a.differing; pattern = a.pattern; decision = a.decision; after = a.after; lines = a.lines; earlier = a.earlier };
}

-- after it took their echoes, before the cycle ends
pub holds_echoes : (n : ℕ) (e : ElementValue) (pending : Pending n) (frames : ℕ → List ℕ) → IsElement n e pending → e.due ≡ Absorb B2
    → IsElement n (record e { heard = heard_with e B2 frames }) pending
holds_echoes n e pending frames h due = record {
  size = h.size;
  elements = h.elements;
  below = h.below;
  cells = record {
    patterns = h.cells.patterns;
    packets = h.cells.packets;
    pattern_relay = h.cells.pattern_relay;
    packet_relay = own_relay e.kept e.heard B2 frames (subst (λ k. e.kept.me < k) (sym h.elements) h.below);
    pattern_count = h.cells.pattern_count;
    packet_count = h.cells.packet_count;
    pattern_relays = h.cells.pattern_relays;
    packet_relays = length-map-range_with_len (cells_taken e.kept e.heard B2 frames) 0 e.kept.table.n;
  };
  cycle = h.cycle;
  agreed = λ l. let a = h.agreed l in
      record { results = a.results; differing = a.differing; pattern = a.pattern; decision = a.decision; after = a.after; lines = a.lines; earlier = a.earlier };
}

-- ---- what it takes, in the words of its own value

-- in a first round
pub first_are : (n k : ℕ) (slot other_slot : Slot) (me other_me : ℕ) (own other_own : Cell) (frames : ℕ → List ℕ) → k ≡ n → slot ≡ other_slot → me ≡ other_me → own ≡ other_own
    → each_below n (copy_taken n slot me own frames) ≡ each_below k (λ s. cell_at (taken_of k other_slot other_me (other_own ∷ []) frames s) 0)
first_are n k slot other_slot me other_me own other_own frames size slots mes owns =
    (λ i. each_below (sym size i) (copy_taken (sym size i) (slots i) (mes i) (owns i) frames)) ∙ copies_are k other_slot other_me other_own frames

-- in a second round
pub second_are : (n k : ℕ) (slot other_slot : Slot) (me other_me : ℕ) (frames : ℕ → List ℕ) → k ≡ n → slot ≡ other_slot → me ≡ other_me
    → each_below n (taken_of n slot me (no_cells n) frames) ≡ each_below k (taken_of k other_slot other_me (no_cells k) frames)
second_are n k slot other_slot me other_me frames size slots mes =
    λ i. each_below (sym size i) (taken_of (sym size i) (slots i) (mes i) (no_cells (sym size i)) frames)

-- its own cell is put in its own place
pub own_put : (copies : List Cell) (place me n : ℕ) (own other : Cell) → place ≡ me → length copies ≡ n → me < n → own ≡ other → cell_at (slice_set copies place own) me ≡ other
own_put copies place me n own other same long below is =
    ap (λ k. cell_at (slice_set copies k own) me) same ∙ get_or-set_same copies me own None (rw long below) ∙ is

-- what it makes of both rounds of patterns is what is to be made of what it heard
pub agreed_midst : (n : ℕ) (e : ElementValue) (pending : Pending n) (x : Echoes) → e.kept.table.n ≡ n → HasOwnCells e → 1 ≤ rounds_heard e.due → x ≡ patterns_now e
    → pending.results ≡ each_below n (result_for x)
    → HasDiffering n x (λ s. true) pending.differing
    → pending.pattern ≡ settled n x
    → pending.decision ≡ scoreboard_decision e.kept.table e.kept.cycle (voted_flags e.kept.table (settled n x)) e.kept.scoreboard
    → pending.after.value ≡ scoreboard_after e.kept.table e.kept.cycle (voted_flags e.kept.table (settled n x)) e.kept.scoreboard
    → AreLinesOf e.kept.table pending.after.value → AreBefore (e.kept.cycle + 1) pending.after.value → IsPending n e pending
agreed_midst n e pending x size cells heard is results differing pattern decision after lines earlier =
    let echoes : x ≡ echoes_of e.kept.me (own_pattern e.kept) e.heard.patterns e.heard.relayed_patterns = is ∙ sym ((own_cells_hold e cells).patterns heard) in
    let agreed : settled n x ≡ pattern_now e = λ i. settled (sym size i) (echoes i) in
    record {
      results = results ∙ (λ i. each_below (sym size i) (result_for (echoes i)));
      differing = subst (λ y. HasDiffering n y (λ s. true) pending.differing) echoes differing;
      pattern = pattern ∙ agreed;
      decision = decision ∙ (λ i. scoreboard_decision e.kept.table e.kept.cycle (voted_flags e.kept.table (agreed i)) e.kept.scoreboard);
      after = after ∙ (λ i. scoreboard_after e.kept.table e.kept.cycle (voted_flags e.kept.table (agreed i)) e.kept.scoreboard);
      lines = lines;
      earlier = earlier;
    }
