-- The results that an element has at hand at the end of a cycle.
use Rattle.std.proofs.Common.{◌≡◌, ℕ, ◌<◌, ◌≤◌, ◌+◌, ◌⊎◌, Bool, true, false, cond, List, refl, ap, sym, ◌∙◌, subst, Option, Some, None, arith, inl, inr}
use Rattle.std.specs.Prelude.{◌++◌}
use Rattle.ftpp_base.specs.Lists.{cell_at, each_below}
use Rattle.ftpp_base.specs.Sets.{has}
use Rattle.ftpp_base.specs.declared.element.Round.TheVariants.{A1, B2}
use Rattle.ftpp_base.specs.declared.sets.Set8.{Set8}
use Rattle.ftpp_base.specs.declared.element.Proc.{Proc}
use Rattle.packet_format.specs.declared.Packet.{Packet}
use Rattle.processor_buffers.specs.declared.Handed.{Handed}
use Rattle.bit_vote.specs.Vote.{Cell}
use Rattle.two_round.specs.Echoes.{Echoes, no_echoes, result_for, result_of, IsUnanimous}
use Rattle.two_round.proofs.Agreement.{at_place}
use Rattle.config_table.specs.Table.{TableValue, IsValid}
use Rattle.config_table.specs.declared.decisions.Decision.{Decision}
use Rattle.scoreboard.specs.Board.{Scoreboard, marked}
use Rattle.flag_vote.specs.Flags.{Pattern, voted_flags}
use Rattle.syndrome_log.specs.declared.Syndrome.{Syndrome}
use Rattle.syndrome_log.specs.Log.{last_kept}
use Rattle.element_notes.specs.AtHand.{AreResults, HasDiffering}
use Rattle.element_core.specs.declared.Outcome3.{Outcome3}
use Rattle.element_core.specs.Cycle.{update_in, update_outcome}
use Rattle.element_core.specs.Element.{Kept, Heard, own_entry, own_update, own_service, own_delivery, own_handed, made, kept_with, kept_after}
use Rattle.element_core.specs.Noted.{noted_by}
use Rattle.element_core.specs.declared.pending.Pending.{Pending}
use Rattle.element_core.specs.declared.Due.TheVariants.{Emit, Absorb}
use Rattle.element_core.specs.ElementValue.{ElementValue, CycleTold, patterns_now, packets_now, pattern_now, decision_now, scoreboard_now, told_by, ended_with}
use Rattle.element_core.specs.Frames.{FitsTable}
use Rattle.element_core.specs.Pending.{element_with, IsElement}
use Rattle.element_core.specs.Steps.{HasOwnCells}
use Rattle.element_core.proofs.StepLaws.{own_cells_hold}
use Rattle.element_core.proofs.Ended.{fits_table, made_now, kept_now}

-- ---- results at hand

-- where a sender is in the set
in_set : (x : Echoes) (sources : Set8) (s : ℕ) → has sources s ≡ true → result_of sources x s ≡ result_for x s
in_set x sources s e = ap (λ b. cond b (result_for x s) None) e

-- those of a set are those of the senders that count
pub results_are : (n : ℕ) (x : Echoes) (counts : ℕ → Bool) (sources : Set8) (results : List Cell) → n ≤ 5 → results ≡ each_below n (result_of sources x)
    → ((s : ℕ) → s < 5 → has sources s ≡ counts s) → AreResults n x counts results
results_are n x counts sources results few is same = λ s l e.
    ap (λ cells. cell_at cells s) is ∙ at_place n (result_of sources x) s None l ∙ in_set x sources s (same s (omega arith) ∙ e)

-- those of the patterns are those of all senders
pub pattern_results : (n : ℕ) (e : ElementValue) (pending : Pending n) → IsElement n e pending → e.due ≡ Absorb B2 → AreResults n (patterns_now e) (λ s. true) pending.results
pattern_results n e pending h due = λ s l count.
    let agreed = h.agreed (rw due (omega arith)) in
    let held = (own_cells_hold e h.cells).patterns (rw due (omega arith)) in
    let is : pending.results ≡ each_below n (result_for (patterns_now e)) = agreed.results ∙ (λ i. each_below (h.elements i) (result_for (held i))) in
    ap (λ cells. cell_at cells s) is ∙ at_place n (result_for (patterns_now e)) s None l

-- a set of the senders that count, where the words about the others are their results
pub differing_are : (n : ℕ) (x : Echoes) (counts : ℕ → Bool) (sources set : Set8) → n ≤ 5 → ((s : ℕ) → s < 5 → has sources s ≡ counts s)
    → ((s : ℕ) → s < n → has set s ≡ true → has sources s ≡ true) → ((s : ℕ) → s < n → has sources s ≡ true → has set s ≡ false → IsUnanimous n x s)
    → HasDiffering n x counts set
differing_are n x counts sources set few same within alike = record {
  count = λ s l e. sym (same s (omega arith)) ∙ within s l e;
  rest = λ s l count out. alike s l (same s (omega arith) ∙ count) out;
}

-- those of the patterns are those of the exchange as it is held
pub pattern_differing : (n : ℕ) (e : ElementValue) (pending : Pending n) → IsElement n e pending → e.due ≡ Absorb B2 → HasDiffering n (patterns_now e) (λ s. true) pending.differing
pattern_differing n e pending h due =
    subst (λ x. HasDiffering n x (λ s. true) pending.differing) ((own_cells_hold e h.cells).patterns (rw due (omega arith))) (h.agreed (rw due (omega arith))).differing

-- ---- the decision

-- there is an element
some_by : (n : ℕ) → (n ≡ 4) ⊎ (n ≡ 5) → 0 < n
some_by n (inl e) = omega arith
some_by n (inr e) = omega arith

-- its decision is one of its table
pub decision_fits_now : (n : ℕ) (e : ElementValue) (pending : Pending n) → IsElement n e pending → e.due ≡ Absorb B2 → IsValid e.kept.table → FitsTable n pending.decision
decision_fits_now n e pending h due valid =
    let decision = (h.agreed (rw due (omega arith))).decision in
    let flags = voted_flags e.kept.table (pattern_now e) in
    let fits = fits_table e.kept.table flags e.kept.cycle (marked e.kept.table flags e.kept.cycle e.kept.scoreboard) valid (rw h.elements (some_by n h.size)) in
    subst (λ (d : Decision). FitsTable n d) (sym decision) (subst (λ k. FitsTable k (decision_now e)) h.elements fits)

-- ---- the value after the end

pub ended_value : (n : ℕ) (e : ElementValue) (kept : Kept) (patterns packets : Echoes) (me : ℕ) (told : CycleTold) (log : List Syndrome)
    → e.kept.table.n ≡ n
    → kept ≡ kept_after e.kept (made e.kept e.heard)
    → patterns ≡ no_echoes n me → packets ≡ no_echoes n me
    → told ≡ told_by e.kept (made e.kept e.heard)
    → log ≡ last_kept (e.log ++ noted_by e.kept (made e.kept e.heard))
    → element_with kept patterns packets (Emit A1) (Some told) log ≡ ended_with e e.heard
unfolding ended_with
ended_value n e kept patterns packets me told log size keeps no_patterns no_packets tells notes =
    (λ i. element_with (keeps i) (no_patterns i) (no_packets i) (Emit A1) (Some (tells i)) (notes i))
    ∙ (λ i. element_with (kept_after e.kept (made e.kept e.heard)) (no_echoes (sym size i) me) (no_echoes (sym size i) me) (Emit A1)
    (Some (told_by e.kept (made e.kept e.heard))) (last_kept (e.log ++ noted_by e.kept (made e.kept e.heard))))

-- ---- what is kept and told

-- What it has at hand is what is made of the cycle.
pub record IsAtHand (e : ElementValue) (decision : Decision) (entry : Option Packet) (asked : Option (Option Packet)) : Type 0 where
  pub decided : decision ≡ decision_now e
  pub entered : entry ≡ own_entry e.kept.table (decision_now e) (packets_now e)
  pub asks : asked ≡ own_update e.kept.table (decision_now e) (packets_now e)

-- what it keeps after it served the decision
abbrev pub served_by : ElementValue → Decision → Option Packet → Scoreboard → Kept
served_by e decision entry after = record {
  me = e.kept.me;
  cycle = e.kept.cycle + 1;
  table = e.kept.table;
  scoreboard = after;
  ports = own_delivery e.kept decision entry (own_service e.kept decision);
}

pub kept_ends : (e : ElementValue) (decision : Decision) (entry : Option Packet) (asked : Option (Option Packet)) (after : Scoreboard) (served updated : Kept)
    → HasOwnCells e → e.due ≡ Absorb B2 → IsAtHand e decision entry asked → after ≡ scoreboard_now e
    → served ≡ served_by e decision entry after → updated ≡ kept_with (update_in asked) served
    → updated ≡ kept_after e.kept (made e.kept e.heard)
kept_ends e decision entry asked after served updated cells due hand afters serves updates =
    updates
    ∙ (λ i. kept_with (update_in (hand.asks i)) (serves i))
    ∙ (λ i. kept_with (update_in (own_update e.kept.table (decision_now e) (packets_now e))) (served_by e (hand.decided i) (hand.entered i) (afters i)))
    ∙ sym (kept_now e cells due)

pub told_ends : (e : ElementValue) (cycle : ℕ) (pattern : Pattern) (decision : Decision) (entry : Option Packet) (handed : Option (Proc × Handed)) (asked : Option (Option Packet))
    (update : Option Outcome3) (table : TableValue) (notes : List Syndrome)
    → HasOwnCells e → e.due ≡ Absorb B2 → IsAtHand e decision entry asked → cycle ≡ e.kept.cycle → pattern ≡ pattern_now e
    → handed ≡ own_handed e.kept decision entry (own_service e.kept decision)
    → table ≡ e.kept.table → update ≡ update_outcome table asked → notes ≡ noted_by e.kept (made e.kept e.heard)
    → record { cycle = cycle; pattern = pattern; decision = decision; packet = entry; handed = handed; update = update; syndromes = notes } ≡ told_by e.kept (made e.kept e.heard)
told_ends e cycle pattern decision entry handed asked update table notes cells due hand cycles patterns hands tables updates noted =
    let now = made_now e cells due in
    let handed_is = hands ∙ (λ i. own_handed e.kept (hand.decided i) (hand.entered i) (own_service e.kept (hand.decided i))) ∙ sym now.handed in
    let update_is = updates ∙ (λ i. update_outcome (tables i) (hand.asks i)) ∙ sym now.update in
    λ i. record {
      cycle = cycles i;
      pattern = (patterns ∙ sym now.pattern) i;
      decision = (hand.decided ∙ sym now.decision) i;
      packet = (hand.entered ∙ sym now.entry) i;
      handed = handed_is i;
      update = update_is i;
      syndromes = noted i;
    }

-- what it heard before makes no difference
pub ended_again : (e : ElementValue) (heard : Heard) → ended_with (record e { heard = heard }) heard ≡ ended_with e heard
unfolding ended_with
ended_again e heard = refl
