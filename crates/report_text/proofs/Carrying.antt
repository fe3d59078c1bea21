-- The frames of a cycle in the order of the trace are one where they are so between any two elements.
use Rattle.std.proofs.Common.{◌≡◌, ◌≢◌, ℕ, zero, suc, ◌+◌, ◌<◌, ◌⊎◌, List, ◌++◌, refl, sym, arith}
use Rattle.std.specs.List.{range_with_len, flat_map}
use Rattle.ftpp_base.specs.Lists.{others}
use Rattle.ftpp_base.specs.declared.element.Round.{Round}
use Rattle.ftpp_base.specs.declared.element.Round.TheVariants.{A1, A2, B1, B2}
use Rattle.ftpp_base.specs.declared.element.Slot.{Slot}
use Rattle.link_fabric.specs.declared.fabrics.Carried.{Carried}
use Rattle.two_round.proofs.Others.{Ascend-others}
use Rattle.two_round.proofs.Agreement.{map_same}
use Rattle.report_text.specs.Trace.{carried, carried_by, carried_in}
use Rattle.report_text.specs.Laws.{CarriesAlike}

carried_same : (at : Slot) (frames same : ℕ → ℕ → List ℕ) (from to : ℕ) → frames from to ≡ same from to → carried at frames from to ≡ carried at same from to
carried_same at frames same from to e = λ i. record { at = at; from = from; to = to; frame = record { items = e i } }

by_same : (n : ℕ) (at : Slot) (frames same : ℕ → ℕ → List ℕ) (from : ℕ) → (n ≡ 4) ⊎ (n ≡ 5) → from < n
    → ((to : ℕ) → to < n → from ≢ to → frames from to ≡ same from to) → carried_by n at frames from ≡ carried_by n at same from
by_same n at frames same from size l h =
    map_same n from (carried at frames from) (carried at same from) (others n from) (Ascend-others n from size l)
    (λ to m other. carried_same at frames same from to (h to m (λ e. other (sym e))))

flat_same : (f g : ℕ → List Carried) (a n : ℕ) → ((k : ℕ) → k < a + n → f k ≡ g k) → flat_map f (range_with_len a n) ≡ flat_map g (range_with_len a n)
flat_same f g a zero h = refl
flat_same f g a (suc n) h = λ i. h a (omega arith) i ++ flat_same f g (a + 1) n (λ k l. h k (omega arith)) i

in_same : (n : ℕ) (at : Slot) (frames same : ℕ → ℕ → List ℕ) → (n ≡ 4) ⊎ (n ≡ 5)
    → ((from to : ℕ) → from < n → to < n → from ≢ to → frames from to ≡ same from to) → carried_in n at frames ≡ carried_in n at same
in_same n at frames same size h =
    flat_same (carried_by n at frames) (carried_by n at same) 0 n
    (λ from l. let there : from < n = omega arith in by_same n at frames same from size there (λ to m other. h from to there m other))

pub carries_alike : CarriesAlike
carries_alike n cycle frames others size h =
    let of = λ (round : Round). in_same n (record { cycle = cycle; round = round }) (frames round) (others round) size (λ from to l m other. h round from to l m other) in
    λ i. of A1 i ++ of A2 i ++ of B1 i ++ of B2 i
