-- There are no more pairs than groups that they hold.
use Rattle.std.proofs.Common.{◌≡◌, ◌≢◌, ℕ, zero, suc, ◌+◌, ◌<◌, ◌≤◌, true, false, not, Bool, cond, List, [], ◌∷◌, length, filter, refl, arith, sym, ◌∙◌, ap, inl, inr}
use Rattle.std.specs.Prelude.{None, ◌==◌, count_by, is_some}
use Rattle.std.specs.List.{AllByRecursion, range_with_len}
use Rattle.std.proofs.lemmas.Bool.{cases_eq, eqb-false}
use Rattle.ftpp_base.specs.Lists.{below}
use Rattle.ftpp_base.proofs.Items.{IsItem}
use Rattle.ftpp_base.proofs.Counts.{count_fewer}
use Rattle.sender_choice.specs.declared.index.Pair.{Pair}
use Rattle.sender_choice.specs.Sinces.{is_held, held_count, HasRoomFor}
use Rattle.sender_choice.specs.Pairs.{sinces_of, is_other, IsLater, InOrder}
use Rattle.sender_choice.proofs.PairLaws.{says_own, says_other}

-- the numbers from one on
range_item : (from n vid : ℕ) → from ≤ vid → vid < from + n → IsItem (range_with_len from n) vid
range_item from zero vid l h = let never : ⊥ = omega arith in absurd never
range_item from (suc n) vid l h = elim (cases_eq from vid) [ inl e ↦ inl e | inr ne ↦ inr (range_item (from + 1) n vid (omega arith) (omega arith)) ]

-- a number below another is one of those below it
pub below_item : (n vid : ℕ) → vid < n → IsItem (below n) vid
below_item n vid l = range_item 0 n vid (omega arith) (omega arith)

-- pairs of other groups say nothing of a group
pub says_nothing : (vid : ℕ) (ps : List Pair) → AllByRecursion (λ p. vid ≢ p.vid) ps → sinces_of ps vid ≡ None
says_nothing vid [] all = refl
says_nothing vid (p ∷ ps) all = says_other p ps vid (λ e. all.0 (sym e)) ∙ says_nothing vid ps all.1

-- the pairs behind the first are of other groups
others : (p : Pair) (ps : List Pair) → AllByRecursion (IsLater p) ps → AllByRecursion (λ q. p.vid ≢ q.vid) ps
others p [] later = tt
others p (q ∷ qs) later = (later.0.other_group, others p qs later.1)

-- the pair in front says nothing of what the others hold
still_held : (p : Pair) (ps : List Pair) (vid : ℕ) → sinces_of ps p.vid ≡ None → is_held (sinces_of ps) vid ≡ true → is_held (sinces_of (p ∷ ps)) vid ≡ true
still_held p ps vid gone e = elim (cases_eq p.vid vid) [
  | inl same ↦ ap is_some (says_own p ps vid same)
  | inr ne ↦ ap is_some (says_other p ps vid ne) ∙ e
]

-- no more pairs than numbers below a bound that they hold
counted : (n : ℕ) (ps : List Pair) → n ≡ 256 → InOrder ps → length ps ≤ count_by (is_held (sinces_of ps)) (below n)
counted n [] bound order = omega arith
counted n (p ∷ ps) bound order =
    let gone = says_nothing p.vid ps (others p ps order.1) in
    let l = order.0 in
    let more = count_fewer (is_held (sinces_of ps)) (is_held (sinces_of (p ∷ ps))) (below n) p.vid (below_item n p.vid (omega arith))
    (λ vid i e. still_held p ps vid gone e) (ap is_some gone) (ap is_some (says_own p ps p.vid refl)) in
    let rest = counted n ps bound order.2 in
    omega arith

pub length-held_count : (ps : List Pair) → InOrder ps → length ps ≤ held_count (sinces_of ps)
unfolding held_count
length-held_count ps order = counted 256 ps refl order

-- what is left is no longer
length_by : (b : Bool) (p : Pair) (ps : List Pair) (n : ℕ) → length ps ≤ n → length (cond b (p ∷ ps) ps) ≤ suc n
length_by true p ps n l = omega arith
length_by false p ps n l = omega arith

pub fewer : (test : Pair → Bool) (ps : List Pair) → length (filter test ps) ≤ length ps
fewer test [] = omega arith
fewer test (p ∷ ps) = length_by (test p) p (filter test ps) (length ps) (fewer test ps)

-- by whether the first pair is that of the group
shorter_by : (b : Bool) (vid : ℕ) (p : Pair) (ps : List Pair) → (p.vid == vid) ≡ b → length (filter (is_other vid) ps) ≤ length ps
    → (is_held (sinces_of ps) vid ≡ true → length (filter (is_other vid) ps) < length ps) → is_held (sinces_of (p ∷ ps)) vid ≡ true
    → length (cond (not b) (p ∷ filter (is_other vid) ps) (filter (is_other vid) ps)) < suc (length ps)
shorter_by true vid p ps e l more held = omega arith
shorter_by false vid p ps e l more held =
    let h = more (sym (ap is_some (says_other p ps vid (eqb-false p.vid vid e))) ∙ held) in omega arith

-- a held group leaves one pair fewer
shorter : (vid : ℕ) (ps : List Pair) → is_held (sinces_of ps) vid ≡ true → length (filter (is_other vid) ps) < length ps
shorter vid [] held = cc
shorter vid (p ∷ ps) held = shorter_by (p.vid == vid) vid p ps refl (fewer (is_other vid) ps) (shorter vid ps) held

-- so there is room for a pair
pub room_for : (vid : ℕ) (ps : List Pair) → length ps ≤ 40 → InOrder ps → HasRoomFor (sinces_of ps) vid → length (filter (is_other vid) ps) < 40
room_for vid ps l order (inl held) = let less = shorter vid ps held in omega arith
room_for vid ps l order (inr few) = let all = length-held_count ps order in let less = fewer (is_other vid) ps in omega arith
