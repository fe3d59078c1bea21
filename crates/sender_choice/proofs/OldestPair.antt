-- The first eligible pair is the oldest.
use Rattle.std.proofs.Common.{◌≡◌, ℕ, ◌<◌, ◌≤◌, true, false, Bool, cond, List, [], ◌∷◌, refl, arith, sym, ◌∙◌, ap, subst, inl, inr, ◌⊎◌}
use Rattle.std.specs.Prelude.{Option, Some, find, option_map}
use Rattle.std.specs.List.{AllByRecursion}
use Rattle.std.proofs.lemmas.Bool.{or_cases, and_parts, ltb-true, eqb-true, cases_eq}
use Rattle.ftpp_base.specs.Vids.{has_vid}
use Rattle.sender_choice.specs.declared.index.Pair.{Pair}
use Rattle.sender_choice.specs.Sinces.{IsOldest, IsChoice}
use Rattle.sender_choice.specs.Pairs.{sinces_of, is_before, may_be, shown, IsLater, InOrder}
use Rattle.sender_choice.proofs.Choices.{choice_alike}
use Rattle.sender_choice.proofs.PairLaws.{says_own, says_other}

-- a pair that is before another waits longer, or as long with a lower number
waits_longer : (p q : Pair) → is_before p q ≡ true → (p.since < q.since) ⊎ ((p.since ≡ q.since) × (p.vid ≤ q.vid))
waits_longer p q e = grind (arith, or_cases, and_parts, ltb-true, eqb-true)

-- so it does than a group that later pairs hold
longer_than : (p : Pair) (qs : List Pair) (vid later : ℕ) → AllByRecursion (IsLater p) qs → sinces_of qs vid ≡ Some later → (p.since < later) ⊎ ((p.since ≡ later) × (p.vid ≤ vid))
longer_than p [] vid later all e = cc
longer_than p (q ∷ qs) vid later all e = elim (cases_eq q.vid vid) [
  | inl same ↦ let own = says_own q qs vid same in let s : Some q.since ≡ Some later = cc in let t : q.since ≡ later = cc in
      elim (waits_longer p q all.0.greater) [ inl less ↦ inl (omega arith) | inr h ↦ let u = h.0 in let v = h.1 in inr ((omega arith), (omega arith)) ]
  | inr ne ↦ longer_than p qs vid later all.1 (sym (says_other q qs vid ne) ∙ e)
]

-- an eligible pair in front is the oldest
front_oldest : (eligible : List Bool) (p : Pair) (ps : List Pair) → InOrder (p ∷ ps) → has_vid eligible p.vid ≡ true → IsOldest (sinces_of (p ∷ ps)) eligible p.vid p.since
front_oldest eligible p ps order fits = record {
  held_since = says_own p ps p.vid refl;
  may_be_chosen = fits;
  least = λ vid later e h. elim (cases_eq p.vid vid) [
    | inl same ↦ let own = says_own p ps vid same in let s : Some p.since ≡ Some later = cc in let t : p.since ≡ later = cc in inr (t, omega arith)
    | inr ne ↦ longer_than p ps vid later order.1 (sym (says_other p ps vid ne) ∙ e)
  ];
}

-- by whether the pair in front is eligible
choice_by : (b : Bool) (eligible : List Bool) (p : Pair) (ps : List Pair) → has_vid eligible p.vid ≡ b → InOrder (p ∷ ps) → IsChoice (sinces_of ps) eligible (option_map shown (find (may_be eligible) ps))
    → IsChoice (sinces_of (p ∷ ps)) eligible (option_map shown (cond b (Some p) (find (may_be eligible) ps)))
choice_by true eligible p ps fits order rest = front_oldest eligible p ps order fits
choice_by false eligible p ps out order rest =
    choice_alike (sinces_of ps) (sinces_of (p ∷ ps)) eligible (option_map shown (find (may_be eligible) ps))
    (λ vid h. says_other p ps vid (λ e. let wrong = ap (has_vid eligible) e in cc)) rest

pub first_is_oldest : (eligible : List Bool) (ps : List Pair) → InOrder ps → IsChoice (sinces_of ps) eligible (option_map shown (find (may_be eligible) ps))
first_is_oldest eligible [] order = λ vid h. refl
first_is_oldest eligible (p ∷ ps) order = choice_by (has_vid eligible p.vid) eligible p ps refl order (first_is_oldest eligible ps order.2)

-- so what is chosen of the pairs that a chooser keeps is the choice among what it holds
pub chosen : (eligible : List Bool) (kept looked held : List Pair) (o : Option (ℕ × ℕ)) → InOrder kept → kept ≡ held → looked ≡ kept
    → o ≡ option_map shown (find (may_be eligible) looked) → IsChoice (sinces_of held) eligible o
chosen eligible kept looked held o order is same found =
    let P : List Pair → Type 0 = λ ps. IsChoice (sinces_of ps) eligible o in
    let Q : Option (ℕ × ℕ) → Type 0 = λ x. IsChoice (sinces_of kept) eligible x in
    let all : option_map shown (find (may_be eligible) looked) ≡ option_map shown (find (may_be eligible) kept) = ap (λ (ps : List Pair). option_map shown (find (may_be eligible) ps)) same in
    subst P is (subst Q (sym (found ∙ all)) (first_is_oldest eligible kept order))
