-- The lines of a list, one after another.
use Rattle.std.proofs.Common.{◌≡◌, ℕ, zero, suc, ◌+◌, ◌<◌, List, [], ◌∷◌, ◌++◌, length, get_or, take, drop, ap, sym, ◌∙◌, subst, arith, add-one, append_assoc, append-nil}
use Rattle.std.specs.Prelude.{Option}
use Rattle.std.specs.List.{flat_map}
use Rattle.std.proofs.lemmas.List.{take-append-drop}
use Rattle.std.proofs.lemmas.Grind.{flat_map-append}
use Rattle.ftpp_outside.specs.Told.{Adds}
use Rattle.command_steps.specs.Ends.{AddsPrefix}
use Rattle.command_steps.proofs.Writing.{adds_more, prefix_of_front, prefix_of_rest}

lines_suc : {A : Type 0} (f : A → List ℕ) (xs : List A) (i : ℕ) (d : A) → i < length xs → flat_map f (take (suc i) xs) ≡ flat_map f (take i xs) ++ f (get_or xs i d)
lines_suc f [] i d l = let bad : ⊥ = omega arith in absurd bad
lines_suc f (x ∷ xs) zero d l = append-nil (f x)
lines_suc f (x ∷ xs) (suc i) d l = ap (λ (ys : List ℕ). f x ++ ys) (lines_suc f xs i d (omega arith)) ∙ sym (append_assoc (f x) (flat_map f (take i xs)) (f (get_or xs i d)))

module _ {A : Type 0} (f : A → List ℕ) (xs : List A) (i : ℕ) (d : A) (old mid new : Option (List ℕ)) (below : i < length xs) (written : Adds old (flat_map f (take i xs)) mid) where
  pub lines_more : Adds mid (f (get_or xs i d)) new → Adds old (flat_map f (take (i + 1) xs)) new
  lines_more w = subst (λ (ys : List ℕ). Adds old ys new) (sym (ap (λ k. flat_map f (take k xs)) (add-one i) ∙ lines_suc f xs i d below)) (adds_more (flat_map f (take i xs)) (f (get_or xs i d)) old mid new written w)

  pub lines_cut : AddsPrefix mid (f (get_or xs i d)) new → AddsPrefix old (flat_map f xs) new
  lines_cut w =
      let front : AddsPrefix old (flat_map f (take (suc i) xs)) new = subst (λ (ys : List ℕ). AddsPrefix old ys new) (sym (lines_suc f xs i d below)) (prefix_of_rest (flat_map f (take i xs)) (f (get_or xs i d)) old mid new written w) in
      let whole : flat_map f xs ≡ flat_map f (take (suc i) xs) ++ flat_map f (drop (suc i) xs) = ap (flat_map f) (sym (take-append-drop (suc i) xs)) ∙ flat_map-append f (take (suc i) xs) (drop (suc i) xs) in
      subst (λ (ys : List ℕ). AddsPrefix old ys new) (sym whole) (prefix_of_front (flat_map f (take (suc i) xs)) (flat_map f (drop (suc i) xs)) old new front)
