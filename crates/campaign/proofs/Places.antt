-- Places in ascending order.
use Rattle.std.proofs.Common.{◌≡◌, ℕ, ◌+◌, ◌<◌, ◌≤◌, ◌⊎◌, inl, inr, List, [], ◌∷◌, ◌++◌, length, slice_index_or, ap, subst, sym, ◌∙◌, arith}
use Rattle.std.proofs.lemmas.Bool.{cases_lt}
use Rattle.std.proofs.Math.ListN.{get_or-append}
use Rattle.std.proofs.Math.Seq.{get_or-append_seam}

-- a place of a list with one more at the end
at_place : (xs : List ℕ) (n k d : ℕ) → length xs ≡ n → ((k d : ℕ) → k < n → slice_index_or xs k d ≡ k) → k < n + 1
    → (k < n) ⊎ (n ≤ k) → slice_index_or (xs ++ n ∷ []) k d ≡ k
at_place xs n k d len before h (inl below) = get_or-append xs (n ∷ []) d k (omega (arith, len)) ∙ before k d below
at_place xs n k d len before h (inr above) =
    let here : k ≡ length xs = omega (arith, len) in
    let P : ℕ → Type 0 = λ j. slice_index_or (xs ++ n ∷ []) j d ≡ n in
    subst P (sym here) (get_or-append_seam xs n [] d) ∙ omega (arith, len)

-- one place more at the end
pub one_place_more : (xs ys : List ℕ) (n : ℕ) → ys ≡ xs ++ n ∷ [] → length xs ≡ n
    → ((k d : ℕ) → k < n → slice_index_or xs k d ≡ k) → (k d : ℕ) → k < n + 1 → slice_index_or ys k d ≡ k
one_place_more xs ys n pushed len before k d h = ap (λ zs. slice_index_or zs k d) pushed ∙ at_place xs n k d len before h (cases_lt k n)
