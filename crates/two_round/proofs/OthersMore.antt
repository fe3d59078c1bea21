-- The numbers below a bound but one, one number more.
use Rattle.std.proofs.Common.{◌≡◌, ◌≢◌, ℕ, zero, suc, ◌+◌, List, [], ◌∷◌, ◌++◌, ◌≤◌, length, length-append, map, refl, sym, ◌∙◌, ap, arith, add-one, remove}
use Rattle.std.specs.List.{range_with_len}
use Rattle.std.proofs.lemmas.List.{map-append}
use Rattle.std.proofs.lemmas.List.FromFn.{length-range_with_len}
use Rattle.ftpp_base.specs.Lists.{below, others}

-- the last item is not the one left out
remove-last : {A : Type 0} (xs : List A) (x : A) (i : ℕ) → i ≢ length xs → remove (xs ++ x ∷ []) i ≡ remove xs i ++ x ∷ []
remove-last [] x zero apart = absurd (apart refl)
remove-last [] x (suc zero) apart = refl
remove-last [] x (suc (suc i)) apart = refl
remove-last (y ∷ ys) x zero apart = refl
remove-last (y ∷ ys) x (suc i) apart = ap (λ l. y ∷ l) (remove-last ys x i (λ (e : i ≡ length ys). apart (omega arith)))

-- or it is
remove-same : {A : Type 0} (xs : List A) (x : A) (i : ℕ) → i ≡ length xs → remove (xs ++ x ∷ []) i ≡ remove xs i
remove-same [] x zero e = refl
remove-same [] x (suc i) e = let never : ⊥ = omega arith in absurd never
remove-same (y ∷ ys) x zero e = let never : ⊥ = omega arith in absurd never
remove-same (y ∷ ys) x (suc i) e = ap (λ l. y ∷ l) (remove-same ys x i (omega arith))

-- a number in the place after the last
range_more : (a n j : ℕ) → a + n ≡ j → range_with_len a (suc n) ≡ range_with_len a n ++ j ∷ []
range_more a zero j e = ap (λ k. k ∷ []) (let h : a ≡ j = omega arith in h)
range_more a (suc n) j e = ap (λ l. a ∷ l) (range_more (a + 1) n j (omega arith))

below_more : (k : ℕ) → below (k + 1) ≡ below k ++ k ∷ []
below_more k = rw add-one (range_more 0 k k (omega arith))

module _ {A : Type 0} (f : ℕ → A) (one : ℕ) where
  pub others_same : (list : List A) (k : ℕ) → list ≡ map f (others k one) → k ≡ one → list ≡ map f (others (k + 1) one)
  others_same list k h e =
      let long : length (below k) ≡ k = length-range_with_len 0 k in
      h ∙ sym (ap (λ l. map f (remove l one)) (below_more k) ∙ ap (map f) (remove-same (below k) k one (sym e ∙ sym long)))

  pub others_more : (list more : List A) (x : A) (k : ℕ) → list ≡ map f (others k one) → more ≡ list ++ x ∷ [] → k ≢ one → x ≡ f k
      → more ≡ map f (others (k + 1) one)
  others_more list more x k h e apart is =
      let long : length (below k) ≡ k = length-range_with_len 0 k in
      let cut : remove (below k ++ k ∷ []) one ≡ others k one ++ k ∷ [] = remove-last (below k) k one (λ (same : one ≡ length (below k)). apart (omega arith)) in
      e ∙ (rw (is, h) (sym (map-append f (others k one) (k ∷ []))))
      ∙ sym (ap (λ l. map f (remove l one)) (below_more k) ∙ ap (map f) cut)

-- a list with one item more is one longer
pub few_more : {A : Type 0} (list more : List A) (x : A) (k : ℕ) → more ≡ list ++ x ∷ [] → length list ≤ k → length more ≤ k + 1
few_more list more x k e few = let long : length more ≡ length list + 1 = ap length e ∙ length-append list (x ∷ []) in omega arith
