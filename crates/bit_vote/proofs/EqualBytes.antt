-- Vectors whose comparison has no lane that differs.
use Rattle.std.proofs.Common.{◌≡◌, ℕ, zero, suc, ◌+◌, ◌-◌, ◌*◌, ◌%◌, ◌^◌, ◌<◌, ◌≤◌, ◌↔◌, Bool, true, false, not, cond, eqb, List, [], ◌∷◌, map, length, get_or, refl, sym, ap, subst, ◌∙◌, inl, inr, arith, eqb-true, eq-eqb}
use Rattle.std.proofs.lemmas.Bool.{cases_lt, eqb-false}
use Rattle.std.proofs.lemmas.List.{length-map, ext_get_or}
use Rattle.std.proofs.lemmas.Simd.{length-zip2, length-chunk, get_or-chunk, mask_l-mod}
use lib.Lanes.{zip2, mask_l, top, chunk}

abbrev differs : ℕ → ℕ → ℕ
differs a b = cond (not (eqb a b)) 255 0

flag : (x y : ℕ) → (◌≡◌ {A = ℕ} (cond (top 7 (differs x y)) 1 0) 0) ↔ (x ≡ y)
flag x y = go (eqb x y) refl
  where
    go : (t : Bool) → eqb x y ≡ t → (◌≡◌ {A = ℕ} (cond (top 7 (cond (not t) 255 0)) 1 0) 0) ↔ (x ≡ y)
    go true e = (λ _. eqb-true _ _ e, λ _. refl)
    go false e = (λ q. absurd (omega arith), λ z. absurd (eqb-false _ _ e z))

none_differ : (xs ys : List ℕ) → length xs ≡ length ys → (mask_l (map (top 7) (zip2 differs xs ys)) ≡ 0) ↔ ((i : ℕ) → get_or xs i 0 ≡ get_or ys i 0)
none_differ [] [] long = (λ _ i. refl, λ _. refl)
none_differ [] (y ∷ ys) long = absurd (omega arith)
none_differ (x ∷ xs) [] long = absurd (omega arith)
none_differ (x ∷ xs) (y ∷ ys) long =
    let r = none_differ xs ys (omega arith) in
    (λ e. elim [ zero ↦ (flag x y).0 (omega arith) | suc i ↦ r.0 (omega arith) i ], λ h. omega (arith, (flag x y).1 (h 0), r.1 (λ i. h (suc i))))

-- no bit is set exactly where the vectors are equal
pub same_of_mask : (xs ys : List ℕ) → length xs ≡ 32 → length ys ≡ 32 → (eqb (mask_l (map (top 7) (zip2 differs xs ys)) % 2 ^ 64) 0 ≡ true) ↔ (xs ≡ ys)
same_of_mask xs ys one other =
    let long = one ∙ sym other in
    let small : mask_l (map (top 7) (zip2 differs xs ys)) % 2 ^ 64 ≡ mask_l (map (top 7) (zip2 differs xs ys)) =
    mask_l-mod _ 64 (omega (arith, length-map (zip2 differs xs ys) (top 7), length-zip2 differs xs ys long)) in (
      λ t. ext_get_or 0 xs ys long (λ i l. (none_differ xs ys long).0 (sym small ∙ eqb-true _ _ t) i),
      λ z. eq-eqb _ _ (small ∙ (none_differ xs ys long).1 (λ i. ap (λ l. get_or l i 0) z)),
    )

-- the bytes below a place are equal
abbrev pub AreSameBelow : ℕ → List ℕ → List ℕ → Type 0
AreSameBelow n a b = (k : ℕ) → k < n → get_or a k 0 ≡ get_or b k 0

-- and those of a block more
pub same_more : (n m : ℕ) (a b : List ℕ) → AreSameBelow n a b → chunk n 32 a ≡ chunk n 32 b → m ≡ n + 32 → AreSameBelow m a b
same_more n m a b before same is k h = elim (cases_lt k n) [
  | inl l ↦ before k l
  | inr g ↦
      let j = k - n in
      let e : n + j ≡ k = omega arith in
      subst (λ i. get_or a i 0 ≡ get_or b i 0) e
      (sym (get_or-chunk n 32 a j 0 (omega arith)) ∙ ap (λ c. get_or c j 0) same ∙ get_or-chunk n 32 b j 0 (omega arith))
]

-- and one byte more
pub same_one_more : (n : ℕ) (a b : List ℕ) → AreSameBelow n a b → get_or a n 0 ≡ get_or b n 0 → AreSameBelow (n + 1) a b
same_one_more n a b before same k h = elim (cases_lt k n) [
  | inl l ↦ before k l
  | inr g ↦ let e : n ≡ k = omega arith in subst (λ i. get_or a i 0 ≡ get_or b i 0) e same
]

-- where all bytes are equal, the lists are
pub same_all : (n : ℕ) (a b : List ℕ) → length a ≡ length b → length a ≤ n → AreSameBelow n a b → a ≡ b
same_all n a b long le same = ext_get_or 0 a b long (λ i l. same i (omega arith))
