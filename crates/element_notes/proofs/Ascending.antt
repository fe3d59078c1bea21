-- The numbers below a bound, one more, and those of them that pass a test.
use Rattle.std.proofs.Common.{◌≡◌, ℕ, ◌+◌, Bool, true, false, cond, List, [], ◌∷◌, ◌++◌, map, refl, ap, sym, ◌∙◌, arith, append_assoc, append-nil}
use Rattle.std.specs.Prelude.{filter}
use Rattle.std.proofs.lemmas.List.{map-id, map-append}
use Rattle.std.proofs.lemmas.List.FromFn.{map-range_with_len_more}
use Rattle.std.proofs.lemmas.List.Elements.{filter-append}
use Rattle.ftpp_base.specs.Lists.{below}

-- ---- one number more

pub below_more : (k : ℕ) → below (k + 1) ≡ below k ++ k ∷ []
below_more k = sym (map-id (below (k + 1))) ∙ map-range_with_len_more (λ j. j) 0 k k (omega arith) ∙ ap (λ l. l ++ k ∷ []) (map-id (below k))

-- of those that pass, it is the last, if it passes
pub filter_below-more : (p : ℕ → Bool) (k : ℕ) → filter p (below (k + 1)) ≡ filter p (below k) ++ cond (p k) (k ∷ []) []
filter_below-more p k = ap (filter p) (below_more k) ∙ filter-append p (below k) (k ∷ [])

one_made : {A : Type 0} (f : ℕ → A) (b : Bool) (k : ℕ) → map f (cond b (k ∷ []) []) ≡ cond b (f k ∷ []) []
one_made f true k = refl
one_made f false k = refl

-- and so is what is made of it
pub made_below-more : {A : Type 0} (f : ℕ → A) (p : ℕ → Bool) (k : ℕ)
    → map f (filter p (below (k + 1))) ≡ map f (filter p (below k)) ++ cond (p k) (f k ∷ []) []
made_below-more f p k =
    ap (map f) (filter_below-more p k) ∙ map-append f (filter p (below k)) (cond (p k) (k ∷ []) [])
    ∙ ap (λ l. map f (filter p (below k)) ++ l) (one_made f (p k) k)

-- none passes
none_made : {A : Type 0} (f : ℕ → A) (p : ℕ → Bool) (ks : List ℕ) → ((k : ℕ) → p k ≡ false) → map f (filter p ks) ≡ []
none_made f p [] fails = refl
none_made f p (k ∷ ks) fails = ap (λ b. map f (cond b (k ∷ filter p ks) (filter p ks))) (fails k) ∙ none_made f p ks fails

-- so that nothing was appended
pub none_appended : {A : Type 0} (f : ℕ → A) (p : ℕ → Bool) (ks : List ℕ) (list : List A) → ((k : ℕ) → p k ≡ false) → list ≡ list ++ map f (filter p ks)
none_appended f p ks list fails = sym (append-nil list) ∙ ap (λ l. list ++ l) (sym (none_made f p ks fails))

-- what was appended so far, and one entry more
pub appended_more : {A : Type 0} (f : ℕ → A) (p : ℕ → Bool) (k : ℕ) (start list more : List A) (b : Bool) (x : A)
    → list ≡ start ++ map f (filter p (below k)) → more ≡ list ++ cond b (x ∷ []) [] → b ≡ p k → x ≡ f k
    → more ≡ start ++ map f (filter p (below (k + 1)))
appended_more f p k start list more b x before now is same =
    now
    ∙ (λ t. before t ++ cond (is t) (same t ∷ []) [])
    ∙ append_assoc start (map f (filter p (below k))) (cond (p k) (f k ∷ []) [])
    ∙ ap (λ l. start ++ l) (sym (made_below-more f p k))
