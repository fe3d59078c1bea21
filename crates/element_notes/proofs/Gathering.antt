-- A set of the elements below a bound that pass a test, with one element more at a time.
use Rattle.std.proofs.Common.{◌≡◌, ℕ, ◌+◌, ◌<◌, ◌≤◌, Bool, true, false, refl, ap, sym, ◌∙◌, arith, ◌⊎◌, inl, inr}
use Rattle.std.specs.Prelude.{◌==◌, ◌&&◌, ◌||◌, nat_lt}
use Rattle.std.proofs.lemmas.Bool.{lt-ltb, le-ltb, eq-eqb, ne_eqb, cases_lt, cases_eq}
use Rattle.ftpp_base.specs.declared.sets.Set8.{Set8}
use Rattle.ftpp_base.specs.Sets.{has}
use Rattle.element_notes.proofs.RelaySets.{no_elements, has_none}

-- the set has those below k that pass
abbrev pub Gathers : (ℕ → Bool) → ℕ → Set8 → Type 0
Gathers test k set = (s : ℕ) → s < 8 → has set s ≡ (nat_lt s k && test s)

pub gathers_none : (test : ℕ → Bool) → Gathers test 0 no_elements
gathers_none test s l = has_none s ∙ ap (λ b. b && test s) (sym (le-ltb s 0 (omega arith)))

lower : (a b : Bool) → (a || (b && false)) ≡ a
lower true true = refl
lower true false = refl
lower false true = refl
lower false false = refl

here : (a b : Bool) → (false || (b && true)) ≡ b
here a true = refl
here a false = refl

higher : (b : Bool) → (false || (b && false)) ≡ false
higher true = refl
higher false = refl

-- below k, at k, or above it
placed : (test : ℕ → Bool) (s k : ℕ) → (s < k) ⊎ (k ≤ s) → (s ≡ k) ⊎ (s ≡ k → ⊥) → ((nat_lt s k && test s) || (test k && s == k)) ≡ (nat_lt s (k + 1) && test s)
placed test s k (inl l) (inl e) = let never : ⊥ = omega arith in absurd never
placed test s k (inl l) (inr away) =
    (λ i. (lt-ltb s k l i && test s) || (test k && ne_eqb s k away i)) ∙ lower (test s) (test k) ∙ ap (λ b. b && test s) (sym (lt-ltb s (k + 1) (omega arith)))
placed test s k (inr l) (inl e) =
    (λ i. (le-ltb s k l i && test s) || (test k && eq-eqb s k e i)) ∙ here true (test k) ∙ ap test (sym e)
    ∙ ap (λ b. b && test s) (sym (lt-ltb s (k + 1) (omega arith)))
placed test s k (inr l) (inr away) =
    (λ i. (le-ltb s k l i && test s) || (test k && ne_eqb s k away i)) ∙ higher (test k) ∙ ap (λ b. b && test s) (sym (le-ltb s (k + 1) (omega arith)))

-- with k itself, if it passes
pub gathers_more : (test : ℕ → Bool) (k j : ℕ) (set more : Set8) (b : Bool) → Gathers test k set → b ≡ test j → j ≡ k
    → ((s : ℕ) → s < 8 → has more s ≡ (has set s || (b && s == k))) → Gathers test (k + 1) more
gathers_more test k j set more b before is at now s l =
    now s l ∙ (λ i. before s l i || ((is ∙ ap test at) i && s == k)) ∙ placed test s k (cases_lt s k) (cases_eq s k)

-- below n they are all that pass
pub gathers_all : (test : ℕ → Bool) (k n : ℕ) (set : Set8) → Gathers test k set → n ≤ k → n ≤ 5 → (s : ℕ) → s < n → has set s ≡ test s
gathers_all test k n set all most few s l = all s (omega arith) ∙ ap (λ b. b && test s) (lt-ltb s k (omega arith))
