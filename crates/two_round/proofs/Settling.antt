-- The results that are written source by source over the copies, with the set of the sources about which the words differ.
use Rattle.std.proofs.Common.{◌≡◌, ◌≢◌, ℕ, ◌+◌, ◌<◌, ◌≤◌, Bool, true, false, cond, List, length, get_or, set as put, subst, refl, ap, sym, ◌∙◌, arith, ◌⊎◌, inl, inr}
use Rattle.std.specs.Prelude.{◌↔◌, ◌==◌, ◌||◌, None}
use Rattle.std.proofs.lemmas.Bool.{cases_eq, eq-eqb, ne_eqb}
use Rattle.std.proofs.lemmas.List.{get_or-set_same, get_or-set_other}
use Rattle.std.proofs.lemmas.Nat.Bits.{bit_at-zero}
use Rattle.std.proofs.Math.Bool.{or-false}
use Rattle.ftpp_base.specs.Lists.{cell_at}
use Rattle.ftpp_base.specs.Sets.{has, with_number}
use Rattle.ftpp_base.specs.declared.sets.Set8.{Set8}
use Rattle.ftpp_base.proofs.SetLaws.{has-set_where}
use Rattle.bit_vote.specs.Vote.{Cell}
use Rattle.two_round.specs.Echoes.{Echoes, result_for, result_of, AreAlike, IsUnanimous}

-- Of one source: its result stands there, and it is in the set exactly where it is to be settled and the words differ.
pub record IsSettled (n : ℕ) (x : Echoes) (sources : Set8) (s : ℕ) (cell : Cell) (differs : Bool) : Type 0 where
  pub result : cell ≡ result_of sources x s
  pub differing : (differs ≡ true) ↔ ((has sources s ≡ true) × (AreAlike n x s → ⊥))
  pub alike : has sources s ≡ true → differs ≡ false → IsUnanimous n x s

-- Of the sources below k so, and the rest are the copies.
pub record Settles (n : ℕ) (x : Echoes) (sources : Set8) (k : ℕ) (results : List Cell) (differing : Set8) : Type 0 where
  pub long : length results ≡ n
  pub done : (s : ℕ) → s < k → IsSettled n x sources s (get_or results s None) (has differing s)
  pub rest : (s : ℕ) → k ≤ s → s < n → get_or results s None ≡ cell_at x.copies s
  pub none : (s : ℕ) → k ≤ s → s < 8 → has differing s ≡ false

module _ (n : ℕ) (x : Echoes) (sources : Set8) where
  -- before the first
  pub settles_none : (results : List Cell) (set : Set8) → results ≡ x.copies → length results ≡ n → set.bits ≡ 0 → Settles n x sources 0 results set
  settles_none results set same long e = record {
    long = long;
    done = λ s l. let never : ⊥ = omega arith in absurd never;
    rest = λ s l m. ap (λ r. get_or r s None) same;
    none = λ s l m. ap (λ b. has (record { bits = b }) s) e ∙ ap (λ m. m == 1) (bit_at-zero s);
  }

  -- a source that is not to be settled
  pub left_out : (s : ℕ) → has sources s ≡ false → IsSettled n x sources s None false
  left_out s out = record {
    result = sym (ap (λ b. cond b (result_for x s) None) out);
    differing = (λ e. cc, λ (h : (has sources s ≡ true) × (AreAlike n x s → ⊥)). let is = h.0 in cc);
    alike = λ e d. cc;
  }

  -- one whose words are alike
  pub is_alike : (s : ℕ) → has sources s ≡ true → AreAlike n x s → cell_at x.copies s ≡ result_for x s → IsSettled n x sources s (cell_at x.copies s) false
  is_alike s there alike voted = record {
    result = voted ∙ sym (ap (λ b. cond b (result_for x s) None) there);
    differing = (λ e. cc, λ (h : (has sources s ≡ true) × (AreAlike n x s → ⊥)). absurd (h.1 alike));
    alike = λ e d k l away. alike.1 k l away ∙ voted;
  }

  -- one whose words differ
  pub differs : (s : ℕ) (cell : Cell) → has sources s ≡ true → (AreAlike n x s → ⊥) → cell ≡ result_for x s → IsSettled n x sources s cell true
  differs s cell there odd counted = record {
    result = counted ∙ sym (ap (λ b. cond b (result_for x s) None) there);
    differing = (λ e. (there, odd), λ h. refl);
    alike = λ e d. cc;
  }

  -- one source more, where nothing changes at the others
  settles_more : (k : ℕ) (results now : List Cell) (set more : Set8) → k < n → n ≤ 5 → Settles n x sources k results set → length now ≡ n
      → ((s : ℕ) → s ≢ k → get_or now s None ≡ get_or results s None) → ((s : ℕ) → s < 8 → s ≢ k → has more s ≡ has set s)
      → IsSettled n x sources k (get_or now k None) (has more k) → Settles n x sources (k + 1) now more
  settles_more k results now set more there few before long cells sets here = record {
    long = long;
    done = λ s l. done_by s l (cases_eq s k);
    rest = λ s l m. cells s (λ (e : s ≡ k). let never : ⊥ = omega arith in never) ∙ before.rest s (omega arith) m;
    none = λ s l m. sets s m (λ (e : s ≡ k). let never : ⊥ = omega arith in never) ∙ before.none s (omega arith) m;
  } where
    done_by : (s : ℕ) → s < k + 1 → (s ≡ k) ⊎ (s ≡ k → ⊥) → IsSettled n x sources s (get_or now s None) (has more s)
    done_by s l (inl e) = subst (λ t. IsSettled n x sources t (get_or now t None) (has more t)) (sym e) here
    done_by s l (inr away) =
        subst (λ (p : Cell × Bool). IsSettled n x sources s p.0 p.1) (λ i. (sym (cells s away) i, sym (sets s (omega arith) away) i))
        (before.done s (omega arith))

  -- one that is not to be settled
  pub more_left_out : (k : ℕ) (results now : List Cell) (set : Set8) → k < n → n ≤ 5 → Settles n x sources k results set → length now ≡ n
      → has sources k ≡ false → now ≡ put results k None → Settles n x sources (k + 1) now set
  more_left_out k results now set there few before long out at =
      settles_more k results now set set there few before long
      (λ s away. ap (λ r. get_or r s None) at ∙ get_or-set_other results k s None None away) (λ s l away. refl)
      (subst (λ (p : Cell × Bool). IsSettled n x sources k p.0 p.1)
      (λ i. (sym (ap (λ r. get_or r k None) at ∙ get_or-set_same results k None None (let h = before.long in omega arith)) i, sym (before.none k (omega arith) (omega arith)) i))
      (left_out k out))

  -- one whose words are alike: its copy stays
  pub more_alike : (k : ℕ) (results : List Cell) (set : Set8) → k < n → n ≤ 5 → Settles n x sources k results set
      → has sources k ≡ true → AreAlike n x k → cell_at x.copies k ≡ result_for x k → Settles n x sources (k + 1) results set
  more_alike k results set there few before member alike voted =
      settles_more k results results set set there few before before.long (λ s away. refl) (λ s l away. refl)
      (subst (λ (p : Cell × Bool). IsSettled n x sources k p.0 p.1)
      (λ i. (sym (before.rest k (omega arith) there) i, sym (before.none k (omega arith) (omega arith)) i))
      (is_alike k member alike voted))

  -- one whose words differ
  pub more_differs : (k : ℕ) (results now : List Cell) (set more : Set8) (cell : Cell) → k < n → n ≤ 5 → Settles n x sources k results set → length now ≡ n
      → has sources k ≡ true → (AreAlike n x k → ⊥) → cell ≡ result_for x k → now ≡ put results k cell → more ≡ with_number set k → Settles n x sources (k + 1) now more
  more_differs k results now set more cell there few before long member odd counted at grown =
      settles_more k results now set more there few before long
      (λ s away. ap (λ r. get_or r s None) at ∙ get_or-set_other results k s cell None away)
      (λ s l away. larger s l ∙ ap (λ b. has set s || b) (ne_eqb s k away) ∙ or-false (has set s))
      (subst (λ (p : Cell × Bool). IsSettled n x sources k p.0 p.1)
      (λ i. (sym (ap (λ r. get_or r k None) at ∙ get_or-set_same results k cell None (let h = before.long in omega arith)) i, sym (larger k (omega arith) ∙ put_in) i))
      (differs k cell member odd counted)) where
        larger : (s : ℕ) → s < 8 → has more s ≡ (has set s || s == k)
        larger s l = ap (λ m. has m s) grown ∙ has-set_where (λ j. has set j || j == k) s l

        or_true : (b : Bool) → (b || true) ≡ true
        or_true true = refl
        or_true false = refl

        put_in : (has set k || k == k) ≡ true
        put_in = ap (λ b. has set k || b) (eq-eqb k k refl) ∙ or_true (has set k)
