-- What is noted of an exchange where only the words about some senders are looked at.
use Rattle.std.proofs.Common.{◌≡◌, ◌≢◌, ℕ, zero, suc, ◌+◌, ◌<◌, ◌≤◌, Bool, true, false, cond, List, [], ◌∷◌, ◌++◌, map, refl, ap, sym, ◌∙◌, arith, not, ◌⊎◌, inl, inr}
use Rattle.std.specs.Prelude.{◌==◌, ◌&&◌, filter, remove}
use Rattle.std.specs.List.{range_with_len, flat_map}
use Rattle.std.proofs.lemmas.Bool.{eq-eqb, ne_eqb, cases_eq}
use Rattle.ftpp_base.specs.Lists.{others, cell_at}
use Rattle.ftpp_base.specs.Sets.{has}
use Rattle.ftpp_base.specs.declared.sets.Set8.{Set8}
use Rattle.bit_vote.specs.Vote.{Cell, same_cell}
use Rattle.bit_vote.proofs.Majority.{same_cell-refl}
use Rattle.two_round.specs.Echoes.{Echoes, relayed_at, result_for}
use Rattle.syndrome_log.specs.declared.Syndrome.{Syndrome}
use Rattle.syndrome_log.specs.declared.SyndromeKind.{SyndromeKind}
use Rattle.syndrome_log.specs.Log.{noted}
use Rattle.element_notes.specs.AtHand.{HasDiffering}
use Rattle.element_notes.specs.Notes.{is_off_copy, is_off_relay, off_copies, off_by, off_relays}
use Rattle.element_notes.proofs.OffRows.{filter_range-same, filter_others}
use Rattle.element_notes.proofs.RelaySets.{has_none}

-- ---- where nothing is looked at

filter_none : (p : ℕ → Bool) (ks : List ℕ) → ((s : ℕ) → p s ≡ false) → filter p ks ≡ []
filter_none p [] all = refl
filter_none p (k ∷ ks) all = ap (λ b. cond b (k ∷ filter p ks) (filter p ks)) (all k) ∙ filter_none p ks all

flat_none : (f : ℕ → List Syndrome) (ks : List ℕ) → ((k : ℕ) → f k ≡ []) → flat_map f ks ≡ []
flat_none f [] all = refl
flat_none f (k ∷ ks) all = (λ t. all k t ++ flat_none f ks all t)

module _ (cycle : ℕ) (sort : SyndromeKind) (x : Echoes) (n : ℕ) (set : Set8) (bits : set.bits ≡ 0) where
  none : (s : ℕ) → has set s ≡ false
  none s = ap (λ b. has (record { bits = b }) s) bits ∙ has_none s

  pub no_copies : off_copies cycle sort x n (has set) ≡ []
  no_copies =
      ap (map (λ ne. noted cycle sort ne ne))
      (filter_none (is_off_copy x (has set)) (others n x.me) (λ s. ap (λ b. b && not (same_cell (cell_at x.copies s) (result_for x s))) (none s)))

  no_by : (relay : ℕ) → off_by cycle sort x n (has set) relay ≡ []
  no_by relay =
      ap (map (λ s. noted cycle sort relay s))
      (filter_none (is_off_relay x (has set) relay) (others n relay) (λ s. ap (λ b. b && not (same_cell (relayed_at x relay s) (result_for x s))) (none s)))

  pub no_relays : off_relays cycle sort x n (has set) ≡ []
  no_relays = flat_none (off_by cycle sort x n (has set)) (others n x.me) no_by

-- ---- tests that agree on all but one

but : (p q : Bool) (s one : ℕ) → (s ≢ one → p ≡ q) → (s ≡ one) ⊎ (s ≡ one → ⊥) → (not (s == one) && p) ≡ (not (s == one) && q)
but p q s one same (inl e) = ap (λ b. not b && p) (eq-eqb s one e) ∙ sym (ap (λ b. not b && q) (eq-eqb s one e))
but p q s one same (inr away) = ap (λ b. not (s == one) && b) (same away)

filter_others-same : (p q : ℕ → Bool) (n one : ℕ) → ((s : ℕ) → s < n → s ≢ one → p s ≡ q s) → filter p (others n one) ≡ filter q (others n one)
filter_others-same p q n one same =
    let most : (ℕ → Bool) → ℕ → Bool = λ r s. not (s == one) && r s in
    sym (filter_others (most p) p one n (λ s l. refl))
    ∙ filter_range-same (most p) (most q) 0 n n (omega arith) (λ s l h. but (p s) (q s) s one (same s l) (cases_eq s one))
    ∙ filter_others (most q) q one n (λ s l. refl)

flat_range-same : (f g : ℕ → List Syndrome) (a m n : ℕ) → a + m ≤ n → ((k : ℕ) → k < n → a ≤ k → f k ≡ g k)
    → flat_map f (range_with_len a m) ≡ flat_map g (range_with_len a m)
flat_range-same f g a zero n l same = refl
flat_range-same f g a (suc m) n l same =
    λ t. same a (omega arith) (omega arith) t ++ flat_range-same f g (a + 1) m n (omega arith) (λ k b h. same k b (omega arith)) t

flat_but-same : (f g : ℕ → List Syndrome) (a m i one n : ℕ) → a + m ≤ n → a + i ≡ one → ((k : ℕ) → k < n → k ≢ one → f k ≡ g k)
    → flat_map f (remove (range_with_len a m) i) ≡ flat_map g (remove (range_with_len a m) i)
flat_but-same f g a zero zero one n l e same = refl
flat_but-same f g a zero (suc i) one n l e same = refl
flat_but-same f g a (suc m) zero one n l e same =
    flat_range-same f g (a + 1) m n (omega arith) (λ k b h. same k b (λ (z : k ≡ one). let never : ⊥ = omega arith in never))
flat_but-same f g a (suc m) (suc i) one n l e same =
    λ t. same a (omega arith) (λ (z : a ≡ one). let never : ⊥ = omega arith in never) t ++ flat_but-same f g (a + 1) m i one n (omega arith) (omega arith) same t

-- ---- the words about any other sender are its result

same_is_on : (word result : Cell) → word ≡ result → not (same_cell word result) ≡ false
same_is_on word result e = ap (λ w. not (same_cell w result)) e ∙ ap not (same_cell-refl result)

-- looked at, or not to be noted
looked : (in_set counts off : Bool) → (in_set ≡ true → counts ≡ true) → (counts ≡ true → in_set ≡ false → off ≡ false) → (in_set && off) ≡ (counts && off)
looked true counts off count rest = ap (λ b. b && off) (sym (count refl))
looked false true off count rest = sym (rest refl refl)
looked false false off count rest = refl

module _ (cycle : ℕ) (sort : SyndromeKind) (x : Echoes) (n : ℕ) (senders : ℕ → Bool) (set : Set8) (h : HasDiffering n x senders set) where
  -- its own word is its copy
  own_is : (s : ℕ) → s < n → x.me < n → s ≢ x.me → senders s ≡ true → has set s ≡ false → cell_at x.copies s ≡ result_for x s
  own_is s l among away count out =
      ap (λ b. cond b (cell_at x.copies s) (relayed_at x x.me s)) (sym (eq-eqb x.me x.me refl)) ∙ h.rest s l count out x.me among (λ e. away (sym e))

  -- that of another is the relayed row
  other_is : (relay s : ℕ) → s < n → relay < n → relay ≢ x.me → s ≢ relay → senders s ≡ true → has set s ≡ false → relayed_at x relay s ≡ result_for x s
  other_is relay s l among other away count out =
      ap (λ b. cond b (cell_at x.copies s) (relayed_at x relay s)) (sym (ne_eqb relay x.me other)) ∙ h.rest s l count out relay among (λ e. away (sym e))

  pub copies_looked : x.me < n → off_copies cycle sort x n (has set) ≡ off_copies cycle sort x n senders
  copies_looked among =
      ap (map (λ ne. noted cycle sort ne ne))
      (filter_others-same (is_off_copy x (has set)) (is_off_copy x senders) n x.me
      (λ s l away. looked (has set s) (senders s) _ (h.count s l) (λ count out. same_is_on _ _ (own_is s l among away count out))))

  by_looked : (relay : ℕ) → relay < n → relay ≢ x.me → off_by cycle sort x n (has set) relay ≡ off_by cycle sort x n senders relay
  by_looked relay among other =
      ap (map (λ s. noted cycle sort relay s))
      (filter_others-same (is_off_relay x (has set) relay) (is_off_relay x senders relay) n relay
      (λ s l away. looked (has set s) (senders s) _ (h.count s l) (λ count out. same_is_on _ _ (other_is relay s l among other away count out))))

  pub relays_looked : off_relays cycle sort x n (has set) ≡ off_relays cycle sort x n senders
  relays_looked = flat_but-same (off_by cycle sort x n (has set)) (off_by cycle sort x n senders) 0 n x.me x.me n (omega arith) (omega arith) by_looked
