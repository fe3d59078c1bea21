-- The entries on copies and on relayed rows, by the set of the senders about whom a word is off.
use Rattle.std.proofs.Common.{◌≡◌, ◌≢◌, ℕ, zero, suc, ◌+◌, ◌<◌, ◌≤◌, Bool, true, false, cond, List, [], ◌∷◌, ◌++◌, length, length-append, map, refl, ap, sym, ◌∙◌, arith, not, append_assoc, ◌⊎◌, inl, inr}
use Rattle.std.specs.Prelude.{◌==◌, ◌&&◌, filter, remove}
use Rattle.std.specs.List.{range_with_len, flat_map}
use Rattle.std.proofs.lemmas.Bool.{eq-eqb, eqb-true, ne_eqb, cases_lt}
use Rattle.std.proofs.lemmas.Grind.{flat_map-append}
use Rattle.std.proofs.lemmas.List.{length-map, map-id, append-nil, take_all, drop_all}
use Rattle.std.proofs.lemmas.List.Edits.{length-remove}
use Rattle.std.proofs.lemmas.List.FromFn.{length-range_with_len}
use Rattle.std.proofs.lemmas.List.Sums.{length-filter, count_by-le-length}
use Rattle.ftpp_base.specs.Lists.{below, others, cell_at}
use Rattle.ftpp_base.specs.Sets.{has}
use Rattle.ftpp_base.specs.declared.sets.Set8.{Set8}
use Rattle.bit_vote.specs.Vote.{same_cell}
use Rattle.two_round.specs.Echoes.{Echoes, word_of, relayed_at, result_for}
use Rattle.two_round.proofs.OthersMore.{others_same, others_more}
use Rattle.syndrome_log.specs.declared.Syndrome.{Syndrome}
use Rattle.syndrome_log.specs.declared.SyndromeKind.{SyndromeKind}
use Rattle.syndrome_log.specs.Log.{noted}
use Rattle.element_notes.specs.Notes.{is_off_copy, is_off_relay, off_copies, off_by}
use Rattle.element_notes.specs.declared.entries.Heading.{Heading}
use Rattle.element_notes.specs.declared.entries.Accused.TheVariants.{Itself, Relay}
use Rattle.element_notes.specs.Words.{entry_about, entries_about, is_off_word}

-- ---- those that pass, of all and of all but one

-- tests that agree on some numbers keep the same of them
pub filter_range-same : (p q : ℕ → Bool) (a m n : ℕ) → a + m ≤ n → ((s : ℕ) → s < n → a ≤ s → p s ≡ q s)
    → filter p (range_with_len a m) ≡ filter q (range_with_len a m)
filter_range-same p q a zero n l same = refl
filter_range-same p q a (suc m) n l same =
    λ t. cond (same a (omega arith) (omega arith) t) (a ∷ filter_range-same p q (a + 1) m n (omega arith) (λ s k h. same s k (omega arith)) t)
    (filter_range-same p q (a + 1) m n (omega arith) (λ s k h. same s k (omega arith)) t)

-- a test that leaves one out keeps of all what the other test keeps of all but that one
filter_but : (p q : ℕ → Bool) (a m i one n : ℕ) → a + m ≤ n → a + i ≡ one → ((s : ℕ) → s < n → p s ≡ (not (s == one) && q s))
    → filter p (range_with_len a m) ≡ filter q (remove (range_with_len a m) i)
filter_but p q a zero zero one n l e same = refl
filter_but p q a zero (suc i) one n l e same = refl
filter_but p q a (suc m) zero one n l e same =
    let out : p a ≡ false = same a (omega arith) ∙ ap (λ b. not b && q a) (eq-eqb a one (omega arith)) in
    ap (λ b. cond b (a ∷ filter p (range_with_len (a + 1) m)) (filter p (range_with_len (a + 1) m))) out
    ∙ filter_range-same p q (a + 1) m n (omega arith)
    (λ s k h. same s k ∙ ap (λ b. not b && q s) (ne_eqb s one (λ (z : s ≡ one). let never : ⊥ = omega arith in never)))
filter_but p q a (suc m) (suc i) one n l e same =
    let kept : p a ≡ q a = same a (omega arith) ∙ ap (λ b. not b && q a) (ne_eqb a one (λ (z : a ≡ one). let never : ⊥ = omega arith in never)) in
    λ t. cond (kept t) (a ∷ filter_but p q (a + 1) m i one n (omega arith) (omega arith) same t)
    (filter_but p q (a + 1) m i one n (omega arith) (omega arith) same t)

pub filter_others : (p q : ℕ → Bool) (one n : ℕ) → ((s : ℕ) → s < n → p s ≡ (not (s == one) && q s)) → filter p (below n) ≡ filter q (others n one)
filter_others p q one n same = filter_but p q 0 n one one n (omega arith) (omega arith) same

-- ---- words that are off

module _ (x : Echoes) (counts off : Set8) where
  -- its own word is its copy
  own_word : (me s : ℕ) → x.me ≡ me → (has counts s && not (same_cell (word_of x s me) (result_for x s))) ≡ is_off_copy x (has counts) s
  own_word me s e = ap (λ b. has counts s && not (same_cell (cond b (cell_at x.copies s) (relayed_at x me s)) (result_for x s))) (eq-eqb me x.me (sym e))

  -- that of another is the relayed row
  other_word : (of s : ℕ) → of ≢ x.me → (has counts s && not (same_cell (word_of x s of) (result_for x s))) ≡ is_off_relay x (has counts) of s
  other_word of s away = ap (λ b. has counts s && not (same_cell (cond b (cell_at x.copies s) (relayed_at x of s)) (result_for x s))) (ne_eqb of x.me away)

  -- the entries about the senders whose copies are off
  pub copies_off : (heading : Heading) (n me : ℕ) → x.me ≡ me → ((s : ℕ) → s < n → has off s ≡ is_off_word x counts me s)
      → entries_about heading Itself n off ≡ off_copies heading.cycle heading.kind x n (has counts)
  copies_off heading n me e are =
      ap (map (entry_about heading Itself))
      (filter_others (has off) (is_off_copy x (has counts)) x.me n (λ s l. are s l ∙ (λ t. not (s == sym e t) && own_word me s e t)))

  -- the entries on a relay
  pub relay_off : (heading : Heading) (n of : ℕ) → of ≢ x.me → ((s : ℕ) → s < n → has off s ≡ is_off_word x counts of s)
      → entries_about heading (Relay of) n off ≡ off_by heading.cycle heading.kind x n (has counts) of
  relay_off heading n of away are =
      ap (map (entry_about heading (Relay of)))
      (filter_others (has off) (is_off_relay x (has counts) of) of n (λ s l. are s l ∙ ap (λ b. not (s == of) && b) (other_word of s away)))

-- ---- counts

-- past the last one none is left out
others_past : (k one : ℕ) → k ≤ one → others k one ≡ below k
others_past k one l =
    let long : length (below k) ≡ k = length-range_with_len 0 k in
    (λ i. take_all one (below k) (omega arith) i ++ drop_all (suc one) (below k) (omega arith) i) ∙ append-nil (below k)

few_by : (k n one : ℕ) → k ≤ n → n ≤ 5 → one < n → (one < k) ⊎ (k ≤ one) → length (others k one) ≤ 4
few_by k n one l few there (inl within) =
    let long : length (below k) ≡ k = length-range_with_len 0 k in
    let less : length (others k one) + 1 ≡ length (below k) = length-remove (below k) one (omega arith) in
    omega arith
few_by k n one l few there (inr past) =
    let long : length (below k) ≡ k = length-range_with_len 0 k in
    let same : length (others k one) ≡ length (below k) = ap length (others_past k one past) in
    omega arith

-- at most four others, of those so far too
pub others_few : (k n one : ℕ) → k ≤ n → n ≤ 5 → one < n → length (others k one) ≤ 4
others_few k n one l few there = few_by k n one l few there (cases_lt one k)

-- no more is made of those that pass a test than there are
made_few : {A : Type 0} (f : ℕ → A) (p : ℕ → Bool) (ks : List ℕ) → length (map f (filter p ks)) ≤ length ks
made_few f p ks =
    let long = length-map (filter p ks) f in
    let count = length-filter p ks in
    let fewer = count_by-le-length p ks in
    omega arith

pub copies_few : (cycle : ℕ) (kind : SyndromeKind) (x : Echoes) (n : ℕ) (counts : ℕ → Bool) → n ≤ 5 → x.me < n → length (off_copies cycle kind x n counts) ≤ 4
copies_few cycle kind x n counts few there =
    let made = made_few (λ ne. noted cycle kind ne ne) (is_off_copy x counts) (others n x.me) in
    let most = others_few n n x.me (omega arith) few there in
    omega arith

pub by_few : (cycle : ℕ) (kind : SyndromeKind) (x : Echoes) (n : ℕ) (counts : ℕ → Bool) (relay : ℕ) → n ≤ 5 → relay < n
    → length (off_by cycle kind x n counts relay) ≤ 4
by_few cycle kind x n counts relay few there =
    let made = made_few (λ s. noted cycle kind relay s) (is_off_relay x counts relay) (others n relay) in
    let most = others_few n n relay (omega arith) few there in
    omega arith

-- a list with some more, by what was appended
pub longer : {A : Type 0} (old more new : List A) (m : ℕ) → new ≡ old ++ more → length more ≤ m → length new ≤ length old + m
longer old more new m e few = let long : length new ≡ length old + length more = ap length e ∙ length-append old more in omega arith

-- ---- relay after relay

-- what the code compares
pub another : (k relay me : ℕ) (b : Bool) → relay ≡ k → b ≡ not (relay == me) → b ≡ true → k ≢ me
another k relay me b e is yes_b same = let one : (relay == me) ≡ true = eq-eqb relay me (e ∙ same) in let no_b : b ≡ false = is ∙ ap not one in cc

pub itself : (k relay me : ℕ) (b : Bool) → relay ≡ k → b ≡ not (relay == me) → b ≡ false → k ≡ me
itself k relay me b e is no_b = sym e ∙ eqb-true relay me (not_false (relay == me) (sym is ∙ no_b)) where
  not_false : (c : Bool) → not c ≡ false → c ≡ true
  not_false true h = refl
  not_false false h = cc

-- the next is another one
pub others_next : (k one : ℕ) → k ≢ one → others (k + 1) one ≡ others k one ++ k ∷ []
others_next k one away =
    sym (others_more (λ j. j) one (others k one) (others k one ++ k ∷ []) k k (sym (map-id (others k one))) refl away refl ∙ map-id (others (k + 1) one))

-- or it is the one left out
pub others_skip : (k one : ℕ) → k ≡ one → others (k + 1) one ≡ others k one
others_skip k one same = sym (others_same (λ j. j) one (others k one) k (sym (map-id (others k one))) same ∙ map-id (others (k + 1) one))

-- one other more
pub others_longer : (k one : ℕ) → k ≢ one → length (others (k + 1) one) ≡ length (others k one) + 1
others_longer k one away = ap length (others_next k one away) ∙ length-append (others k one) (k ∷ [])

-- the entries on the relays so far, and on one more
pub relays_more : (f : ℕ → List Syndrome) (one k j : ℕ) (start list more : List Syndrome) → list ≡ start ++ flat_map f (others k one)
    → more ≡ list ++ f j → j ≡ k → k ≢ one → more ≡ start ++ flat_map f (others (k + 1) one)
relays_more f one k j start list more before now at away =
    now
    ∙ (λ t. before t ++ (ap f at ∙ sym (append-nil (f k))) t)
    ∙ append_assoc start (flat_map f (others k one)) (flat_map f (k ∷ []))
    ∙ ap (λ l. start ++ l) (sym (flat_map-append f (others k one) (k ∷ [])))
    ∙ ap (λ l. start ++ flat_map f l) (sym (others_next k one away))

-- the same where the next is left out
pub relays_same : (f : ℕ → List Syndrome) (one k : ℕ) (start list : List Syndrome) → list ≡ start ++ flat_map f (others k one) → k ≡ one
    → list ≡ start ++ flat_map f (others (k + 1) one)
relays_same f one k start list before same = before ∙ ap (λ l. start ++ flat_map f l) (sym (others_skip k one same))
