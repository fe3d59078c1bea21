-- Pairs in order: what they say, where one is taken out, and where one is put in.
use Rattle.std.proofs.Common.{◌≡◌, ◌≢◌, ℕ, suc, ◌+◌, ◌<◌, true, false, not, Bool, cond, List, [], ◌∷◌, filter, refl, arith, sym, ◌∙◌, ap}
use Rattle.std.specs.Prelude.{Option, Some, None, ◌==◌, find, option_map, insert}
use Rattle.std.specs.List.{AllByRecursion, prefix_len}
use Rattle.std.proofs.lemmas.Bool.{ltb-true, ltb-false, lt-ltb, eqb-true, eqb-false, eq-eqb, ne_eqb, or_cases, or_left, or_right, and_parts, and_from, or_parts, and_cases}
use Rattle.ftpp_base.proofs.Among.{all-filter}
use Rattle.sender_choice.specs.declared.index.Pair.{Pair}
use Rattle.sender_choice.specs.Sinces.{with_since, without_since}
use Rattle.sender_choice.specs.Pairs.{sinces_of, is_pair_of, is_other, is_before, goes_before, IsLater, InOrder, put_in_order}

-- ---- what pairs say

-- by whether the first pair is that of the group
said_by : (b : Bool) (p : Pair) (o : Option Pair) → option_map (λ q. q.since) (cond b (Some p) o) ≡ cond b (Some p.since) (option_map (λ q. q.since) o)
said_by true p o = refl
said_by false p o = refl

-- what pairs with one in front say
pub sinces_of-cons : (p : Pair) (ps : List Pair) (vid : ℕ) → sinces_of (p ∷ ps) vid ≡ cond (p.vid == vid) (Some p.since) (sinces_of ps vid)
sinces_of-cons p ps vid = said_by (p.vid == vid) p (find (is_pair_of vid) ps)

-- the pair in front says it of its own group
pub says_own : (p : Pair) (ps : List Pair) (vid : ℕ) → p.vid ≡ vid → sinces_of (p ∷ ps) vid ≡ Some p.since
says_own p ps vid e = sinces_of-cons p ps vid ∙ ap (λ b. cond b (Some p.since) (sinces_of ps vid)) (eq-eqb p.vid vid e)

-- and nothing of another
pub says_other : (p : Pair) (ps : List Pair) (vid : ℕ) → p.vid ≢ vid → sinces_of (p ∷ ps) vid ≡ sinces_of ps vid
says_other p ps vid ne = sinces_of-cons p ps vid ∙ ap (λ b. cond b (Some p.since) (sinces_of ps vid)) (ne_eqb p.vid vid ne)

-- ---- a pair taken out

-- by whether the first pair is taken out, whether it is that of a group, and whether that group is taken out
out_by : (b c d : Bool) (since : ℕ) (rest : Option ℕ) → (b ≡ true → c ≡ d) → (b ≡ false → c ≡ true → d ≡ false)
    → cond (not b) (cond c (Some since) (cond d None rest)) (cond d None rest) ≡ cond d None (cond c (Some since) rest)
out_by true true true since rest e h = refl
out_by true true false since rest e h = let wrong = e refl in cc
out_by true false true since rest e h = refl
out_by true false false since rest e h = refl
out_by false true true since rest e h = let wrong = h refl refl in cc
out_by false true false since rest e h = refl
out_by false false true since rest e h = refl
out_by false false false since rest e h = refl

-- what is said where the first pair may stay
stays_by : (b : Bool) (p : Pair) (ps : List Pair) (vid : ℕ) → sinces_of (cond b (p ∷ ps) ps) vid ≡ cond b (cond (p.vid == vid) (Some p.since) (sinces_of ps vid)) (sinces_of ps vid)
stays_by true p ps vid = sinces_of-cons p ps vid
stays_by false p ps vid = refl

-- the answers of two tests on equal numbers
one_test : (m n k : ℕ) → (m == n) ≡ true → (m == k) ≡ (k == n)
one_test m n k e = let same = eqb-true m n e in grind (arith, eq-eqb, ne_eqb)

-- and on different ones
two_tests : (m n k : ℕ) → (m == n) ≡ false → (m == k) ≡ true → (k == n) ≡ false
two_tests m n k e f = let other = eqb-false m n e in let same = eqb-true m k f in ne_eqb k n (λ h. other (same ∙ h))

-- the group that is taken out is not held, and the others are as before
pub sinces_of-filter : (vid : ℕ) (ps : List Pair) (other : ℕ) → sinces_of (filter (is_other vid) ps) other ≡ without_since (sinces_of ps) vid other
sinces_of-filter vid [] other = nothing (other == vid) where
  nothing : (b : Bool) → ◌≡◌ {A = Option ℕ} None (cond b None None)
  nothing true = refl
  nothing false = refl
sinces_of-filter vid (p ∷ ps) other =
    stays_by (not (p.vid == vid)) p (filter (is_other vid) ps) other
    ∙ ap (λ rest. cond (not (p.vid == vid)) (cond (p.vid == other) (Some p.since) rest) rest) (sinces_of-filter vid ps other)
    ∙ out_by (p.vid == vid) (p.vid == other) (other == vid) p.since (sinces_of ps other) (one_test p.vid vid other) (two_tests p.vid vid other)
    ∙ ap (cond (other == vid) None) (sym (sinces_of-cons p ps other))

-- by whether the first pair stays
order_by : (b : Bool) (test : Pair → Bool) (p : Pair) (ps : List Pair) → p.vid < 256 → AllByRecursion (IsLater p) ps → InOrder (filter test ps) → InOrder (cond b (p ∷ filter test ps) (filter test ps))
order_by true test p ps l later rest = (l, all-filter (IsLater p) test ps later, rest)
order_by false test p ps l later rest = rest

-- the pairs that are left are in order
pub InOrder-filter : (test : Pair → Bool) (ps : List Pair) → InOrder ps → InOrder (filter test ps)
InOrder-filter test [] order = tt
InOrder-filter test (p ∷ ps) order = order_by (test p) test p ps order.0 order.1 (InOrder-filter test ps order.2)

-- ---- a pair put in

-- the place of a pair is behind those that are less
place_by : (b : Bool) (x p : Pair) (ps : List Pair) (n : ℕ) → insert ps n x ≡ put_in_order x ps
    → insert (p ∷ ps) (cond b (1 + n) 0) x ≡ cond b (p ∷ put_in_order x ps) (x ∷ p ∷ ps)
place_by true x p ps n e = let more : 1 + n ≡ suc n = omega arith in ap (λ m. insert (p ∷ ps) m x) more ∙ ap (λ rest. p ∷ rest) e
place_by false x p ps n e = refl

pub insert-place : (x : Pair) (ps : List Pair) → insert ps (prefix_len (goes_before x) ps) x ≡ put_in_order x ps
insert-place x [] = refl
insert-place x (p ∷ ps) = place_by (is_before p x) x p ps (prefix_len (goes_before x) ps) (insert-place x ps)

-- what holds of the pairs and of the one that is put in holds of all
put_by : (b : Bool) (P : Pair → Type 0) (x p : Pair) (ps : List Pair) → P x → P p → AllByRecursion P ps → AllByRecursion P (put_in_order x ps)
    → AllByRecursion P (cond b (p ∷ put_in_order x ps) (x ∷ p ∷ ps))
put_by true P x p ps h i all more = (i, more)
put_by false P x p ps h i all more = (h, (i, all))

all_put : (P : Pair → Type 0) (x : Pair) (ps : List Pair) → P x → AllByRecursion P ps → AllByRecursion P (put_in_order x ps)
all_put P x [] h all = (h, tt)
all_put P x (p ∷ ps) h all = put_by (is_before p x) P x p ps h all.0 all.1 (all_put P x ps h all.1)

-- by whether the first pair is less than the one that is put in
put_said_by : (b c d : Bool) (p x : Option ℕ) (rest : Option ℕ) → (c ≡ true → d ≡ true → ⊥)
    → cond b (cond c p (cond d x rest)) (cond d x (cond c p rest)) ≡ cond d x (cond c p rest)
put_said_by true true true p x rest h = absurd (h refl refl)
put_said_by true true false p x rest h = refl
put_said_by true false d p x rest h = refl
put_said_by false c d p x rest h = refl

-- what is said with the pair behind the first or before it
both_by : (b : Bool) (x p : Pair) (ps : List Pair) (vid : ℕ)
    → sinces_of (cond b (p ∷ put_in_order x ps) (x ∷ p ∷ ps)) vid
    ≡ cond b (cond (p.vid == vid) (Some p.since) (sinces_of (put_in_order x ps) vid)) (cond (x.vid == vid) (Some x.since) (cond (p.vid == vid) (Some p.since) (sinces_of ps vid)))
both_by true x p ps vid = sinces_of-cons p (put_in_order x ps) vid
both_by false x p ps vid = sinces_of-cons x (p ∷ ps) vid ∙ ap (cond (x.vid == vid) (Some x.since)) (sinces_of-cons p ps vid)

-- a pair of a group that has none
abbrev pub IsNew : Pair → List Pair → Type 0
IsNew x ps = AllByRecursion (λ p. p.vid ≢ x.vid) ps

-- the group that is put in is held, and the others are as before
sinces_put : (x : Pair) (ps : List Pair) (vid : ℕ) → IsNew x ps → sinces_of (put_in_order x ps) vid ≡ cond (x.vid == vid) (Some x.since) (sinces_of ps vid)
sinces_put x [] vid new = sinces_of-cons x [] vid
sinces_put x (p ∷ ps) vid new =
    both_by (is_before p x) x p ps vid
    ∙ ap (λ rest. cond (is_before p x) (cond (p.vid == vid) (Some p.since) rest) (cond (x.vid == vid) (Some x.since) (cond (p.vid == vid) (Some p.since) (sinces_of ps vid)))) (sinces_put x ps vid new.1)
    ∙ put_said_by (is_before p x) (p.vid == vid) (x.vid == vid) (Some p.since) (Some x.since) (sinces_of ps vid) (λ e f. new.0 (eqb-true p.vid vid e ∙ sym (eqb-true x.vid vid f)))
    ∙ ap (cond (x.vid == vid) (Some x.since)) (sym (sinces_of-cons p ps vid))

-- a test on two numbers is the same the other way round
test_comm : (m n : ℕ) → (m == n) ≡ (n == m)
test_comm m n = by (m == n) refl where
  by : (b : Bool) → (m == n) ≡ b → (m == n) ≡ (n == m)
  by true e = e ∙ sym (eq-eqb n m (sym (eqb-true m n e)))
  by false e = e ∙ sym (ne_eqb n m (λ same. eqb-false m n e (sym same)))

pub sinces_of-put : (x : Pair) (ps : List Pair) (vid : ℕ) → IsNew x ps → sinces_of (put_in_order x ps) vid ≡ with_since (sinces_of ps) x.vid x.since vid
sinces_of-put x ps vid new = sinces_put x ps vid new ∙ ap (λ b. cond b (Some x.since) (sinces_of ps vid)) (test_comm x.vid vid)

-- an order of pairs passes on
before_through : (p q r : Pair) → is_before p q ≡ true → is_before q r ≡ true → is_before p r ≡ true
before_through p q r e f = grind (arith, or_cases, and_parts, and_from, or_left, or_right, ltb-true, lt-ltb, eqb-true, eq-eqb)

-- of two pairs of different groups one is less
before_else : (p q : Pair) → p.vid ≢ q.vid → is_before p q ≡ false → is_before q p ≡ true
before_else p q ne e = grind (arith, or_parts, and_cases, and_from, or_left, or_right, ltb-false, lt-ltb, eqb-false, eq-eqb)

-- the pairs behind a pair that comes after the one put in do so, too
all_later : (x p : Pair) (ps : List Pair) → is_before x p ≡ true → AllByRecursion (IsLater p) ps → IsNew x ps → AllByRecursion (IsLater x) ps
all_later x p [] e later new = tt
all_later x p (q ∷ qs) e later new =
    (record { greater = before_through x p q e later.0.greater; other_group = λ h. new.0 (sym h) }, all_later x p qs e later.1 new.1)

-- by whether the first pair is less than the one that is put in
put_order_by : (b : Bool) (x p : Pair) (ps : List Pair) → is_before p x ≡ b → x.vid < 256 → InOrder (p ∷ ps) → IsNew x (p ∷ ps) → InOrder (put_in_order x ps) → InOrder (cond b (p ∷ put_in_order x ps) (x ∷ p ∷ ps))
put_order_by true x p ps e l order new rest =
    (order.0, all_put (IsLater p) x ps (record { greater = e; other_group = new.0 }) order.1, rest)
put_order_by false x p ps e l order new rest =
    let less : is_before x p ≡ true = before_else p x new.0 e in
    (l, (record { greater = less; other_group = λ h. new.0 (sym h) }, all_later x p ps less order.1 new.1), order)

-- with a pair put in they are in order
pub InOrder-put : (x : Pair) (ps : List Pair) → x.vid < 256 → InOrder ps → IsNew x ps → InOrder (put_in_order x ps)
InOrder-put x [] l order new = (l, tt, tt)
InOrder-put x (p ∷ ps) l order new = put_order_by (is_before p x) x p ps refl l order new (InOrder-put x ps l order.2 new.1)

-- the group that is taken out has no pair left
new_by : (b : Bool) (x p : Pair) (ps : List Pair) → (p.vid == x.vid) ≡ b → IsNew x (filter (is_other x.vid) ps) → IsNew x (cond (not b) (p ∷ filter (is_other x.vid) ps) (filter (is_other x.vid) ps))
new_by true x p ps e rest = rest
new_by false x p ps e rest = (eqb-false p.vid x.vid e, rest)

pub IsNew-filter : (x : Pair) (ps : List Pair) → IsNew x (filter (is_other x.vid) ps)
IsNew-filter x [] = tt
IsNew-filter x (p ∷ ps) = new_by (p.vid == x.vid) x p ps refl (IsNew-filter x ps)

-- a group that is taken out and put in with another since
pub sinces_of-set : (x : Pair) (ps : List Pair) (other : ℕ) → sinces_of (put_in_order x (filter (is_other x.vid) ps)) other ≡ with_since (sinces_of ps) x.vid x.since other
sinces_of-set x ps other =
    sinces_of-put x (filter (is_other x.vid) ps) other (IsNew-filter x ps)
    ∙ ap (cond (other == x.vid) (Some x.since)) (sinces_of-filter x.vid ps other)
    ∙ once (other == x.vid) (Some x.since) (sinces_of ps other)
  where
    once : (b : Bool) (o rest : Option ℕ) → cond b o (cond b None rest) ≡ cond b o rest
    once true o rest = refl
    once false o rest = refl
