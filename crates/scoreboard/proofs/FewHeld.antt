-- Of the numbers below a bound, no more are held than a list has that contains each held one.
use Rattle.std.proofs.Common.{◌≡◌, ℕ, zero, suc, ◌+◌, ◌<◌, ◌≤◌, true, false, not, Bool, cond, List, [], ◌∷◌, length, filter, refl, arith, sym, ◌∙◌, ap, inl, inr, ◌⊎◌}
use Rattle.std.specs.Prelude.{◌==◌, ◌&&◌, count_by}
use Rattle.std.specs.List.{range_with_len}
use Rattle.std.proofs.lemmas.Bool.{and_parts, ne_eqb, eqb-true, eqb-false, not-true, false_from_ne_true}
use Rattle.ftpp_base.proofs.Items.{IsItem, filter_item}
use Rattle.ftpp_base.proofs.Counts.{count_by-cons}
use Rattle.sender_choice.specs.Sinces.{Sinces, is_held, held_count, HasRoomFor}

-- a test that leaves one number out
abbrev but : (ℕ → Bool) → ℕ → ℕ → Bool
but p n x = p x && not (x == n)

-- one number more, not that one
but_by : (a b : Bool) (m k : ℕ) → m ≤ k + 1 → (b ≡ true → m ≤ k) → cond a 1 0 + m ≤ (cond (a && not b) 1 0 + k) + 1
but_by true true m k l h = let less = h refl in omega arith
but_by true false m k l h = omega arith
but_by false b m k l h = omega arith

-- one number that is not left out
kept : (a b : Bool) (m k : ℕ) → b ≡ false → m ≤ k → cond a 1 0 + m ≤ cond (a && not b) 1 0 + k
kept a true m k e l = cc
kept true false m k e l = omega arith
kept false false m k e l = omega arith

-- from past a number on it does not come again
but_same : (p : ℕ → Bool) (from n one : ℕ) → one < from → count_by p (range_with_len from n) ≤ count_by (but p one) (range_with_len from n)
but_same p from zero one l = omega arith
but_same p from (suc n) one l =
    rw (count_by-cons p from (range_with_len (from + 1) n), count_by-cons (but p one) from (range_with_len (from + 1) n))
    (kept (p from) (from == one) _ _ (ne_eqb from one (λ e. omega arith)) (but_same p (from + 1) n one (omega arith)))

-- at most one passes fewer
but_one : (p : ℕ → Bool) (from n one : ℕ) → count_by p (range_with_len from n) ≤ count_by (but p one) (range_with_len from n) + 1
but_one p from zero one = omega arith
but_one p from (suc n) one =
    rw (count_by-cons p from (range_with_len (from + 1) n), count_by-cons (but p one) from (range_with_len (from + 1) n))
    (but_by (p from) (from == one) _ _ (but_one p (from + 1) n one) (λ e. let same = eqb-true from one e in but_same p (from + 1) n one (omega arith)))

-- where nothing passes, the count is 0
none_pass : (p : ℕ → Bool) (xs : List ℕ) → ((x : ℕ) → p x ≡ false) → count_by p xs ≡ 0
none_pass p [] h = refl
none_pass p (x ∷ xs) h = count_by-cons p x xs ∙ ap (λ b. cond b 1 0 + count_by p xs) (h x) ∙ (let rest = none_pass p xs h in omega arith)

-- what passes but one number is in the rest of the list
in_rest : (p : ℕ → Bool) (one x : ℕ) (xs : List ℕ) → ((y : ℕ) → p y ≡ true → IsItem (one ∷ xs) y) → but p one x ≡ true → IsItem xs x
in_rest p one x xs h e =
    let parts = and_parts (p x) (not (x == one)) e in
    elim (h x parts.0) [
      | inl same ↦ let gone = not-true (x == one) parts.1 in absurd (eqb-false x one gone (sym same))
      | inr i ↦ i
    ]

-- no more pass than are in a list that contains each that passes
count_among : (xs : List ℕ) (p : ℕ → Bool) (from n : ℕ) → ((x : ℕ) → p x ≡ true → IsItem xs x) → count_by p (range_with_len from n) ≤ length xs
count_among [] p from n h = let none = none_pass p (range_with_len from n) (λ x. false_from_ne_true (p x) (λ e. absurd (h x e))) in omega arith
count_among (one ∷ xs) p from n h =
    let less = but_one p from n one in
    let rest = count_among xs (but p one) from n (λ x e. in_rest p one x xs h e) in omega arith

-- by whether the first item passes
shorter_by : (b : Bool) (x : ℕ) (xs : List ℕ) (n : ℕ) → length xs ≤ n → length (cond b (x ∷ xs) xs) ≤ suc n
shorter_by true x xs n l = omega arith
shorter_by false x xs n l = omega arith

-- a filter leaves no more
shorter : (p : ℕ → Bool) (xs : List ℕ) → length (filter p xs) ≤ length xs
shorter p [] = omega arith
shorter p (x ∷ xs) = shorter_by (p x) x (filter p xs) (length xs) (shorter p xs)

-- by whether the first item passes, where one does not
without_by : (b : Bool) (p : ℕ → Bool) (y x : ℕ) (ys : List ℕ) → p y ≡ b → (y ≡ x) ⊎ IsItem ys x → p x ≡ false → (IsItem ys x → length (filter p ys) < length ys)
    → length (cond b (y ∷ filter p ys) (filter p ys)) < suc (length ys)
without_by true p y x ys f (inl same) e rest = let wrong = ap p same in cc
without_by true p y x ys f (inr i) e rest = let l = rest i in omega arith
without_by false p y x ys f i e rest = let l = shorter p ys in omega arith

-- where one item does not pass there are fewer
length_without : (p : ℕ → Bool) (xs : List ℕ) (x : ℕ) → IsItem xs x → p x ≡ false → length (filter p xs) < length xs
length_without p [] x i e = absurd i
length_without p (y ∷ ys) x i e = without_by (p y) p y x ys refl i e (λ j. length_without p ys x j e)

-- by whether a group is held
room_by : (b : Bool) (held : Sinces) (vids : List ℕ) (vid : ℕ) → is_held held vid ≡ b → ((v : ℕ) → is_held held v ≡ true → IsItem vids v) → length vids ≤ 40 → IsItem vids vid → HasRoomFor held vid
unfolding held_count
room_by true held vids vid e all l i = inl e
room_by false held vids vid e all l i =
    let few = count_among (filter (is_held held) vids) (is_held held) 0 256 (λ v h. filter_item (is_held held) vids v (all v h) h) in
    let less = length_without (is_held held) vids vid i e in
    inr (omega arith)

-- where all that are held are among at most 40 numbers, there is room for each of these
pub room_among : (held : Sinces) (vids : List ℕ) (vid : ℕ) → ((v : ℕ) → is_held held v ≡ true → IsItem vids v) → length vids ≤ 40 → IsItem vids vid → HasRoomFor held vid
room_among held vids vid all l i = room_by (is_held held vid) held vids vid refl all l i
