-- Members that are gathered one after the other, and the flags that they make.
use Rattle.std.proofs.Common.{◌≡◌, ℕ, ◌+◌, ◌<◌, ◌≤◌, Bool, true, false, cond, List, [], ◌∷◌, ◌++◌, length, map, drop, take, get_or, refl, ap, sym, ◌∙◌, ◌*◌, ◌%◌, ◌^◌, bit_or, arith, Option, Some, None, append_assoc}
use Rattle.std.specs.Prelude.{◌==◌, ◌||◌, filter, find, count_by}
use Rattle.std.specs.Int.Bits.{or_zero_r}
use Rattle.std.proofs.lemmas.List.{append-nil, drop_more, drop_all, take_more, map-append}
use Rattle.std.proofs.lemmas.List.Elements.{filter-append}
use Rattle.std.proofs.lemmas.Bool.{and_parts, ltb-false, le-ltb}
use Rattle.ftpp_base.proofs.Counts.{count_by-cons, count_le}
use Rattle.std.proofs.lemmas.List.Folds.{list_any-append}
use Rattle.std.proofs.lemmas.Bool.Decides.{nat_tests}
use Rattle.ftpp_base.specs.Bits.{byte_where, most}
use Rattle.ftpp_base.specs.Lists.{is_in}
use Rattle.ftpp_base.specs.Sets.{has, set_of, with_number}
use Rattle.ftpp_base.specs.declared.element.Proc.{Proc}
use Rattle.ftpp_base.specs.declared.sets.Set8.{Set8}
use Rattle.ftpp_base.proofs.Adding.{with_bit}
use Rattle.ftpp_base.proofs.SetLaws.{has-set_where, set_where-same}
use Rattle.packet_format.specs.declared.Descriptor.{Descriptor}
use Rattle.config_table.specs.Groups.{live_members, elements_of}
use Rattle.config_table.specs.declared.groups.Group.{Group}
pub use Rattle.config_table.proofs.Unmasked.{unmasked_more}
use Rattle.flag_vote.specs.Flags.{Pattern, holds, has_space, descriptor_of, holders, all_hold, voted_descriptor, flags_of}
use Rattle.flag_vote.specs.Words.{asks, held_by, all_hold_it, most_hold, most_held, flags_on}

-- ---- one member more

keep_one : (b : Bool) (p : Proc) (rest : List Proc) → cond b (p ∷ rest) rest ≡ cond b (p ∷ []) [] ++ rest
keep_one true p rest = refl
keep_one false p rest = refl

-- the same of those that pass a test
pub filter_more : (test : Proc → Bool) (i : ℕ) (ms : List Proc) (d : Proc) → i < length ms
    → filter test (drop i ms) ≡ cond (test (get_or ms i d)) (get_or ms i d ∷ []) [] ++ filter test (drop (i + 1) ms)
filter_more test i ms d l =
    ap (filter test) (drop_more ms i d l) ∙ keep_one (test (get_or ms i d)) (get_or ms i d) (filter test (drop (i + 1) ms))

-- what is gathered, and what the rest adds, stays the same
pub gathered : (row new kept left all rest : List Proc) → row ++ left ≡ all → left ≡ kept ++ rest → new ≡ row ++ kept → new ++ rest ≡ all
gathered row new kept left all rest before more is =
    ap (λ l. l ++ rest) is ∙ append_assoc row kept rest ∙ ap (λ l. row ++ l) (sym more) ∙ before

-- how many of them pass a test
pub count_more : (test : Proc → Bool) (i : ℕ) (ms : List Proc) (d : Proc) → i < length ms
    → count_by test (drop i ms) ≡ cond (test (get_or ms i d)) 1 0 + count_by test (drop (i + 1) ms)
count_more test i ms d l = ap (count_by test) (drop_more ms i d l) ∙ count_by-cons test (get_or ms i d) (drop (i + 1) ms)

pub one_at_most : (b : Bool) (before after i : ℕ) → after ≡ before + cond b 1 0 → before ≤ i → after ≤ i + 1
one_at_most true before after i e l = omega arith
one_at_most false before after i e l = omega arith

-- none is left at the end
pub none_left : (test : Proc → Bool) (i : ℕ) (ms : List Proc) → length ms ≤ i → count_by test (drop i ms) ≡ 0
none_left test i ms l = ap (count_by test) (drop_all i ms l)

one_kept : (b : Bool) (p : Proc) → elements_of (cond b (p ∷ []) []) ≡ cond b (p.ne ∷ []) []
one_kept true p = refl
one_kept false p = refl

-- the elements of those in front that pass a test, and of the one behind them
pub elements_more : (test : Proc → Bool) (i : ℕ) (ms : List Proc) (d : Proc) → i < length ms
    → elements_of (filter test (take (i + 1) ms)) ≡ elements_of (filter test (take i ms)) ++ cond (test (get_or ms i d)) ((get_or ms i d).ne ∷ []) []
elements_more test i ms d l =
    ap (λ xs. elements_of (filter test xs)) (take_more ms i d l)
    ∙ ap elements_of (filter-append test (take i ms) (get_or ms i d ∷ []))
    ∙ map-append (λ (p : Proc). p.ne) (filter test (take i ms)) (filter test (get_or ms i d ∷ []))
    ∙ ap (λ xs. elements_of (filter test (take i ms)) ++ xs) (one_kept (test (get_or ms i d)) (get_or ms i d))

-- where not more than half have a request, no request is held by more than half
no_most : (pattern : Pattern) (live : List Proc) (desc : Descriptor) → most (asks pattern) live ≡ false → most_hold pattern live desc ≡ false
no_most pattern live desc few =
    let le = count_le (holds pattern desc) (asks pattern) live (λ p h. (and_parts _ _ h).0) in
    let n = ltb-false _ _ few in
    le-ltb _ _ (omega arith)

pub none_without_most : (pattern : Pattern) (live : List Proc) → most (asks pattern) live ≡ false → most_held pattern live ≡ None
none_without_most pattern live few = none_found (map (descriptor_of pattern) live) where
  none_found : (descs : List Descriptor) → find (most_hold pattern live) descs ≡ None
  none_found [] = refl
  none_found (d ∷ descs) = ap (λ (b : Bool). cond b (Some d) (find (most_hold pattern live) descs)) (no_most pattern live d few) ∙ none_found descs

-- ---- one element more

either_way : (i k : ℕ) → (i == k) ≡ ((k == i) || false)
either_way i k = grind (arith, nat_tests)

not_this : (b : Bool) (i k : ℕ) → i < 8 → 8 ≤ k → b ≡ (b || ((k == i) || false))
not_this true i k l h = refl
not_this false i k l h = grind (arith, nat_tests)

pub set_more : (xs : List ℕ) (k : ℕ) → with_number (set_of xs) k ≡ set_of (xs ++ k ∷ [])
set_more xs k =
    set_where-same (λ j. has (set_of xs) j || j == k) (is_in (xs ++ k ∷ [])) (λ i l.
    (λ t. has-set_where (is_in xs) i l t || either_way i k t) ∙ sym (list_any-append (λ y. y == i) xs (k ∷ [])))

-- a number that no set has
pub set_same : (xs : List ℕ) (k : ℕ) → 8 ≤ k → set_of xs ≡ set_of (xs ++ k ∷ [])
set_same xs k h =
    set_where-same (is_in xs) (is_in (xs ++ k ∷ [])) (λ i l.
    not_this (is_in xs i) i k l h ∙ sym (list_any-append (λ y. y == i) xs (k ∷ [])))

-- a bit that is set where a number belongs there
pub set_more_if : (b : Bool) (s : Set8) (k n : ℕ) (xs : List ℕ) → s.bits < 2 ^ 8 → k < 8 → n ≡ cond b 1 0 → s ≡ set_of xs
    → (let set : Set8 = record { bits = bit_or s.bits (n * 2 ^ k % 256) } in set) ≡ set_of (xs ++ cond b (k ∷ []) [])
set_more_if true s k n xs small l one is =
    ap (λ m. let set : Set8 = record { bits = bit_or s.bits (m * 2 ^ k % 256) } in set) one
    ∙ with_bit s k small l
    ∙ ap (λ t. with_number t k) is
    ∙ set_more xs k
set_more_if false s k n xs small l zero is =
    let nothing : n * 2 ^ k % 256 ≡ 0 = ap (λ m. m * 2 ^ k % 256) zero ∙ omega arith in
    ap (λ m. let set : Set8 = record { bits = m } in set) (ap (bit_or s.bits) nothing ∙ or_zero_r s.bits)
    ∙ is
    ∙ ap set_of (sym (append-nil xs))

pub set_same_if : (b : Bool) (xs : List ℕ) (k : ℕ) → 8 ≤ k → set_of xs ≡ set_of (xs ++ cond b (k ∷ []) [])
set_same_if true xs k h = set_same xs k h
set_same_if false xs k h = ap set_of (sym (append-nil xs))

-- no element is in no set
pub set_none : (s : Set8) → s.bits ≡ 0 → s ≡ set_of []
unfolding byte_where
set_none s e = ap (λ b. let set : Set8 = record { bits = b } in set) e

-- ---- a request that most hold, looked for from a place on

module _ (pattern : Pattern) (live ms : List Proc) (i : ℕ) (d : Proc) (desc : Descriptor) (b : Bool) (here : i < length ms) (shows : desc ≡ descriptor_of pattern (get_or ms i d)) (is : b ≡ most_hold pattern live desc) where
  abbrev later : Option Descriptor
  later = find (most_hold pattern live) (map (descriptor_of pattern) (drop (i + 1) ms))

  one_more : find (most_hold pattern live) (map (descriptor_of pattern) (drop i ms)) ≡ cond b (Some desc) later
  one_more =
      ap (λ xs. find (most_hold pattern live) (map (descriptor_of pattern) xs)) (drop_more ms i d here)
      ∙ ap (λ x. cond (most_hold pattern live x) (Some x) later) (sym shows)
      ∙ ap (λ c. cond c (Some desc) later) (sym is)

  -- it is the one shown there
  pub held_here : b ≡ true → find (most_hold pattern live) (map (descriptor_of pattern) (drop i ms)) ≡ Some desc
  held_here e = one_more ∙ ap (λ c. cond c (Some desc) later) e

  -- or one that is shown later
  pub held_later : b ≡ false → find (most_hold pattern live) (map (descriptor_of pattern) (drop i ms)) ≡ find (most_hold pattern live) (map (descriptor_of pattern) (drop (i + 1) ms))
  held_later e = one_more ∙ ap (λ c. cond c (Some desc) later) e

-- ---- the flags of a group are those of its live members

pub flags_on_live : (pattern : Pattern) (g : Group) → flags_on pattern g.vid (live_members g) ≡ flags_of pattern g
unfolding flags_of voted_descriptor
flags_on_live pattern g = λ t. record {
  vid = g.vid;
  desc = most_held pattern (live_members g);
  unanimous = same_all (most_held pattern (live_members g)) t;
  live = set_of (elements_of (live_members g));
  holds = set_of (elements_of (same_holders (most_held pattern (live_members g)) t));
  space = set_of (elements_of (filter (has_space pattern) (live_members g)));
  most_space = most (has_space pattern) (live_members g);
} where
  same_all : (d : Option Descriptor) → all_hold_it pattern (live_members g) d ≡ all_hold pattern g d
  same_all None = refl
  same_all (Some desc) = refl

  same_holders : (d : Option Descriptor) → held_by pattern (live_members g) d ≡ holders pattern g d
  same_holders None = refl
  same_holders (Some desc) = refl
