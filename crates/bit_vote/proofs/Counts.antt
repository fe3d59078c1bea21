-- Counts over optional rows, and over what is left of them.
use Rattle.std.proofs.Common.{◌≡◌, ℕ, zero, suc, ◌+◌, ◌<◌, ◌≤◌, List, [], ◌∷◌, Some, None, cond, length, get_or, drop, refl, ◌∙◌, ap, add-one, arith, drop-cons}
use Rattle.std.specs.Int.{bit_at}
use Rattle.std.specs.Prelude.{slice_index, count_by, nat_eq}
use Rattle.std.proofs.lemmas.Bool.Decides.{nat_tests}
use Rattle.std.proofs.lemmas.Nat.Bits.{bit_at-lt}
use Rattle.ftpp_base.specs.Bits.{bit}
use Rattle.ftpp_base.proofs.Counts.{count_by-cons}
use Rattle.bit_vote.specs.Vote.{Cell, present, width, column}

-- how many of the rows have 1 at a bit of a byte
abbrev pub ones_at : List (List ℕ) → ℕ → ℕ → ℕ
ones_at [] byte i = 0
ones_at (row ∷ rows) byte i = bit_at (slice_index row byte) i + ones_at rows byte i

bit_value : (m : ℕ) → m < 2 → cond (nat_eq m 1) 1 0 ≡ m
bit_value m small = grind (arith, nat_tests)

pub ones_at-count : (rows : List (List ℕ)) (byte i : ℕ) → ones_at rows byte i ≡ count_by (λ b. bit b i) (column rows byte)
ones_at-count [] byte i = refl
ones_at-count (row ∷ rows) byte i =
    rw (count_by-cons (λ b. bit b i) (slice_index row byte) (column rows byte), bit_value (bit_at (slice_index row byte) i) (bit_at-lt (slice_index row byte) i))
    (ap (λ n. bit_at (slice_index row byte) i + n) (ones_at-count rows byte i))

pub ones_le : (rows : List (List ℕ)) (byte i : ℕ) → ones_at rows byte i ≤ length rows
ones_le [] byte i = omega arith
ones_le (row ∷ rows) byte i = omega (arith, ones_le rows byte i, bit_at-lt (slice_index row byte) i)

-- what is to come at an index is its row, and what is to come after it
ones-drop : (list : List Cell) (n : ℕ) (x y : Cell) (byte i : ℕ) → n < length list → x ≡ get_or list n x → x ≡ y
    → ones_at (present (drop n list)) byte i ≡ ones_at (present (y ∷ drop (n + 1) list)) byte i
ones-drop list n x y byte i h e is =
    ap (λ l. ones_at (present l) byte i) (drop-cons list n x h) ∙ rw (← e, is, add-one) refl

pub ones-drop_some : (list : List Cell) (n : ℕ) (x : Cell) (row : List ℕ) (byte i : ℕ) → n < length list → x ≡ get_or list n x → x ≡ Some row
    → ones_at (present (drop n list)) byte i ≡ bit_at (slice_index row byte) i + ones_at (present (drop (n + 1) list)) byte i
ones-drop_some list n x row byte i h e is = ones-drop list n x (Some row) byte i h e is

pub ones-drop_none : (list : List Cell) (n : ℕ) (x : Cell) (byte i : ℕ) → n < length list → x ≡ get_or list n x → x ≡ None
    → ones_at (present (drop n list)) byte i ≡ ones_at (present (drop (n + 1) list)) byte i
ones-drop_none list n x byte i h e is = ones-drop list n x None byte i h e is

-- nothing is to come past the end
pub drop_past : (list : List Cell) (n byte i : ℕ) → length list ≤ n → ones_at (present (drop n list)) byte i ≡ 0
drop_past [] zero byte i h = refl
drop_past [] (suc n) byte i h = refl
drop_past (x ∷ list) zero byte i h = let never : ⊥ = omega arith in absurd never
drop_past (x ∷ list) (suc n) byte i h = drop_past list n byte i (omega arith)

-- ---- widths

-- a row that is there has the width
abbrev pub IsWide : ℕ → Cell → Type 0
IsWide wide None = Unit {0}
IsWide wide (Some row) = length row ≡ wide

-- where each row of a list that has one is as wide, so is the first
pub width-present : (wide : ℕ) (list : List Cell) → ((k : ℕ) → k < length list → IsWide wide (get_or list k None)) → 0 < length (present list) → width (present list) ≡ wide
width-present wide [] h some = let never : ⊥ = omega arith in absurd never
width-present wide (None ∷ list) h some = width-present wide list (λ k l. h (suc k) (omega arith)) some
width-present wide (Some row ∷ list) h some = h 0 (omega arith)
