-- Three bits that count the rows at each bit, and say at the end what most of them have.
use Rattle.std.proofs.Common.{◌≡◌, ℕ, ◌+◌, ◌*◌, ◌/◌, ◌%◌, ◌<◌, ◌≤◌, Bool, true, false, cond, min, max, sym, ◌∙◌, ap, arith, refl, bit_and, bit_or, bit_xor}
use Rattle.std.specs.Int.{bit_at}
use Rattle.std.specs.Prelude.{List, length, nat_lt, nat_eq, slice_index}
use Rattle.std.proofs.lemmas.Nat.Bits.{bit_at-lt, bit_at_and, bit_at_or, bit_at_xor}
use Rattle.std.proofs.lemmas.Bool.Decides.{nat_tests}
use Rattle.std.proofs.lemmas.List.{length-map}
use Rattle.ftpp_base.specs.Bits.{bit, most}
use Rattle.ftpp_base.proofs.SetLaws.{byte_where-same}
use Rattle.bit_vote.specs.Vote.{column, byte_vote}
use Rattle.bit_vote.proofs.Counts.{ones_at, ones_at-count, ones_le}

counted : (a b c x : ℕ) → a < 2 → b < 2 → c < 2 → x < 2 → a + 2 * b + 4 * c + x ≤ 7
    → (a + x) % 2 + 2 * ((b + min a x) % 2) + 4 * max c (min b (min a x)) ≡ a + 2 * b + 4 * c + x
counted a b c x ha hb hc hx h = omega arith

-- one more byte is counted
pub counted_more : (a b c x i : ℕ)
    → bit_at a i + 2 * bit_at b i + 4 * bit_at c i + bit_at x i ≤ 7
    → bit_at (bit_xor a x) i + 2 * bit_at (bit_xor b (bit_and a x)) i + 4 * bit_at (bit_or c (bit_and b (bit_and a x))) i ≡ bit_at a i + 2 * bit_at b i + 4 * bit_at c i + bit_at x i
counted_more a b c x i h =
    rw (bit_at_xor a x i, bit_at_xor b (bit_and a x) i, bit_at_or c (bit_and b (bit_and a x)) i, bit_at_and b (bit_and a x) i, bit_at_and a x i)
    (counted (bit_at a i) (bit_at b i) (bit_at c i) (bit_at x i) (bit_at-lt a i) (bit_at-lt b i) (bit_at-lt c i) (bit_at-lt x i) h)

-- the fours of a count that began at 3 less half of the rows say whether most rows have 1
fours : (a b c ones count : ℕ) → a < 2 → b < 2 → c < 2 → ones ≤ count → count ≤ 5 → 0 < count
    → a + 2 * b + 4 * c + count / 2 ≡ 3 + ones → c ≡ cond (nat_lt count (2 * ones)) 1 0
fours a b c ones count ha hb hc most few some e = grind (arith, nat_tests)

bit_of : (b : Bool) → nat_eq (cond b 1 0) 1 ≡ b
bit_of true = refl
bit_of false = refl

pub fours-voted : (rows : List (List ℕ)) (byte i a b c : ℕ) → length rows ≤ 5 → 0 < length rows
    → bit_at a i + 2 * bit_at b i + 4 * bit_at c i + length rows / 2 ≡ 3 + ones_at rows byte i
    → most (λ x. bit x i) (column rows byte) ≡ bit c i
fours-voted rows byte i a b c few some e =
    let long : length (column rows byte) ≡ length rows = length-map rows (λ row. slice_index row byte) in
    let is : bit_at c i ≡ cond (nat_lt (length rows) (2 * ones_at rows byte i)) 1 0 =
    fours (bit_at a i) (bit_at b i) (bit_at c i) (ones_at rows byte i) (length rows)
    (bit_at-lt a i) (bit_at-lt b i) (bit_at-lt c i) (ones_le rows byte i) few some e in
    (λ t. nat_lt (long t) (2 * sym (ones_at-count rows byte i) t)) ∙ sym (ap (λ n. nat_eq n 1) is ∙ bit_of _)

-- a byte is the voted byte where its bits are the voted bits
pub byte_vote-bits : (rows : List (List ℕ)) (byte n : ℕ) → n < 256 → ((i : ℕ) → i < 8 → most (λ x. bit x i) (column rows byte) ≡ bit n i) → n ≡ byte_vote (column rows byte)
byte_vote-bits rows byte n small same = sym (byte_where-same (λ i. most (λ x. bit x i) (column rows byte)) n small same)
