-- One number less in a set of numbers below 8.
use Rattle.std.proofs.Common.{◌≡◌, ℕ, ◌*◌, ◌%◌, ◌^◌, ◌<◌, Bool, true, false, refl, ap, sym, ◌∙◌, bit_and, w8, arith}
use Rattle.std.specs.Prelude.{not, ◌&&◌, ◌==◌}
use Rattle.std.specs.Int.{bit_not}
use Rattle.std.proofs.lemmas.Bool.{eqb-true, eq-eqb}
use Rattle.std.proofs.lemmas.Nat.{and_le_l}
use Rattle.std.proofs.lemmas.Nat.Bits.{bit_at_clear_same, bit_at_clear_other}
use Rattle.ftpp_base.specs.Bits.{bit}
use Rattle.ftpp_base.specs.declared.sets.Set8.{Set8}
use Rattle.ftpp_base.specs.Sets.{has, without_number}
use Rattle.ftpp_base.proofs.SetLaws.{byte_where-same}

and_false : (b : Bool) → (b && false) ≡ false
and_false true = refl
and_false false = refl

and_true : (b : Bool) → (b && true) ≡ b
and_true true = refl
and_true false = refl

-- the bits of a byte with one bit cleared
bit_less : (n k i : ℕ) (b : Bool) → k < 8 → i < 8 → (i == k) ≡ b → (bit n i && not b) ≡ bit (bit_and n (bit_not w8 (1 * 2 ^ k % 256))) i
bit_less n k i true l small e =
    and_false (bit n i)
    ∙ sym (ap (λ j. bit (bit_and n (bit_not w8 (1 * 2 ^ k % 256))) j) (eqb-true i k e) ∙ ap (λ m. m == 1) (bit_at_clear_same w8 n k l))
bit_less n k i false l small e =
    and_true (bit n i)
    ∙ sym (ap (λ m. m == 1) (bit_at_clear_other w8 n k l i small (λ s. let never : false ≡ true = sym e ∙ eq-eqb i k s in cc)))

-- the set whose byte has the number's bit cleared
pub without_bit : (s : Set8) (k : ℕ) → s.bits < 2 ^ 8 → k < 8
    → (let set : Set8 = record { bits = bit_and s.bits (bit_not w8 (1 * 2 ^ k % 256)) } in set) ≡ without_number s k
without_bit s k small l =
    let cleared = bit_and s.bits (bit_not w8 (1 * 2 ^ k % 256)) in
    let fits : cleared < 2 ^ 8 = let less = and_le_l s.bits (bit_not w8 (1 * 2 ^ k % 256)) in omega arith in
    let byte = sym (byte_where-same (λ j. has s j && not (j == k)) cleared fits (λ i h. bit_less s.bits k i (i == k) l h refl)) in
    ap (λ b. let set : Set8 = record { bits = b } in set) byte
