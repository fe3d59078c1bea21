-- One number more in a set of numbers below 8.
use Rattle.std.proofs.Common.{◌≡◌, ℕ, ◌*◌, ◌%◌, ◌^◌, ◌<◌, Bool, true, false, refl, ap, sym, ◌∙◌, bit_or, w8, arith}
use Rattle.std.specs.Prelude.{◌||◌, ◌==◌}
use Rattle.std.proofs.lemmas.Bool.{eqb-true, eq-eqb}
use Rattle.std.proofs.lemmas.Nat.{or_lt}
use Rattle.std.proofs.lemmas.Nat.Bits.{bit_at_set_same, bit_at_set_other}
use Rattle.ftpp_base.specs.Bits.{bit}
use Rattle.ftpp_base.specs.declared.sets.Set8.{Set8}
use Rattle.ftpp_base.specs.Sets.{has, with_number}
use Rattle.ftpp_base.proofs.SetLaws.{byte_where-same}

or_true : (b : Bool) → (b || true) ≡ true
or_true true = refl
or_true false = refl

or_false : (b : Bool) → (b || false) ≡ b
or_false true = refl
or_false false = refl

bit_more : (n k i : ℕ) (b : Bool) → k < 8 → (i == k) ≡ b → (bit n i || b) ≡ bit (bit_or n (1 * 2 ^ k % 256)) i
bit_more n k i true l e = or_true (bit n i) ∙ sym (ap (λ j. bit (bit_or n (1 * 2 ^ k % 256)) j) (eqb-true i k e) ∙ ap (λ m. m == 1) (bit_at_set_same w8 n k l))
bit_more n k i false l e =
    or_false (bit n i) ∙ sym (ap (λ m. m == 1) (bit_at_set_other w8 n k l i (λ s. let never : false ≡ true = sym e ∙ eq-eqb i k s in cc)))

-- the set whose byte has the number's bit set, too
pub with_bit : (s : Set8) (k : ℕ) → s.bits < 2 ^ 8 → k < 8 → (let set : Set8 = record { bits = bit_or s.bits (1 * 2 ^ k % 256) } in set) ≡ with_number s k
with_bit s k small l =
    let one : 1 * 2 ^ k % 256 < 2 ^ 8 = omega arith in
    let byte = sym (byte_where-same (λ j. has s j || j == k) _ (or_lt 8 s.bits (1 * 2 ^ k % 256) small one) (λ i h. bit_more s.bits k i (i == k) l refl)) in
    ap (λ b. let set : Set8 = record { bits = b } in set) byte
