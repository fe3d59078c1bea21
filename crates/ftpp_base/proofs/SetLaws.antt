-- A byte is the number that its bits make; what is in a set that a test makes, and when two sets are one.
use Rattle.std.proofs.Common.{◌≡◌, ℕ, suc, zero, ◌+◌, ◌*◌, ◌/◌, ◌%◌, ◌^◌, ◌<◌, Bool, true, false, cond, List, [], ◌∷◌, refl, ap, arith, map, sym, ◌∙◌, get_or}
use Rattle.std.specs.Prelude.{nat_eq}
use Rattle.std.proofs.lemmas.Nat.Bits.{bit_at-suc, bit_at_lowest, bit_at-zero}
use Rattle.ftpp_base.specs.Bits.{bit, byte_where, number_of, eight}
use Rattle.ftpp_base.specs.declared.sets.Set8.{Set8}
use Rattle.ftpp_base.specs.Sets.{has, set_where}

low_bit : (b : Bool) (n : ℕ) → nat_eq ((cond b 1 0 + 2 * n) % 2) 1 ≡ b
low_bit true n = let e : (1 + 2 * n) % 2 ≡ 1 = omega arith in ap (λ m. nat_eq m 1) e
low_bit false n = let e : (0 + 2 * n) % 2 ≡ 0 = omega arith in ap (λ m. nat_eq m 1) e

high_bits : (b : Bool) (n : ℕ) → (cond b 1 0 + 2 * n) / 2 ≡ n
high_bits true n = omega arith
high_bits false n = omega arith

-- the bits of a number that is made of bits
pub bit-number_of : (bs : List Bool) (i : ℕ) → bit (number_of bs) i ≡ get_or bs i false
bit-number_of [] i = ap (λ m. nat_eq m 1) (bit_at-zero i)
bit-number_of (b ∷ bs) zero = ap (λ m. nat_eq m 1) (bit_at_lowest (number_of (b ∷ bs))) ∙ low_bit b (number_of bs)
bit-number_of (b ∷ bs) (suc i) =
    ap (λ m. nat_eq m 1) (bit_at-suc (number_of (b ∷ bs)) i) ∙ ap (λ m. bit m i) (high_bits b (number_of bs)) ∙ bit-number_of bs i

-- a number below 8 is in the set where it passes the test
pub has-set_where : (p : ℕ → Bool) (i : ℕ) → i < 8 → has (set_where p) i ≡ p i
unfolding byte_where
has-set_where p i l = bit-number_of (map p eight) i ∙ at i l where
  at : (j : ℕ) → j < 8 → get_or (map p eight) j false ≡ p j
  at zero h = refl
  at (suc zero) h = refl
  at (suc (suc zero)) h = refl
  at (suc (suc (suc zero))) h = refl
  at (suc (suc (suc (suc zero)))) h = refl
  at (suc (suc (suc (suc (suc zero))))) h = refl
  at (suc (suc (suc (suc (suc (suc zero)))))) h = refl
  at (suc (suc (suc (suc (suc (suc (suc zero))))))) h = refl
  at (suc (suc (suc (suc (suc (suc (suc (suc j)))))))) h = let no : ⊥ = omega arith in absurd no

bit_value : (m : ℕ) → m < 2 → cond (nat_eq m 1) 1 0 ≡ m
bit_value zero l = refl
bit_value (suc zero) l = refl
bit_value (suc (suc m)) l = omega arith

pub byte_where-bit : (b : ℕ) → b < 256 → byte_where (bit b) ≡ b
unfolding byte_where
byte_where-bit b l =
    let e0 = bit_value (b / 2 ^ 0 % 2) (omega arith) in
    let e1 = bit_value (b / 2 ^ 1 % 2) (omega arith) in
    let e2 = bit_value (b / 2 ^ 2 % 2) (omega arith) in
    let e3 = bit_value (b / 2 ^ 3 % 2) (omega arith) in
    let e4 = bit_value (b / 2 ^ 4 % 2) (omega arith) in
    let e5 = bit_value (b / 2 ^ 5 % 2) (omega arith) in
    let e6 = bit_value (b / 2 ^ 6 % 2) (omega arith) in
    let e7 = bit_value (b / 2 ^ 7 % 2) (omega arith) in
    omega arith

-- a test that gives the bits of a byte makes that byte
pub byte_where-same : (p : ℕ → Bool) (b : ℕ) → b < 256 → ((i : ℕ) → i < 8 → p i ≡ bit b i) → byte_where p ≡ b
unfolding byte_where
byte_where-same p b l h =
    (λ t. number_of (h 0 (omega arith) t ∷ h 1 (omega arith) t ∷ h 2 (omega arith) t ∷ h 3 (omega arith) t ∷ h 4 (omega arith) t ∷ h 5 (omega arith) t ∷ h 6 (omega arith) t ∷ h 7 (omega arith) t ∷ []))
    ∙ byte_where-bit b l

-- two tests that agree below 8 make one set
pub set_where-same : (p q : ℕ → Bool) → ((i : ℕ) → i < 8 → p i ≡ q i) → set_where p ≡ set_where q
unfolding byte_where
set_where-same p q h = λ t. record {
  bits =
      number_of (h 0 (omega arith) t ∷ h 1 (omega arith) t ∷ h 2 (omega arith) t ∷ h 3 (omega arith) t ∷ h 4 (omega arith) t ∷ h 5 (omega arith) t ∷ h 6 (omega arith) t ∷ h 7 (omega arith) t ∷ []);
}

-- two sets of bytes with the same numbers are one
pub same_set : (s t : Set8) → s.bits < 256 → t.bits < 256 → ((i : ℕ) → i < 8 → has s i ≡ has t i) → s ≡ t
same_set s t a c h =
    ap (λ b. let set : Set8 = record { bits = b } in set) (sym (byte_where-same (has s) s.bits a (λ i l. refl)) ∙ byte_where-same (has s) t.bits c h)
