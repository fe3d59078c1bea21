-- Numbers as bytes and back, in this crate's words and in those of `byteorder`.
use Rattle.std.proofs.Common.{◌≡◌, ℕ, List, [], ◌∷◌, length, sym, ◌∙◌, ap, arith}
use Rattle.std.proofs.lemmas.Nat.{be_bytes_2, be_bytes_4}
use Rattle.byteorder.specs.Endian.{big_bytes, big_number}
use Rattle.packet_format.specs.Numbers.{AreBytes, two_bytes, four_bytes, number_from}

pub big_bytes-two : (n : ℕ) → big_bytes 2 n ≡ two_bytes n
big_bytes-two n = grind arith

pub big_bytes-four : (n : ℕ) → big_bytes 4 n ≡ four_bytes n
big_bytes-four n = grind arith

pub big_number-two : (bytes : List ℕ) → length bytes ≡ 2 → big_number 2 bytes ≡ number_from bytes
big_number-two (a ∷ b ∷ []) long = omega arith
big_number-two [] long = let no_such : ⊥ = omega arith in absurd no_such
big_number-two (a ∷ []) long = let no_such : ⊥ = omega arith in absurd no_such
big_number-two (a ∷ b ∷ c ∷ rest) long = let no_such : ⊥ = omega arith in absurd no_such

pub big_number-four : (bytes : List ℕ) → length bytes ≡ 4 → big_number 4 bytes ≡ number_from bytes
big_number-four (a ∷ b ∷ c ∷ d ∷ []) long = omega arith
big_number-four [] long = let no_such : ⊥ = omega arith in absurd no_such
big_number-four (a ∷ []) long = let no_such : ⊥ = omega arith in absurd no_such
big_number-four (a ∷ b ∷ []) long = let no_such : ⊥ = omega arith in absurd no_such
big_number-four (a ∷ b ∷ c ∷ []) long = let no_such : ⊥ = omega arith in absurd no_such
big_number-four (a ∷ b ∷ c ∷ d ∷ e ∷ rest) long = let no_such : ⊥ = omega arith in absurd no_such

pub big_bytes-big_number_4 : (bytes : List ℕ) → length bytes ≡ 4 → AreBytes bytes → big_bytes 4 (big_number 4 bytes) ≡ bytes
big_bytes-big_number_4 bytes long are = be_bytes_4 bytes (big_number 4 bytes) long are (omega arith)

pub big_bytes-big_number_2 : (bytes : List ℕ) → length bytes ≡ 2 → AreBytes bytes → big_bytes 2 (big_number 2 bytes) ≡ bytes
big_bytes-big_number_2 bytes long are = be_bytes_2 bytes (big_number 2 bytes) long are (omega arith)

pub two_back : (bytes : List ℕ) → length bytes ≡ 2 → AreBytes bytes → two_bytes (number_from bytes) ≡ bytes
two_back bytes long are = ap two_bytes (sym (big_number-two bytes long)) ∙ sym (big_bytes-two (big_number 2 bytes)) ∙ big_bytes-big_number_2 bytes long are

pub four_back : (bytes : List ℕ) → length bytes ≡ 4 → AreBytes bytes → four_bytes (number_from bytes) ≡ bytes
four_back bytes long are = ap four_bytes (sym (big_number-four bytes long)) ∙ sym (big_bytes-four (big_number 4 bytes)) ∙ big_bytes-big_number_4 bytes long are
