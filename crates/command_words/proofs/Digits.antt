-- What std reads of a word of digits.
use Rattle.std.proofs.Common.{◌≡◌, ℕ, ◌^◌, ◌<◌, ◌≤◌, Bool, true, false, List, length, leb, refl, rules, Result, Ok, Err}
use Rattle.std.specs.Prelude.{MatchResult}
use Rattle.std.proofs.lemmas.Bool.{leb-true, leb-false}
use Rattle.std.specs.Result.{OkIff}
use Rattle.std.specs.Str.Parse.{digits_value, ParsesUnsigned}
use Rattle.std.proofs.lemmas.Str.Parse.{IsNumeralModel, numerals_by_value, parse_digits}
use Rattle.command_words.specs.Numbers.{are_digits}

own : IsNumeralModel (λ ds. are_digits ds ≡ true) (λ ds. digits_value 10 ds)
own = numerals_by_value _ (search rules)

-- the value, or one that passes 64 bits
by_result : {E : Type 0} (bs : List ℕ) (r : Result ℕ E) → 0 < length bs → OkIff r ((0 < length bs) × (digits_value 10 bs < 2 ^ 64)) (digits_value 10 bs) → MatchResult r (λ n. n ≡ digits_value 10 bs) (λ _. 2 ^ 64 ≤ digits_value 10 bs)
by_result bs (Ok n) l h = h.1
by_result bs (Err e) l h = over (digits_value 10 bs) (λ small. h (l, small)) where
  over : (n : ℕ) → (n < 2 ^ 64 → ⊥) → 2 ^ 64 ≤ n
  over n wrong = by_order (leb (2 ^ 64) n) refl where
    by_order : (b : Bool) → leb (2 ^ 64) n ≡ b → 2 ^ 64 ≤ n
    by_order true e = leb-true (2 ^ 64) n e
    by_order false e = absurd (wrong (leb-false (2 ^ 64) n e))

pub parsed : {E : Type 0} (bs : List ℕ) (r : Result ℕ E) → ParsesUnsigned 64 10 bs r → are_digits bs ≡ true → 0 < length bs → MatchResult r (λ n. n ≡ digits_value 10 bs) (λ _. 2 ^ 64 ≤ digits_value 10 bs)
parsed bs r h digits long = by_result bs r long (parse_digits own 64 bs r h digits)
