-- Words as numbers.
use Rattle.std.specs.Prelude.{ℕ, ◌-◌, Bool, ◌&&◌, nat_le, List, [], ◌∷◌, length, Option, Some, None, if◌then◌else◌}
use Rattle.std.specs.List.{list_all}
use Rattle.std.specs.Char.{is_ascii_digit}
use Rattle.std.specs.Str.Parse.{digits_value}

-- whether all bytes are decimal digits
abbrev pub are_digits : List ℕ → Bool
are_digits word = list_all is_ascii_digit word

-- whether the word is a number: 1 to 20 decimal digits
abbrev pub is_number : List ℕ → Bool
is_number word = nat_le 1 (length word) && nat_le (length word) 20 && are_digits word

abbrev pub within : ℕ → ℕ → ℕ → Option ℕ
within low high n = if nat_le low n && nat_le n high then Some n else None

-- a number from low to high
unfoldable pub number_within : ℕ → ℕ → List ℕ → Option ℕ
number_within low high word = if is_number word then within low high (digits_value 10 word) else None

-- an element's number: one digit from 0 to 4
unfoldable pub element_of : List ℕ → Option ℕ
element_of (digit ∷ []) = if nat_le 48 digit && nat_le digit 52 then Some (digit - 48) else None
element_of _ = None
