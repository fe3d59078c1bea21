-- Sets of numbers below 8, and the eight ports of each element.
use Rattle.std.specs.Prelude.{ℕ, Bool, not, ◌&&◌, ◌||◌, ◌==◌, List}
use Rattle.ftpp_base.specs.declared.sets.Set8.{Set8}
use Rattle.ftpp_base.specs.Bits.{bit, byte_where}
use Rattle.ftpp_base.specs.Lists.{is_in}

-- whether the set has the number
abbrev pub has : Set8 → ℕ → Bool
has s i = bit s.bits i

-- the set of the numbers that pass the test
abbrev pub set_where : (ℕ → Bool) → Set8
set_where p = record { bits = byte_where p }

-- the set of the numbers in a list
abbrev pub set_of : List ℕ → Set8
set_of xs = set_where (is_in xs)

-- the set with one number more, and with one less
abbrev pub with_number : Set8 → ℕ → Set8
with_number s i = set_where (λ j. has s j || j == i)

abbrev pub without_number : Set8 → ℕ → Set8
without_number s i = set_where (λ j. has s j && not (j == i))
