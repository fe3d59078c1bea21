-- Sets of group numbers, seen as one test for each number.
use Rattle.std.specs.Prelude.{ℕ, Bool, false, List, slice_index_or}

-- whether the set has the number
abbrev pub has_vid : List Bool → ℕ → Bool
has_vid tests vid = slice_index_or tests vid false
