-- What a value is read as: numbers, processors, lists.
use Rattle.std.specs.Prelude.{ℕ, ◌-◌, ◌+◌, ℤ, pos, negsuc, Bool, ◌&&◌, ◌||◌, ◌==◌, nat_le, List, [], ◌∷◌, ◌++◌, Option, Some, None, option_map, option_and_then, if◌then◌else◌}
use Rattle.toml.specs.Data.{Data, as_integer, as_str, as_array, Items, no_items, item}
use Rattle.arrayvec.specs.ArrayVec.{ArrayVec}
use Rattle.ftpp_base.specs.declared.element.Proc.{Proc}
use Rattle.ftpp_base.specs.declared.sets.Set8.{Set8}
use Rattle.ftpp_base.specs.Sets.{with_number}

-- the number up to a limit
abbrev pub up_to : ℕ → ℤ → Option ℕ
up_to top (pos n) = if nat_le n top then Some n else None
up_to top (negsuc n) = None

unfoldable pub number_of : ℕ → Data → Option ℕ
number_of top d = option_and_then (up_to top) (as_integer d)

-- 1 or 2
unfoldable pub version_of : Data → Option ℕ
version_of d = option_and_then (λ v. if v == 1 || v == 2 then Some v else None) (number_of 255 d)

abbrev pub is_digit : ℕ → Bool
is_digit b = nat_le 48 b && nat_le b 57

-- one digit, a dot, one digit
abbrev pub proc_from : List ℕ → Option Proc
proc_from (e ∷ dot ∷ p ∷ []) = if is_digit e && dot == 46 && is_digit p then Some (record { ne = e - 48; port = p - 48 }) else None
proc_from _ = None

unfoldable pub proc_of : Data → Option Proc
proc_of d = option_and_then proc_from (as_str d)

abbrev pub item_count : Items → ℕ
item_count no_items = 0
item_count (item d ds) = 1 + item_count ds

-- the processors of some strings, after those found
abbrev pub procs_from : List Proc → Items → Option (List Proc)
procs_from found no_items = Some found
procs_from found (item d ds) = option_and_then (λ p. procs_from (found ++ p ∷ []) ds) (proc_of d)

-- at most four processors
unfoldable pub few_procs : Items → Option (List Proc)
few_procs ds = if nat_le (item_count ds) 4 then procs_from [] ds else None

abbrev pub row_of : List Proc → ArrayVec Proc
row_of procs = record { items = procs }

unfoldable pub procs_of : Data → Option (ArrayVec Proc)
procs_of d = option_map row_of (option_and_then few_procs (as_array d))

-- the set of some numbers below 8, with those found
abbrev pub set_from : Set8 → Items → Option Set8
set_from found no_items = Some found
set_from found (item d ds) = option_and_then (λ i. set_from (with_number found i) ds) (number_of 7 d)

unfoldable pub set_of : Data → Option Set8
set_of d = option_and_then (set_from (record { bits = 0 })) (as_array d)
