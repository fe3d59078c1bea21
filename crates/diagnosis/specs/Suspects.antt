-- Who can be the faulty element, by what an element noted.
use Rattle.std.specs.Prelude.{ℕ, Bool, not, ◌||◌, ◌==◌, List, [], ◌∷◌, filter, Option, Some, None}
use Rattle.std.specs.List.{list_all}
use Rattle.ftpp_base.specs.Lists.{others}
use Rattle.syndrome_log.specs.declared.Syndrome.{Syndrome}
use Rattle.element_core.specs.Claims.{is_of_copies}

-- whether an entry names an element, as its accused or as its other
abbrev pub is_named_in : Syndrome → ℕ → Bool
is_named_in s ne = ne == s.accused || ne == s.other

-- whether an entry leaves an element among the suspects: it is not of copies, or it names the element
abbrev pub is_left_by : Syndrome → ℕ → Bool
is_left_by s ne = not (is_of_copies s.kind) || is_named_in s ne

-- whether every entry does
abbrev pub is_suspect : List Syndrome → ℕ → Bool
is_suspect noted ne = list_all (λ s. is_left_by s ne) noted

-- The suspects of an element among n that noted these entries: the others that are named in every entry of copies.
abbrev pub suspects_of : ℕ → ℕ → List Syndrome → List ℕ
suspects_of n me noted = filter (is_suspect noted) (others n me)

-- the only number of a list, if there is exactly one
abbrev pub only_one : List ℕ → Option ℕ
only_one [] = None
only_one (ne ∷ []) = Some ne
only_one (ne ∷ next ∷ more) = None
