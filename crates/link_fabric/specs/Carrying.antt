-- What a fabric tells.
use Rattle.std.specs.Prelude.{◌≡◌, List, [], ◌∷◌, ◌++◌, Option, Some, None}
use Rattle.link_fabric.specs.declared.fabrics.Carried.{Carried}

-- where the list is told after a call, it was told before, and the call added this entry at its end
abbrev pub AddsTold : Option (List Carried) → Carried → Option (List Carried) → Type 0
AddsTold before entry None = Unit {0}
AddsTold None entry (Some after) = ⊥
AddsTold (Some before) entry (Some after) = after ≡ before ++ entry ∷ []
