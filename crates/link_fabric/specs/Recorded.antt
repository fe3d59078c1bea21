-- What a recorder tells.
use Rattle.std.specs.Prelude.{ℕ, List, [], ◌∷◌, ◌++◌, length, nat_lt, Option, Some, None, if◌then◌else◌}
use Rattle.link_fabric.specs.declared.fabrics.Carried.{Carried}
use Rattle.link_fabric.specs.declared.fabrics.Recorder.{Recorder}

-- the list, until more was carried than there is room for
abbrev pub told_of : Recorder → Option (List Carried)
told_of r = if r.over then None else Some r.kept.items

-- how many frames it has room for
abbrev pub room_of : Recorder → ℕ
room_of r = r.frames

-- the list with one frame more, as long as there is room
abbrev pub recorded : ℕ → Option (List Carried) → Carried → Option (List Carried)
recorded room None entry = None
recorded room (Some frames) entry = if nat_lt (length frames) room then Some (frames ++ entry ∷ []) else None
