-- What a source that never fails shows.
use Rattle.std.specs.Prelude.{ℕ, List, drop}
use Rattle.ftpp_outside.specs.declared.steady.SteadySource.{SteadySource}

-- the bytes that are left
abbrev pub unread : SteadySource → List ℕ
unread s = drop s.at s.bytes.items
