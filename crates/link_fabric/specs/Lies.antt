-- When a liar delivers no bytes.
use Rattle.std.specs.Prelude.{ℕ, List}
use Rattle.link_fabric.specs.declared.fabrics.Liar.{Liar}

-- the calls at which it delivers none, counted from 1
abbrev pub failing_of : Liar → List ℕ
failing_of l = l.failing.items

-- the calls so far; the count stays at the greatest number that it can be
abbrev pub calls_of : Liar → ℕ
calls_of l = l.calls
