use Rattle.std.proofs.Common.{◌≡◌, ◌++◌, take, drop}
use Rattle.table_update.specs.Updates.{with_formed}
use Rattle.table_update.proofs.changes.place_of.Given as goal

abbrev pub invariant-loop-i : goal.invariant-loop-i
invariant-loop-i l = with_formed l.new l.groups ≡ take l.i l.groups ++ with_formed l.new (drop l.i l.groups)
