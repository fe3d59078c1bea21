use Rattle.std.proofs.Common.{◌≡◌, drop}
use Rattle.config_table.specs.Groups.{index_from}
use Rattle.config_table.proofs.lookups.index_of.Given as goal

abbrev pub invariant-loop-i : goal.invariant-loop-i
invariant-loop-i l = index_from l.proc l.i (drop l.i l.members) ≡ index_from l.proc 0 l.members
