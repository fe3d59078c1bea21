use Rattle.std.proofs.Common.{◌≡◌, drop}
use Rattle.config_table.specs.Table.{seat_with}
use Rattle.config_table.proofs.lookups.seat_of.Given as goal

abbrev pub invariant-loop-g : goal.invariant-loop-g
invariant-loop-g l = seat_with (drop l.g-index l.groups) l.proc ≡ seat_with l.groups l.proc
