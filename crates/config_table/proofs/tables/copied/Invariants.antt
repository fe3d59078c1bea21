use Rattle.std.proofs.Common.{◌≡◌, take}
use Rattle.config_table.proofs.tables.copied.Given as goal

abbrev pub invariant-loop-g : goal.invariant-loop-g
invariant-loop-g l = l.row.items ≡ take l.g-index l.groups
