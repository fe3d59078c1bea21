use Rattle.std.proofs.Common.{◌≡◌, take, map}
use Rattle.config_table.specs.Groups.{proc_at}
use Rattle.config_table.proofs.groups.procs_at.Given as goal

-- the processors so far
abbrev pub invariant-loop-ne : goal.invariant-loop-ne
invariant-loop-ne l = l.procs.items ≡ map proc_at (take l.ne-index l.seats)
