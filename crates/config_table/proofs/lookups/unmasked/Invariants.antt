use Rattle.std.proofs.Common.{◌≡◌, ◌+◌, ◌≤◌, drop, not, length}
use Rattle.std.specs.Prelude.{filter}
use Rattle.std.specs.List.{enumerate_from}
use Rattle.ftpp_base.specs.Sets.{has}
use Rattle.config_table.proofs.lookups.unmasked.Given as goal

abbrev pub invariant-loop-i : goal.invariant-loop-i
invariant-loop-i l = (l.count ≤ l.i) × (l.count + length (filter (λ seat. not (has l.masked seat.0)) (enumerate_from l.i (drop l.i l.members))) ≡ length (filter (λ seat. not (has l.masked seat.0)) (enumerate_from 0 l.members)))
