use Rattle.local_pattern.proofs.Columns.{HasRead}
use Rattle.local_pattern.proofs.local.read_row.Given as goal

abbrev pub invariant-loop-port : goal.invariant-loop-port
invariant-loop-port l = HasRead l.row l.port l.entries
