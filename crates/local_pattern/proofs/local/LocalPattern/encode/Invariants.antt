use Rattle.local_pattern.proofs.Columns.{HasWritten}
use Rattle.local_pattern.proofs.local.LocalPattern.encode.Given as goal

abbrev pub invariant-loop-port : goal.invariant-loop-port
invariant-loop-port l = HasWritten l.self-inside.entries l.port l.bytes
