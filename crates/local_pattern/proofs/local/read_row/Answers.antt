use Rattle.local_pattern.proofs.Columns.{all_read}
use Rattle.local_pattern.proofs.local.read_row.Goals as goal

pub returns : goal.returns
returns c = all_read c.args.row.now c.loop-port.port c.loop-port.entries c.loop-port.invariant c.loop-port-test.false
