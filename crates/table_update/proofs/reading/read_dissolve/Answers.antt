use Rattle.table_update.proofs.Spelled.{dissolve_spelled, is_update}
use Rattle.table_update.proofs.reading.read_dissolve.Goals as goal

pub returns : goal.returns
returns c = is_update c.args.bytes.now _ _ c.if-not-is_zero_from.false (dissolve_spelled c.args.bytes.now _ c.told-bytes c.requires c.is_zero_from.ensures)
