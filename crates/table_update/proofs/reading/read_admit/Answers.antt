use Rattle.table_update.proofs.Spelled.{admit_spelled, is_update}
use Rattle.table_update.proofs.reading.read_admit.Goals as goal

pub returns : goal.returns
returns c = is_update c.args.bytes.now _ _ c.if-not-is_zero_from.false (admit_spelled c.args.bytes.now _ c.told-bytes c.requires c.if-bytes-ge-MOST_MEMBERS.false c.is_zero_from.ensures)
