use Rattle.table_update.proofs.Removing as removing
use Rattle.table_update.proofs.changes.without_bit.Goals as goal

pub returns : goal.returns
returns c = removing.without_bit (record { bits = c.args.bits }) c.args.i c.ranges.bits.fits c.requires
