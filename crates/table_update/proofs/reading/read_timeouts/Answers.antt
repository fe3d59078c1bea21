use Rattle.std.proofs.Common.{◌∙◌, Some}
use Rattle.std.specs.Prelude.{slice_index}
use Rattle.table_update.specs.declared.Update.TheVariants.{Timeouts}
use Rattle.table_update.proofs.Spelled.{timeouts_spelled, timeouts_from, is_update}
use Rattle.table_update.proofs.reading.read_timeouts.Goals as goal

pub returns : goal.returns
returns c =
    (λ i. Some (Timeouts (slice_index c.args.bytes.now 1) (c.number_at.ensures i) (c.number_at-2.ensures i)))
    ∙ is_update c.args.bytes.now (timeouts_from c.args.bytes.now) _ c.if-not-is_zero_from.false
    (timeouts_spelled c.args.bytes.now _ c.told-bytes c.fits-bytes c.requires c.is_zero_from.ensures)
