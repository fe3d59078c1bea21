use Rattle.config_table.proofs.ValidTable.{valid-n}
use Rattle.config_text.proofs.ReadBack.{with_digits}
use Rattle.config_text.proofs.printing.printed_table.Goals as goal

pub printed_groups-requires : goal.printed_groups-requires
printed_groups-requires c k d l =
    with_digits c.args.table.now.n _ (valid-n c.args.table.now c.groups.ensures.valid) (c.groups.ensures.bounded k d l)
