use Rattle.element_ports.proofs.PortChanges.{limits_stay}
use Rattle.part_rows.proofs.element_ports_rows.serve.Goals as goal

pub returns : goal.returns
returns c = limits_stay c.args.table.now c.args.ports.now c.serve.new.self _ c.requires c.serve.ensures
