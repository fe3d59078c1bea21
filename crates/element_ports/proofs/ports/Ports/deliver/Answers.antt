use Rattle.std.proofs.Common.{◌∙◌, ap, sym}
use Rattle.std.specs.Prelude.{Option, option_copied}
use Rattle.std.specs.Borrow.{Bor}
use Rattle.packet_format.specs.declared.Packet.{Packet}
use Rattle.element_ports.specs.PortQueues.{delivered_ports}
use Rattle.element_ports.proofs.Deliveries.{none-delivered}
use Rattle.element_ports.proofs.ports.Ports.deliver.Goals as goal

pub returns-in_default-entry-clause-ports : goal.returns-in_default-entry-clause-ports
returns-in_default-entry-clause-ports c =
    let ports = c.args.self.now in
    let table = c.args.table.now in
    none-delivered table ports.me c.args.cycle c.args.decision.now ports
    ∙ ap (λ (o : Option (Bor Packet)). record ports { queues = delivered_ports table ports.me c.args.cycle c.args.decision.now (option_copied o) ports.queues })
    (sym c.in_default-entry.is)
