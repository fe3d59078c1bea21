use Rattle.std.proofs.Common.{ap, arith, map, List}
use Rattle.std.proofs.lemmas.List.FromFn.{fill_by_all}
use Rattle.processor_buffers.specs.Buffers.{Buffers}
use Rattle.element_ports.specs.Ports.{fresh, proc_at}
use Rattle.element_ports.proofs.PortChanges.{no_buffers}
use Rattle.element_ports.proofs.ports.Ports.reset.Goals as goal

pub returns-clause-queues : goal.returns-clause-queues
returns-clause-queues c =
    ap (λ (items : List Buffers). map (λ b. b.queues) items)
    (fill_by_all (λ port. fresh c.args.table.now (proc_at c.byte-ne.result port)) c.loop-port.self-inside.buffers.items 8 no_buffers c.loop-port.invariant.long
    (λ k l. c.loop-port.invariant.renewed k (omega arith)))
