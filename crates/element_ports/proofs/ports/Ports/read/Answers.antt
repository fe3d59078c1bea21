use Rattle.std.proofs.Common.{arith}
use Rattle.processor_buffers.specs.Queues.{after_read}
use Rattle.element_ports.proofs.PortChanges.{seen-changed, limits_stay}
use Rattle.element_ports.proofs.ports.Ports.read.Goals as goal

pub returns-clause-ports : goal.returns-clause-ports
returns-clause-ports c table =
    seen-changed after_read c.self.inside.me c.self.inside.buffers.items c.from.result c.args.port c.args.self.now
    c.index_mut-buffers.result.now c.read.new.self
    c.self.view_is (omega arith) c.from.ensures c.index_mut-buffers.ensures.value c.read.ensures.queues

pub returns-clause-limits : goal.returns-clause-limits
returns-clause-limits c table limits = limits_stay table c.args.self.now _ _ limits (returns-clause-ports c table)
