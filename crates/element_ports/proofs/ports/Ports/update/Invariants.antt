use Rattle.std.proofs.Common.{◌≡◌, drop}
use Rattle.element_ports.specs.PortQueues.{own_cleared}
use Rattle.element_ports.proofs.GoesOver.{Goes}
use Rattle.element_ports.proofs.ports.Ports.update.Given as goal

abbrev pub invariant-loop-proc : goal.invariant-loop-proc
invariant-loop-proc l = record {
  me : l.self-inside.me ≡ l.fn.self.me;
  goes : Goes l.table l.self-inside.me (drop l.proc-index l.cleared) (own_cleared l.fn.self.me l.cleared l.fn.self.queues) l.self-inside.buffers.items;
}
