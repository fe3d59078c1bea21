use Rattle.std.proofs.Common.{◌≡◌, ℕ, ◌<◌, length, get_or}
use Rattle.local_pattern.specs.Pattern.{quiet}
use Rattle.element_ports.specs.PortQueues.{port_queues, shown_entry}
use Rattle.element_ports.proofs.ports.Ports.column.Given as goal

abbrev pub invariant-loop-port : goal.invariant-loop-port
invariant-loop-port l = record {
  long : length l.pattern ≡ 8;
  shown : (k : ℕ) → k < l.port → get_or l.pattern k quiet ≡ shown_entry (get_or l.self.ins k 0) (port_queues l.self.queues k);
}
