use Rattle.std.proofs.Common.{◌≡◌, ℕ, ◌<◌, length, get_or}
use Rattle.element_ports.specs.Ports.{fresh, proc_at}
use Rattle.element_ports.proofs.PortChanges.{no_buffers}
use Rattle.element_ports.proofs.ports.Ports.reset.Given as goal

abbrev pub invariant-loop-port : goal.invariant-loop-port
invariant-loop-port l = record {
  me : l.self-inside.me ≡ l.fn.self.me;
  long : length l.self-inside.buffers.items ≡ 8;
  renewed : (k : ℕ) → k < l.port → get_or l.self-inside.buffers.items k no_buffers ≡ fresh l.table (proc_at l.ne k);
}
