use Rattle.std.proofs.Common.{◌≡◌, length, vec_capacity}
use Rattle.element_ports.proofs.ports.eight_buffers.Given as goal

abbrev pub invariant-loop-port : goal.invariant-loop-port
invariant-loop-port l = (length l.buffers.items ≡ l._port) × (vec_capacity l.buffers ≡ 8)
