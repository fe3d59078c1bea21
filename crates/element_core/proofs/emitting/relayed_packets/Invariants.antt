use Rattle.std.proofs.Common.{◌≡◌, ℕ, ◌<◌, ◌≤◌, length}
use Rattle.std.specs.Prelude.{None}
use Rattle.ftpp_base.specs.Lists.{cell_at}
use Rattle.element_core.specs.Noted.{where_relayed}
use Rattle.element_core.proofs.emitting.relayed_packets.Given as goal

-- the cells of the senders so far, and none of the others
abbrev pub invariant-loop-k : goal.invariant-loop-k
invariant-loop-k g l = record {
  long : length l.cells ≡ g.row.N;
  put : (s : ℕ) → s < l.k → cell_at l.cells s ≡ where_relayed l.decision l.packets.copies s;
  rest : (s : ℕ) → l.k ≤ s → cell_at l.cells s ≡ None;
}
