-- What an element keeps, with other queues at its ports.
use Rattle.std.proofs.Common.{◌≡◌, ℕ, ◌<◌, ◌+◌, sym, subst, arith}
use Rattle.config_table.specs.Table.{TableValue}
use Rattle.processor_buffers.specs.Queues.{Queues}
use Rattle.scoreboard.specs.Board.{Scoreboard}
use Rattle.scoreboard.specs.Times.{AreLinesOf, AreBefore, OnlyMembersLag}
use Rattle.element_ports.specs.Ports.{PortsValue, HasLimits}
use Rattle.element_core.specs.KeptState.{kept_at, IsKeptState}
use Rattle.std.specs.Prelude.{List}

-- what is known of all parts
abbrev pub Stands : ℕ → TableValue → Scoreboard → PortsValue → Type 0
Stands cycle table board ports = IsKeptState (kept_at cycle table board ports) × HasLimits table ports

-- other queues change nothing of it
with_queues : (cycle : ℕ) (table : TableValue) (board : Scoreboard) (ports : PortsValue) (queues : List Queues)
    → Stands cycle table board ports → Stands cycle table board (record ports { queues = queues })
with_queues cycle table board ports queues h = (
  record { me = h.0.me; cycle = h.0.cycle; lines = h.0.lines; earlier = h.0.earlier; members = h.0.members },
  (λ port l. let at = h.1 port l in record { output = at.output; input = at.input }),
)

pub stands_with : (cycle : ℕ) (table : TableValue) (board : Scoreboard) (ports other : PortsValue) (queues : List Queues)
    → Stands cycle table board ports → other ≡ record ports { queues = queues } → Stands cycle table board other
stands_with cycle table board ports other queues h is = subst (Stands cycle table board) (sym is) (with_queues cycle table board ports queues h)

-- nor does the next cycle, with a scoreboard for it
pub stands_next : (cycle : ℕ) (table : TableValue) (board next : Scoreboard) (ports : PortsValue)
    → Stands cycle table board ports → cycle < 100000 → AreLinesOf table next → AreBefore (cycle + 1) next → OnlyMembersLag table next → Stands (cycle + 1) table next ports
stands_next cycle table board next ports h low lines earlier members = (record { me = h.0.me; cycle = omega arith; lines = lines; earlier = earlier; members = members }, h.1)

-- a table among as many elements, with its own scoreboard and ports
pub stands_on : (cycle : ℕ) (table other : TableValue) (board next : Scoreboard) (ports cleared : PortsValue)
    → Stands cycle table board ports → other.n ≡ table.n → cleared.me ≡ ports.me → AreLinesOf other next → AreBefore cycle next → OnlyMembersLag other next → HasLimits other cleared
    → Stands cycle other next cleared
stands_on cycle table other board next ports cleared h n me lines earlier members limits =
    (record { me = rw me (rw n h.0.me); cycle = h.0.cycle; lines = lines; earlier = earlier; members = members }, limits)
