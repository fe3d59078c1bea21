-- What an element keeps from cycle to cycle, by its parts, and what holds of it.
use Rattle.std.specs.Prelude.{ℕ, ◌<◌, ◌≤◌}
use Rattle.ftpp_base.specs.declared.limits.TheConstants.{MOST_CYCLES}
use Rattle.config_table.specs.Table.{TableValue}
use Rattle.scoreboard.specs.Board.{Scoreboard}
use Rattle.scoreboard.specs.Times.{AreLinesOf, AreBefore, OnlyMembersLag}
use Rattle.element_ports.specs.Ports.{PortsValue}
use Rattle.element_core.specs.Element.{Kept}

abbrev pub kept_at : ℕ → TableValue → Scoreboard → PortsValue → Kept
kept_at cycle table scoreboard ports = record { me = ports.me; cycle = cycle; table = table; scoreboard = scoreboard; ports = ports.queues }

-- It is one of the elements, and its scoreboard has a line for each group, with numbers of earlier cycles, and only members lag.
pub record IsKeptState (kept : Kept) : Type 0 where
  pub me : kept.me < kept.table.n
  pub cycle : kept.cycle ≤ MOST_CYCLES
  pub lines : AreLinesOf kept.table kept.scoreboard
  pub earlier : AreBefore kept.cycle kept.scoreboard
  pub members : OnlyMembersLag kept.table kept.scoreboard
