use Rattle.ftpp_base.specs.Lists.{cell_at}
use Rattle.data_exchange.specs.Entries.{member_counts_as}
use Rattle.data_exchange.proofs.LiveCells.{Counts}
use Rattle.data_exchange.proofs.results.live_cells.Given as goal

abbrev pub invariant-loop-i : goal.invariant-loop-i
invariant-loop-i g l = Counts (member_counts_as l.service (cell_at l.values)) l.masked l.members l.i l.cells.items
