use Rattle.frame_format.proofs.Walks.{HasRead}
use Rattle.frame_format.proofs.reading.read_cells.Given as goal

abbrev pub invariant-loop-i : goal.invariant-loop-i
invariant-loop-i g l = HasRead g.row.N g.row.B l.i l.cells l.bytes l.rest
