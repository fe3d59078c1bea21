use Rattle.frame_format.specs.Frames.{frame_head}
use Rattle.frame_format.proofs.Walks.{HasWritten}
use Rattle.frame_format.proofs.writing.encode.Given as goal

abbrev pub invariant-loop-i : goal.invariant-loop-i
invariant-loop-i g l = HasWritten g.row.N g.row.B (frame_head l.fn.slot l.fn.sender) l.i l.cells l.out.items
