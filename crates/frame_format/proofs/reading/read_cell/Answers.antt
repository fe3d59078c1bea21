use Rattle.frame_format.proofs.Parts.{zeros_found, no_cell}
use Rattle.frame_format.proofs.reading.read_cell.Goals as goal

pub returns-then-same_bytes-clause-found : goal.returns-then-same_bytes-clause-found
returns-then-same_bytes-clause-found g c = (
  tt,
  zeros_found c.args.bytes.now c.copy_from_slice.new.self g.row.B c.same_bytes.result c.requires c.copy_from_slice.ensures.after c.same_bytes.ensures c.in-0.is c.if-same_bytes.true,
)

pub returns-else-same_bytes-clause-only : goal.returns-else-same_bytes-clause-only
returns-else-same_bytes-clause-only g c cell wide is =
    absurd (no_cell c.args.bytes.now c.copy_from_slice.new.self g.row.B c.same_bytes.result c.requires c.copy_from_slice.ensures.after c.same_bytes.ensures c.in-0.is c.if-same_bytes.false cell is)
