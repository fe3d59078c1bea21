use Rattle.std.proofs.Common.{ap, Some}
use Rattle.frame_format.proofs.Parts.{one_list}
use Rattle.frame_format.proofs.Walks.{none_wrong, all_read}
use Rattle.frame_format.proofs.reading.read_cells.Goals as goal

pub returns-in-None-clause-only : goal.returns-in-None-clause-only
returns-in-None-clause-only g c cells are =
    absurd (none_wrong g.row.N g.row.B c.loop-i.i c.loop-i.cells c.args.bytes.now c.loop-i.rest.now c.loop-i.invariant c.loop-i-test.true _ c.split_at.ensures.front
    (λ cell wide is. let no_such = c.in-None.ensures.only cell wide is in cc) cells are)

pub returns-clause-only : goal.returns-clause-only
returns-clause-only g c cells are =
    ap Some (one_list g.row.N g.row.B c.args.bytes.now c.loop-i.cells cells
    (all_read g.row.N g.row.B c.loop-i.i c.loop-i.cells c.args.bytes.now c.loop-i.rest.now c.loop-i.invariant c.loop-i-test.false) are)
