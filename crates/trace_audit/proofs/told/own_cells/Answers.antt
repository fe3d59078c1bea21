use Rattle.std.proofs.Common.{ap, set, ◌∙◌}
use Rattle.bit_vote.specs.Vote.{Cell}
use Rattle.trace_audit.specs.Known.{own_told}
use Rattle.trace_audit.specs.Trace.{frames_in}
use Rattle.trace_audit.specs.Links.{all_bytes}
use Rattle.trace_audit.proofs.Columns.{one_cell}
use Rattle.trace_audit.proofs.told.own_cells.Goals as goal

pub loop-k-preserved : goal.loop-k-preserved
loop-k-preserved g c =
    one_cell g.row.N (own_told c.args.watched.now (frames_in g.row.N (all_bytes c.args.frames.now)) c.args.round) c.loop-k.k c.loop-k.own c.set.new.self c.loop-k.invariant c.loop-k-test.true
    (c.set.ensures.set
    ∙ ap (λ (cell : Cell). set c.loop-k.own c.loop-k.k cell) (c.own_told.ensures ∙ ap (own_told c.args.watched.now (frames_in g.row.N (all_bytes c.args.frames.now)) c.args.round) c.at.ensures))
