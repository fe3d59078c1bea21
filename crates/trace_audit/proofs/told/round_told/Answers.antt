use Rattle.trace_audit.specs.Trace.{frames_in}
use Rattle.trace_audit.specs.Links.{all_bytes}
use Rattle.trace_audit.proofs.Echoes.{told_round}
use Rattle.trace_audit.proofs.told.round_told.Goals as goal

pub returns : goal.returns
returns g c =
    told_round g.row.N c.args.watched.now c.args.named.now (frames_in g.row.N (all_bytes c.args.frames.now)) c.args.round c.own_cells.result c.heard_cells.result c.requires.elements c.own_cells.ensures c.heard_cells.ensures
