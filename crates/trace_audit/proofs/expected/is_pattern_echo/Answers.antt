use Rattle.trace_audit.specs.Trace.{frames_in}
use Rattle.trace_audit.specs.Links.{all_bytes}
use Rattle.trace_audit.proofs.Echoes.{pattern_echo}
use Rattle.trace_audit.proofs.expected.is_pattern_echo.Goals as goal

pub returns : goal.returns
returns g c =
    pattern_echo g.row.N c.args.seen.now.watched.now c.args.seen.now.named.now (frames_in g.row.N (all_bytes c.args.seen.now.frames.now)) c.args.seen.now.told.now c.args.from c.args.to c.copies-cells.result c.is_frame_of.result
    c.requires.elements c.requires.holds c.copies-cells.ensures (cc)
