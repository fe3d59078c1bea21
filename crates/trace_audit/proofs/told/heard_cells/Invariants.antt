use Rattle.std.specs.Prelude.{None}
use Rattle.trace_audit.specs.Known.{heard_told}
use Rattle.trace_audit.specs.Trace.{frames_in}
use Rattle.trace_audit.specs.Links.{all_bytes}
use Rattle.trace_audit.proofs.Columns.{HasSet}
use Rattle.trace_audit.proofs.told.heard_cells.Given as goal

abbrev pub invariant-loop-k : goal.invariant-loop-k
invariant-loop-k g l = HasSet g.row.N None (heard_told l.watched l.named (frames_in g.row.N (all_bytes l.frames)) l.round) l.k l.heard
