use Rattle.ftpp_base.specs.Lists.{cell_at}
use Rattle.local_pattern.specs.Pattern.{quiet_column, read_column}
use Rattle.trace_audit.proofs.Columns.{HasSet}
use Rattle.trace_audit.proofs.told.pattern_of.Given as goal

abbrev pub invariant-loop-k : goal.invariant-loop-k
invariant-loop-k g l = HasSet g.row.N quiet_column (λ ne. read_column (cell_at l.rows ne)) l.k l.pattern
