use Rattle.audited_runs.proofs.AuditedTraces.{trace_follows}
use Rattle.audited_runs.proofs.laws.trace_follows.Goals as goal

pub returns : goal.returns
returns c = trace_follows
