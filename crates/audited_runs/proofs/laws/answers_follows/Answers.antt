use Rattle.audited_runs.proofs.AuditedTraces.{answers_follows}
use Rattle.audited_runs.proofs.laws.answers_follows.Goals as goal

pub returns : goal.returns
returns c = answers_follows
