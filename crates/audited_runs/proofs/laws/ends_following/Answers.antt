use Rattle.audited_runs.proofs.AuditedTraces.{ends_following}
use Rattle.audited_runs.proofs.laws.ends_following.Goals as goal

pub returns : goal.returns
returns c = ends_following
