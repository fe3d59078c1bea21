use Rattle.audited_runs.proofs.Worked.{some_run_is_calm}
use Rattle.audited_runs.proofs.laws.some_run_is_calm.Goals as goal

pub returns : goal.returns
returns c = some_run_is_calm
