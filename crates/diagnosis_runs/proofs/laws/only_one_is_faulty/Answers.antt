use Rattle.diagnosis_runs.proofs.NotedInRuns.{only_one_is_faulty}
use Rattle.diagnosis_runs.proofs.laws.only_one_is_faulty.Goals as goal

pub returns : goal.returns
returns c = only_one_is_faulty
