use Rattle.diagnosis_runs.proofs.NotedInRuns.{faulty_is_suspect}
use Rattle.diagnosis_runs.proofs.laws.faulty_is_suspect.Goals as goal

pub returns : goal.returns
returns c = faulty_is_suspect
