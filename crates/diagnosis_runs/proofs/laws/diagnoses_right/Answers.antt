use Rattle.diagnosis_runs.proofs.PlayedRuns.{diagnoses_right}
use Rattle.diagnosis_runs.proofs.laws.diagnoses_right.Goals as goal

pub returns : goal.returns
returns c = diagnoses_right
