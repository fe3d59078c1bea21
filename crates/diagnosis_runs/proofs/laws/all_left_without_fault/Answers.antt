use Rattle.diagnosis_runs.proofs.NotedInRuns.{all_left_without_fault}
use Rattle.diagnosis_runs.proofs.laws.all_left_without_fault.Goals as goal

pub returns : goal.returns
returns c = all_left_without_fault
