use Rattle.workload.proofs.Played.{workload_script}
use Rattle.workload.proofs.laws.workloads_are_scripts.Goals as goal

pub returns : goal.returns
returns c = workload_script
