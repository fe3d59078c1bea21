use Rattle.workload.proofs.Played.{workload_playable}
use Rattle.workload.proofs.laws.workloads_can_be_played.Goals as goal

pub returns : goal.returns
returns c = workload_playable
