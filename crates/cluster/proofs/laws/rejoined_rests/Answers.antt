use Rattle.cluster.proofs.RejoinLaws.{rejoined_rests}
use Rattle.cluster.proofs.laws.rejoined_rests.Goals as goal

pub returns : goal.returns
returns c = rejoined_rests
