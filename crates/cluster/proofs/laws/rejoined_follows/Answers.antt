use Rattle.cluster.proofs.RejoinLaws.{rejoined_follows}
use Rattle.cluster.proofs.laws.rejoined_follows.Goals as goal

pub returns : goal.returns
returns c = rejoined_follows
