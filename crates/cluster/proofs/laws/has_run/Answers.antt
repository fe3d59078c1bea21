use Rattle.cluster.proofs.RejoinLaws.{has_run}
use Rattle.cluster.proofs.laws.has_run.Goals as goal

pub returns : goal.returns
returns g c = has_run c.args.cluster.now c.rests.ensures
