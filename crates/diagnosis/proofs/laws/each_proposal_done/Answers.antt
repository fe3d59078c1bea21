use Rattle.diagnosis.proofs.Settled.{each_proposal_done}
use Rattle.diagnosis.proofs.laws.each_proposal_done.Goals as goal

pub returns : goal.returns
returns c = each_proposal_done
