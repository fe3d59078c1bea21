use Rattle.diagnosis.proofs.Settled.{only_needed_left}
use Rattle.diagnosis.proofs.laws.only_needed_left.Goals as goal

pub returns : goal.returns
returns c = only_needed_left
