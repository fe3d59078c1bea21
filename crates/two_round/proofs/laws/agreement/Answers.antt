use Rattle.two_round.proofs.Agreement.{agreement}
use Rattle.two_round.proofs.laws.agreement.Goals as goal

pub returns : goal.returns
returns c = λ wide n round said me sender is. agreement wide n round said me sender is.size is.fault_free is.among is.heard is.own is.rogue
