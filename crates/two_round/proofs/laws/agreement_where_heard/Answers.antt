use Rattle.two_round.proofs.Heard.{agreement-heard}
use Rattle.two_round.proofs.laws.agreement_where_heard.Goals as goal

pub returns : goal.returns
returns c = λ wide n x sender round said is heard. agreement-heard wide n round said x sender is heard
