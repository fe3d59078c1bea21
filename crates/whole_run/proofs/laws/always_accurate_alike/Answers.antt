use Rattle.whole_run.proofs.Members.{always_accurate_alike}
use Rattle.whole_run.proofs.laws.always_accurate_alike.Goals as goal

pub returns : goal.returns
returns c = always_accurate_alike
