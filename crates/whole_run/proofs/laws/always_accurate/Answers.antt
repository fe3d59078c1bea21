use Rattle.whole_run.proofs.Accuracy.{always_accurate}
use Rattle.whole_run.proofs.laws.always_accurate.Goals as goal

pub returns : goal.returns
returns c = always_accurate
