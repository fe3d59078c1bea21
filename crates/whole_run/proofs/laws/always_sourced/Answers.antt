use Rattle.whole_run.proofs.Sourced.{always_sourced}
use Rattle.whole_run.proofs.laws.always_sourced.Goals as goal

pub returns : goal.returns
returns c = always_sourced
