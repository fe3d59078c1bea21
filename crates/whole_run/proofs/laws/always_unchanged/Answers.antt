use Rattle.whole_run.proofs.Unchanged.{always_unchanged}
use Rattle.whole_run.proofs.laws.always_unchanged.Goals as goal

pub returns : goal.returns
returns c = always_unchanged
