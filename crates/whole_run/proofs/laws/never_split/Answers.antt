use Rattle.whole_run.proofs.Equal.{never_split}
use Rattle.whole_run.proofs.laws.never_split.Goals as goal

pub returns : goal.returns
returns c = never_split
