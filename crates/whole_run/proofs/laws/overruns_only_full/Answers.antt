use Rattle.whole_run.proofs.Overruns.{only_full}
use Rattle.whole_run.proofs.laws.overruns_only_full.Goals as goal

pub returns : goal.returns
returns c = only_full
