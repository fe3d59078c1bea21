-- The law is proved over runs.
use Rattle.whole_run.proofs.SkewRun.{no-loss}
use Rattle.whole_run.proofs.laws.no_loss_within_skew.Goals as goal

pub returns : goal.returns
returns c = no-loss
