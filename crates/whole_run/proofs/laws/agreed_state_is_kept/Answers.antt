use Rattle.whole_run.proofs.RunsLawful.{agreed_state_is_kept}
use Rattle.whole_run.proofs.laws.agreed_state_is_kept.Goals as goal

pub returns : goal.returns
returns c = agreed_state_is_kept
