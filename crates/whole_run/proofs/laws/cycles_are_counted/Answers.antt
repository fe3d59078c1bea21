use Rattle.element_core.proofs.Calm.{state_at-cycle}
use Rattle.whole_run.proofs.laws.cycles_are_counted.Goals as goal

pub returns : goal.returns
returns c = state_at-cycle
