use Rattle.element_core.proofs.CommonStates.{voted_taken}
use Rattle.element_core.proofs.laws.voted_state_is_taken.Goals as goal

pub returns : goal.returns
returns c = voted_taken
