use Rattle.element_core.proofs.CommonStates.{common_state}
use Rattle.element_core.proofs.laws.common_state_is_voted.Goals as goal

pub returns : goal.returns
returns c = common_state
