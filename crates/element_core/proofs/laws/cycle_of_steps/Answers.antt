use Rattle.element_core.proofs.StepLaws.{cycle_of_steps}
use Rattle.element_core.proofs.laws.cycle_of_steps.Goals as goal

pub returns : goal.returns
returns c = cycle_of_steps
