use Rattle.element_core.proofs.StepLaws.{own_cells_hold}
use Rattle.element_core.proofs.laws.own_cells_hold.Goals as goal

pub returns : goal.returns
returns c = own_cells_hold
