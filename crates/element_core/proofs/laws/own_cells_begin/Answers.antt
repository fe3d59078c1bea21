use Rattle.element_core.proofs.StepLaws.{own_cells_begin}
use Rattle.element_core.proofs.laws.own_cells_begin.Goals as goal

pub returns : goal.returns
returns c = own_cells_begin
