use Rattle.element_core.proofs.PhaseLaws.{each_part_made}
use Rattle.element_core.proofs.laws.each_part_made.Goals as goal

pub returns : goal.returns
returns c = each_part_made
