use Rattle.element_core.proofs.UpdatePorts.{each_update_fits}
use Rattle.element_core.proofs.laws.each_update_fits.Goals as goal

pub returns : goal.returns
returns c = each_update_fits
