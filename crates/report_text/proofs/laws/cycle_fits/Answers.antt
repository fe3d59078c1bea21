use Rattle.report_text.proofs.TraceLines.{cycle_fits}
use Rattle.report_text.proofs.laws.cycle_fits.Goals as goal

pub returns : goal.returns
returns c = cycle_fits
