use Rattle.report_text.proofs.OfScript.{plays_as_script}
use Rattle.report_text.proofs.laws.plays_as_script.Goals as goal

pub returns : goal.returns
returns c = plays_as_script
