use Rattle.ftpp_top.proofs.CycleOfScript.{cycles_of_script}
use Rattle.ftpp_top.proofs.script_laws.cycles_of_script.Goals as goal

pub returns : goal.returns
returns c = cycles_of_script
