use Rattle.audited_runs.proofs.PlayedInputs.{plays_inputs}
use Rattle.audited_runs.proofs.laws.plays_inputs.Goals as goal

pub returns : goal.returns
returns c = plays_inputs
