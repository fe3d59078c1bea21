use Rattle.audited_runs.proofs.Calls.{loads_playable}
use Rattle.audited_runs.proofs.laws.loads_playable.Goals as goal

pub returns : goal.returns
returns c = loads_playable
