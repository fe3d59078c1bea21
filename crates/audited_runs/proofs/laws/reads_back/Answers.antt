use Rattle.audited_runs.proofs.PlacedLines.{reads_back}
use Rattle.audited_runs.proofs.laws.reads_back.Goals as goal

pub returns : goal.returns
returns c = reads_back
