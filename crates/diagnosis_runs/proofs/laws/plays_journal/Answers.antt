use Rattle.diagnosis_runs.proofs.PlayedRuns.{plays_journal}
use Rattle.diagnosis_runs.proofs.laws.plays_journal.Goals as goal

pub returns : goal.returns
returns c = plays_journal
