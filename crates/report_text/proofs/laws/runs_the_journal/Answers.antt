use Rattle.report_text.proofs.PlayedJournal.{states_of_journal, shows_of_journal}
use Rattle.report_text.proofs.laws.runs_the_journal.Goals as goal

pub returns-clause-states : goal.returns-clause-states
returns-clause-states c = states_of_journal

pub returns-clause-shows : goal.returns-clause-shows
returns-clause-shows c = shows_of_journal
