use Rattle.report_text.proofs.Repeated.{plays_first, plays_on}
use Rattle.report_text.proofs.laws.plays_on.Goals as goal

pub returns-clause-first : goal.returns-clause-first
returns-clause-first c = plays_first

pub returns-clause-next : goal.returns-clause-next
returns-clause-next c = plays_on
