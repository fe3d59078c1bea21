use Rattle.scoreboard.proofs.FiveElements.{all_five}
use Rattle.scoreboard.proofs.lookups.groups_in.Goals as goal

pub returns-clause-bounded : goal.returns-clause-bounded
returns-clause-bounded c = all_five _ _ c.groups.ensures.valid c.groups.ensures.bounded
