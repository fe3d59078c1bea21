use Rattle.scoreboard.proofs.FiveElements.{five_found}
use Rattle.scoreboard.proofs.lookups.group_in.Goals as goal

pub returns-clause-bounded : goal.returns-clause-bounded
returns-clause-bounded c = five_found c.args.table.now c.group.result c.group.ensures.valid c.group.ensures.bounded
