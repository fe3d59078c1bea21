use Rattle.scoreboard.proofs.MemberLags.{members_empty, members_step, members_update}
use Rattle.scoreboard.proofs.laws.only_members_lag_on.Goals as goal

pub returns-clause-empty : goal.returns-clause-empty
returns-clause-empty c = members_empty

pub returns-clause-step : goal.returns-clause-step
returns-clause-step c = members_step

pub returns-clause-update : goal.returns-clause-update
returns-clause-update c = members_update
