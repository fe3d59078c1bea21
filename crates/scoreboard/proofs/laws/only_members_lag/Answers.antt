use Rattle.scoreboard.proofs.MemberLags.{lag_of-past_size}
use Rattle.scoreboard.proofs.laws.only_members_lag.Goals as goal

pub returns : goal.returns
returns c = lag_of-past_size
