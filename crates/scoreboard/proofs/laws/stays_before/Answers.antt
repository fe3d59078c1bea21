use Rattle.scoreboard.proofs.Kept.{before_later}
use Rattle.scoreboard.proofs.laws.stays_before.Goals as goal

pub returns : goal.returns
returns c = before_later
