use Rattle.rejoin.proofs.Rows.{made_in_range}
use Rattle.rejoin.proofs.laws.made_of_groups.Goals as goal

pub returns : goal.returns
returns c = made_in_range
