use Rattle.bit_vote.proofs.Majority.{vote-same}
use Rattle.bit_vote.proofs.Widths.{cells-from}
use Rattle.bit_vote.proofs.laws.majority_is_voted.Goals as goal

pub returns : goal.returns
returns c = λ wide cell cells is are many. vote-same wide cell cells is (cells-from wide cells are) many
