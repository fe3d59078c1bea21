use Rattle.bit_vote.proofs.Widths.{vote-cell, cells-from}
use Rattle.bit_vote.proofs.laws.vote_is_cell.Goals as goal

pub returns : goal.returns
returns c = λ wide cells are. vote-cell wide cells (cells-from wide cells are)
