use Rattle.rejoin.proofs.Spelled.{one_state}
use Rattle.rejoin.proofs.laws.one_spelling.Goals as goal

pub returns-clause-state : goal.returns-clause-state
returns-clause-state c = one_state
