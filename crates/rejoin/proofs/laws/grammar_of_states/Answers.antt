use Rattle.rejoin.proofs.ByField.{state_spelled, encoded_spelled}
use Rattle.rejoin.proofs.laws.grammar_of_states.Goals as goal

pub returns-clause-state : goal.returns-clause-state
returns-clause-state c = state_spelled

pub returns-clause-encoded : goal.returns-clause-encoded
returns-clause-encoded c = encoded_spelled
