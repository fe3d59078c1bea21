use Rattle.diagnosis.proofs.Left.{noted_in_turn}
use Rattle.diagnosis.proofs.laws.noted_in_turn.Goals as goal

pub returns : goal.returns
returns c = noted_in_turn
