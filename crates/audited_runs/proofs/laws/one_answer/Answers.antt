use Rattle.audited_runs.proofs.OneAnswer.{one_answer}
use Rattle.audited_runs.proofs.laws.one_answer.Goals as goal

pub returns : goal.returns
returns c = one_answer
