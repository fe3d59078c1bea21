use Rattle.element_node.proofs.Cycles.{unread_there}
use Rattle.element_node.proofs.serving.take_end.Goals as goal

pub returns-in-Err-clause-served : goal.returns-in-Err-clause-served
returns-in-Err-clause-served g c = λ w. unread_there c.args.cycles _ _ w c.in-Err.ensures.same
