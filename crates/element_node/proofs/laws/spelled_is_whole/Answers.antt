use Rattle.element_node.proofs.Spelled.{spelled_is_whole}
use Rattle.element_node.proofs.laws.spelled_is_whole.Goals as goal

pub returns : goal.returns
returns c = spelled_is_whole
