use Rattle.whole_run.proofs.ReadOrder.{reads_in_order}
use Rattle.whole_run.proofs.laws.reads_in_order.Goals as goal

pub returns : goal.returns
returns c = reads_in_order
