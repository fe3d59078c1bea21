use Rattle.whole_run.proofs.LogOrder.{each_run_hands_log_in_order}
use Rattle.whole_run.proofs.laws.each_run_hands_log_in_order.Goals as goal

pub returns : goal.returns
returns c = each_run_hands_log_in_order
