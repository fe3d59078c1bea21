-- Each run from a valid table hands the log in order.
use Rattle.whole_run.specs.LogOrder.{EachRunHandsLogInOrder}
use Rattle.whole_run.proofs.LogHanded.{handed-is-log, handed-alike}
use Rattle.whole_run.proofs.Fellows.{fellows-equal}
use Rattle.whole_run.proofs.ReadOrder.{reads-from, waits-end}

pub each_run_hands_log_in_order : EachRunHandsLogInOrder
each_run_hands_log_in_order table journal valid are = record {
  log = λ proc. handed-is-log table journal proc valid are;
  alike = λ one other. handed-alike table journal one other valid are;
  equal = λ vid from upto one other fellows. fellows-equal table journal vid from upto one other valid are fellows;
  waits = λ proc k l. waits-end table journal proc k valid are l;
  reads = λ proc k l w never. reads-from table journal proc k valid are l w never;
}
