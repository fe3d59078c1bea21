use Rattle.syndrome_log.proofs.LastKept.{last_kept-append}
use Rattle.syndrome_log.proofs.laws.keeps_last_of_both.Goals as goal

pub returns : goal.returns
returns c = last_kept-append
