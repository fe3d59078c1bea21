use Rattle.std.proofs.Common.{[]}
use Rattle.syndrome_log.proofs.LastKept.{after_pushes-last_kept}
use Rattle.syndrome_log.proofs.laws.holds_last_pushed.Goals as goal

pub returns : goal.returns
returns c = after_pushes-last_kept []
