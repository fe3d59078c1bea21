use Rattle.std.proofs.Common.{◌≡◌}
use Rattle.ftpp_base.specs.Lists.{below}
use Rattle.diagnosis.proofs.suspects.Suspects.all.Given as goal

abbrev pub invariant-loop-place : goal.invariant-loop-place
invariant-loop-place l = l.left.items ≡ below l.place
