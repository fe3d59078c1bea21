use Rattle.std.proofs.Common.{◌≡◌}
use Rattle.ftpp_base.specs.Lists.{each_below, others}
use Rattle.ftpp_top.proofs.commands.diagnose.all_others.Given as goal

abbrev pub invariant-loop-place : goal.invariant-loop-place
invariant-loop-place g l = l.suspects.items ≡ each_below l.place (others g.row.N)
