use Rattle.std.proofs.Common.{length}
use Rattle.ftpp_top.proofs.Taken.{IsDue}
use Rattle.ftpp_top.proofs.due.due_acts.Given as goal

abbrev pub invariant-loop-entry : goal.invariant-loop-entry
invariant-loop-entry l = IsDue l.c l.acts l.row.items l.rest

abbrev pub decreases-loop-entry : goal.decreases-loop-entry
decreases-loop-entry l = length l.rest
