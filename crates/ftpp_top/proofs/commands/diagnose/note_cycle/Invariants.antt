use Rattle.ftpp_top.proofs.Diagnosed.{HaveNoted}
use Rattle.ftpp_top.proofs.commands.diagnose.note_cycle.Given as goal

abbrev pub invariant-loop-place : goal.invariant-loop-place
invariant-loop-place g l = HaveNoted l.rows l.initial.suspects l.suspects l.place
