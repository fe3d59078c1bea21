use Rattle.sender_choice.proofs.Driven.{HasMade}
use Rattle.sender_choice.proofs.calls.drive.Given as goal

-- the calls so far are made and answered
abbrev pub invariant-loop-place : goal.invariant-loop-place
invariant-loop-place g l = HasMade (g.C.Chooser.held l.initial.chooser) l.calls l.out l.place (g.C.Chooser.held l.chooser)
