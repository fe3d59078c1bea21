use Rattle.sender_choice.specs.Pairs.{sinces_of}
use Rattle.scoreboard.proofs.Choosable.{IsChoosing}
use Rattle.scoreboard.proofs.choice.put_choosable.Given as goal

-- the choosable groups so far
abbrev pub invariant-loop-place : goal.invariant-loop-place
invariant-loop-place l = IsChoosing l.table l.flags l.now l.lines l.place l.eligible (sinces_of l.chooser)
