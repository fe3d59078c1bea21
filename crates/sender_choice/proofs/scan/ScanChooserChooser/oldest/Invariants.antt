use Rattle.sender_choice.specs.Sinces.{IsChoice}
use Rattle.sender_choice.specs.Scan.{scanned}
use Rattle.sender_choice.proofs.Scanned.{held_below}
use Rattle.sender_choice.proofs.scan.ScanChooserChooser.oldest.Given as goal

-- the best of the groups so far
abbrev pub invariant-loop-place : goal.invariant-loop-place
invariant-loop-place l = IsChoice (held_below l.place (scanned l.self)) l.eligible l.best
