use Rattle.element_notes.specs.Words.{lacks}
use Rattle.element_notes.proofs.Standing.{Stands}
use Rattle.element_notes.proofs.members.lacking_among.Given as goal

-- the members so far
abbrev pub invariant-loop-i : goal.invariant-loop-i
invariant-loop-i g l = Stands (lacks l.pattern l.lack) l.masked l.members l.i l.set
