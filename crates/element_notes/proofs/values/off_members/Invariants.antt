use Rattle.element_notes.specs.Words.{is_off_member}
use Rattle.element_notes.proofs.Gathering.{Gathers}
use Rattle.element_notes.proofs.values.off_members.Given as goal

-- the members so far
abbrev pub invariant-loop-k : goal.invariant-loop-k
invariant-loop-k g l = Gathers (is_off_member l.x l.results l.compared l.entry l.admitted) l.k l.off
