use Rattle.element_notes.specs.Words.{is_off_word}
use Rattle.element_notes.proofs.Gathering.{Gathers}
use Rattle.element_notes.proofs.copies.off_words.Given as goal

-- the senders so far
abbrev pub invariant-loop-k : goal.invariant-loop-k
invariant-loop-k g l = Gathers (is_off_word l.x l.looked_at l.of) l.k l.off
