use Rattle.std.proofs.Common.{◌≡◌, ◌+◌, ◌≤◌, ◌++◌, length}
use Rattle.element_notes.specs.Words.{entries_about}
use Rattle.element_notes.proofs.entries.note_each.Given as goal

-- the entries about the elements so far
abbrev pub invariant-loop-k : goal.invariant-loop-k
invariant-loop-k l = record {
  items : l.out.items ≡ l.initial.out.items ++ entries_about l.heading l.accused l.k l.nes;
  few : length l.out.items ≤ length l.initial.out.items + l.k;
}
