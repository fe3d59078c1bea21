use Rattle.std.proofs.Common.{◌≡◌, ◌+◌, ◌*◌, ◌≤◌, ◌++◌, length}
use Rattle.std.specs.List.{flat_map}
use Rattle.ftpp_base.specs.Lists.{others}
use Rattle.ftpp_base.specs.Sets.{has}
use Rattle.element_notes.specs.Notes.{off_by}
use Rattle.element_notes.proofs.copies.note_relays.Given as goal

-- the entries on the relays so far
abbrev pub invariant-loop-k : goal.invariant-loop-k
invariant-loop-k g l = record {
  items : l.out.items ≡ l.initial.out.items ++ flat_map (off_by l.heading.cycle l.heading.kind l.x g.row.N (has l.looked_at)) (others l.k l.me);
  few : length l.out.items ≤ length l.initial.out.items + 4 * length (others l.k l.me);
  room : length l.out.items ≤ length l.initial.out.items + 4 * l.k;
}
