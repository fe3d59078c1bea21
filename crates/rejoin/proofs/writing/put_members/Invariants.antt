use Rattle.std.proofs.Common.{◌≡◌, ◌+◌, ◌*◌, ◌++◌, length, take}
use Rattle.std.specs.List.{flat_map}
use Rattle.rejoin.specs.State.{member_bytes}
use Rattle.rejoin.proofs.writing.put_members.Given as goal

abbrev pub invariant-loop-member : goal.invariant-loop-member
invariant-loop-member l = record {
  items : l.out.items ≡ l.initial.out.items ++ flat_map member_bytes (take l.member-index l.members);
  len : length l.out.items ≡ length l.initial.out.items + 2 * l.member-index;
}
