use Rattle.std.proofs.Common.{◌≡◌, map, length}
use Rattle.std.specs.List.{range_with_len}
use Rattle.rejoin.specs.Reading.{member_from}
use Rattle.rejoin.proofs.reading.members_in.Given as goal

abbrev pub invariant-loop-i : goal.invariant-loop-i
invariant-loop-i l = record {
  all : l.members.items ≡ map (member_from l.bytes) (range_with_len 0 l.i);
  count : length l.members.items ≡ l.i;
}
