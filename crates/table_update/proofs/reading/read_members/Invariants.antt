use Rattle.std.proofs.Common.{◌≡◌, map, length}
use Rattle.std.specs.List.{range_with_len}
use Rattle.table_update.proofs.Spelled.{pair_at}
use Rattle.table_update.proofs.reading.read_members.Given as goal

abbrev pub invariant-loop-i : goal.invariant-loop-i
invariant-loop-i l = record {
  all : l.members.items ≡ map (pair_at l.bytes) (range_with_len 0 l.i);
  count : length l.members.items ≡ l.i;
}
