use Rattle.std.proofs.Common.{◌≡◌, map, length}
use Rattle.std.specs.List.{range_with_len}
use Rattle.rejoin.specs.Reading.{row_at}
use Rattle.rejoin.proofs.reading.rows_in.Given as goal

abbrev pub invariant-loop-i : goal.invariant-loop-i
invariant-loop-i l = record {
  all : l.rows.items ≡ map (row_at l.bytes) (range_with_len 0 l.i);
  count : length l.rows.items ≡ l.i;
}
