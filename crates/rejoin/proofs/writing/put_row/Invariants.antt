use Rattle.std.proofs.Common.{◌≡◌, ◌+◌, ◌*◌, ◌++◌, length, take}
use Rattle.std.specs.List.{flat_map}
use Rattle.packet_format.specs.Numbers.{four_bytes}
use Rattle.rejoin.proofs.writing.put_row.Given as goal

abbrev pub invariant-loop-lag : goal.invariant-loop-lag
invariant-loop-lag l = record {
  items : l.out.items ≡ l.initial.out.items ++ flat_map four_bytes (take l.lag-index l.row.lags);
  len : length l.out.items ≡ length l.initial.out.items + 4 * l.lag-index;
}
