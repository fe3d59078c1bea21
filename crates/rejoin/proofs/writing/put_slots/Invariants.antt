use Rattle.std.proofs.Common.{◌≡◌, ◌+◌, ◌*◌, ◌++◌, length, take}
use Rattle.std.specs.List.{flat_map, zip}
use Rattle.rejoin.specs.State.{slot_bytes}
use Rattle.rejoin.proofs.writing.put_slots.Given as goal

abbrev pub invariant-loop-i : goal.invariant-loop-i
invariant-loop-i l = record {
  items : l.out.items ≡ l.initial.out.items ++ flat_map slot_bytes (take l.i (zip l.table.groups l.rows));
  len : length l.out.items ≡ 7 + 47 * l.i;
}
