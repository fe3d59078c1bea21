use Rattle.std.proofs.Common.{◌≡◌, ◌+◌, ◌++◌, length, drop}
use Rattle.table_update.proofs.changes.push_copies.Given as goal

abbrev pub invariant-loop-group : goal.invariant-loop-group
invariant-loop-group l = record {
  all : l.row.items ++ drop l.group-index l.groups ≡ l.initial.row.items ++ l.groups;
  count : length l.row.items ≡ length l.initial.row.items + l.group-index;
}
