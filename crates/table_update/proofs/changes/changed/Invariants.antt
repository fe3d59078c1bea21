use Rattle.std.proofs.Common.{◌≡◌, ◌++◌, length, drop}
use Rattle.table_update.specs.Updates.{change_of, with_changed}
use Rattle.table_update.proofs.changes.changed.Given as goal

abbrev pub invariant-loop-group : goal.invariant-loop-group
invariant-loop-group l = record {
  all : l.row.items ++ with_changed (change_of l.update) l.vid (drop l.group-index l.groups) ≡ with_changed (change_of l.update) l.vid l.groups;
  count : length l.row.items ≡ l.group-index;
}
