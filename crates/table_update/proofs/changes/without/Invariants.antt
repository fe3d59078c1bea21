use Rattle.std.proofs.Common.{◌≡◌, ◌≤◌, ◌++◌, length, drop}
use Rattle.table_update.specs.Updates.{without_group}
use Rattle.table_update.proofs.changes.without.Given as goal

abbrev pub invariant-loop-group : goal.invariant-loop-group
invariant-loop-group l = record {
  all : l.row.items ++ without_group l.vid (drop l.group-index l.groups) ≡ without_group l.vid l.groups;
  count : length l.row.items ≤ l.group-index;
}
