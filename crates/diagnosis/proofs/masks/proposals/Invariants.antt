use Rattle.std.proofs.Common.{◌≡◌, ◌≤◌, ◌++◌, length, drop}
use Rattle.diagnosis.specs.Proposals.{proposals_for}
use Rattle.diagnosis.proofs.masks.proposals.Given as goal

abbrev pub invariant-loop-group : goal.invariant-loop-group
invariant-loop-group l = record {
  all : l.proposed.items ++ proposals_for l.masked l.ne (drop l.group-index l.group-items) ≡ proposals_for l.table l.ne l.group-items;
  count : length l.proposed.items ≤ l.group-index;
}
