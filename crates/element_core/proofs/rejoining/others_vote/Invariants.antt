use Rattle.std.proofs.Common.{◌≡◌, ◌≤◌, length, map}
use Rattle.ftpp_base.specs.Lists.{cell_at, others}
use Rattle.element_core.proofs.rejoining.others_vote.Given as goal

-- the entries of the elements so far
abbrev pub invariant-loop-of : goal.invariant-loop-of
invariant-loop-of g l = record {
  are : l.cells.items ≡ map (cell_at l.states) (others l.of l.me);
  few : length l.cells.items ≤ l.of;
}
