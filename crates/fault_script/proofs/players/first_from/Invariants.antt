use Rattle.std.proofs.Common.{◌≤◌, ◌-◌, length, take}
use Rattle.std.specs.Prelude.{IsTrue}
use Rattle.fault_script.specs.Edited.{all_before}
use Rattle.fault_script.proofs.players.first_from.Given as goal

abbrev pub invariant-loop-at : goal.invariant-loop-at
invariant-loop-at l = IsTrue (all_before l.cycle (take l.at l.edits)) × (l.at ≤ length l.edits)

abbrev pub decreases-loop-at : goal.decreases-loop-at
decreases-loop-at l = length l.edits - l.at
