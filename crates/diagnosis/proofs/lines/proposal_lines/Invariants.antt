use Rattle.std.proofs.Common.{◌≡◌, ◌+◌, ◌*◌, ◌≤◌, ◌++◌, length, take}
use Rattle.std.specs.List.{flat_map}
use Rattle.diagnosis.specs.Lines.{mask_line}
use Rattle.diagnosis.proofs.lines.proposal_lines.Given as goal

abbrev pub invariant-loop-update : goal.invariant-loop-update
invariant-loop-update l = record {
  text : l.out.items ≡ l.initial.out.items ++ flat_map mask_line (take l.update-index l.proposals);
  len : length l.out.items ≤ length l.initial.out.items + 13 * l.update-index;
}
