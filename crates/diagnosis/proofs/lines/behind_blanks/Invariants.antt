use Rattle.std.proofs.Common.{◌≡◌, ◌+◌, ◌*◌, ◌≤◌, ◌++◌, length, take}
use Rattle.std.specs.List.{flat_map}
use Rattle.diagnosis.specs.Lines.{behind_blank}
use Rattle.diagnosis.proofs.lines.behind_blanks.Given as goal

abbrev pub invariant-loop-ne : goal.invariant-loop-ne
invariant-loop-ne l = record {
  text : l.out.items ≡ l.initial.out.items ++ flat_map behind_blank (take l.ne-index l.elements);
  len : length l.out.items ≤ length l.initial.out.items + 4 * l.ne-index;
}
