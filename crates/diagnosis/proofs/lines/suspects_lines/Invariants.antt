use Rattle.std.proofs.Common.{◌≡◌, ◌+◌, ◌*◌, ◌≤◌, ◌++◌, length, drop}
use Rattle.diagnosis.specs.Lines.{suspects_lines}
use Rattle.diagnosis.proofs.lines.suspects_lines.Given as goal

abbrev pub invariant-loop-place : goal.invariant-loop-place
invariant-loop-place l = record {
  text : l.out.items ++ suspects_lines l.faulty l.place (drop l.place l.suspects) ≡ l.initial.out.items ++ suspects_lines l.faulty 0 l.suspects;
  len : length l.out.items ≤ length l.initial.out.items + 33 * l.place;
}
