use Rattle.std.proofs.Common.{◌≤◌, take}
use Rattle.std.specs.List.{flat_map}
use Rattle.ftpp_outside.specs.Told.{Adds}
use Rattle.ftpp_top.specs.Commands.{line_of}
use Rattle.ftpp_top.proofs.commands.sweep.write_lines.Given as goal

abbrev pub invariant-loop-outcome : goal.invariant-loop-outcome
invariant-loop-outcome g l = record {
  written : Adds (g.K.Sink.written l.fn.out) (flat_map line_of (take l.outcome-index l.outcomes)) (g.K.Sink.written l.out);
  faults : g.K.Sink.faults l.fn.out ≤ g.K.Sink.faults l.out;
}
