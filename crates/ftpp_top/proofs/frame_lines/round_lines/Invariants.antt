use Rattle.std.proofs.Common.{◌≡◌, ◌+◌, ◌*◌, ◌≤◌, ◌++◌, length}
use Rattle.cluster.specs.Delivered.{rows_in}
use Rattle.cluster.specs.Carrying.{entries_of}
use Rattle.report_text.specs.Trace.{carried_lines}
use Rattle.ftpp_top.proofs.frame_lines.round_lines.Given as goal

abbrev pub invariant-loop-from : goal.invariant-loop-from
invariant-loop-from g l = record {
  text : l.text ≡ l.fn.text ++ carried_lines (entries_of l.at (rows_in l.cluster.delivered l.at.round) g.row.N l.from);
  len : length l.text ≤ length l.fn.text + 2728 * l.from;
}
