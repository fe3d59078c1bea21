use Rattle.std.proofs.Common.{◌≡◌, ◌+◌, ◌*◌, ◌<◌, ◌≤◌, [], ◌++◌, length}
use Rattle.std.specs.Prelude.{slice_index_or}
use Rattle.cluster.specs.Delivered.{rows_in}
use Rattle.cluster.specs.Carrying.{entries_by}
use Rattle.report_text.specs.Trace.{carried_lines}
use Rattle.ftpp_top.proofs.frame_lines.sender_lines.Given as goal

abbrev pub invariant-loop-to : goal.invariant-loop-to
invariant-loop-to g l = record {
  text : l.text ≡ l.fn.text ++ carried_lines (entries_by l.at (slice_index_or (rows_in l.cluster.delivered l.at.round) l.from []) l.from l.to);
  len : length l.text ≤ length l.fn.text + 682 * l.to;
  past : l.from < l.to → length l.text + 682 ≤ length l.fn.text + 682 * l.to;
}
