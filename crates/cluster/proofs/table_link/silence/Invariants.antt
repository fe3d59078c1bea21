use Rattle.std.proofs.Common.{◌≡◌, [], replicate}
use Rattle.link_fabric.specs.Rows.{rows_of}
use Rattle.cluster.proofs.table_link.silence.Given as goal

abbrev pub invariant-loop : goal.invariant-loop
invariant-loop g l = rows_of l.frames.items ≡ replicate l.counter []
