use Rattle.std.proofs.Common.{◌≡◌, [], replicate}
use Rattle.link_fabric.specs.Rows.{rows_of}
use Rattle.link_fabric.proofs.links.silence.Given as goal

abbrev pub invariant-loop : goal.invariant-loop
invariant-loop g l = rows_of l.row.items ≡ replicate l.counter []
