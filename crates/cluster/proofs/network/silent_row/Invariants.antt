use Rattle.std.proofs.Common.{◌≡◌, ◌≤◌, [], replicate, vec_len}
use Rattle.std.specs.Prelude.{vec_capacity}
use Rattle.link_fabric.specs.Rows.{rows_of}
use Rattle.cluster.proofs.network.silent_row.Given as goal

abbrev pub invariant-loop : goal.invariant-loop
invariant-loop l = (rows_of l.row.items ≡ replicate l.counter []) × (vec_len l.row ≡ l.counter) × (l.n ≤ vec_capacity l.row)
