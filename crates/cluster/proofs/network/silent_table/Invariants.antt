use Rattle.std.proofs.Common.{◌≡◌, ◌≤◌, [], replicate, vec_len}
use Rattle.std.specs.Prelude.{vec_capacity}
use Rattle.cluster.specs.Carrying.{bytes_in}
use Rattle.cluster.proofs.network.silent_table.Given as goal

abbrev pub invariant-loop : goal.invariant-loop
invariant-loop l = (bytes_in l.rows.items ≡ replicate l.counter (replicate l.n [])) × (vec_len l.rows ≡ l.counter) × (l.n ≤ vec_capacity l.rows)
