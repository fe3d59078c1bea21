use Rattle.std.proofs.Common.{◌≡◌, ◌≤◌, ◌<◌, ℕ, length, slice_index_or, vec_len}
use Rattle.std.specs.Prelude.{vec_capacity}
use Rattle.element_core.specs.ElementValue.{fresh}
use Rattle.cluster.proofs.network.new_stations.Given as goal

abbrev pub invariant-loop-k : goal.invariant-loop-k
invariant-loop-k g l =
    (vec_len l.stations ≡ l.k) × (g.row.N ≤ vec_capacity l.stations)
    × ((j : ℕ) (d : _) → j < length l.stations.items → (slice_index_or l.stations.items j d).element ≡ fresh j l.table)
    × ((j : ℕ) (d : _) → j < length l.stations.items → (slice_index_or l.stations.items j d).link.owner ≡ j)
