use Rattle.std.proofs.Common.{◌≡◌, ℕ, ◌<◌, ◌≤◌, slice_index_or}
use Rattle.cluster.specs.Carrying.{bytes_in}
use Rattle.cluster.specs.Stations.{Takes}
use Rattle.cluster.proofs.steps.take_all.Given as goal

abbrev pub invariant-loop-station : goal.invariant-loop-station
invariant-loop-station g l =
    ((k : ℕ) (d : _) → k < l.station-index → Takes l.round (bytes_in l.rows) (slice_index_or l.initial.stations k d) (slice_index_or l.stations k d))
    × ((k : ℕ) (d : _) → l.station-index ≤ k → slice_index_or l.stations k d ≡ slice_index_or l.initial.stations k d)
