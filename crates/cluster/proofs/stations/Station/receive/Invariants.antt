use Rattle.std.proofs.Common.{◌≡◌, ◌≢◌, ℕ, ◌<◌}
use Rattle.cluster.specs.Carrying.{bytes_in}
use Rattle.cluster.specs.Delivered.{frame_in}
use Rattle.cluster.specs.Stations.{came_at}
use Rattle.cluster.proofs.stations.Station.receive.Given as goal

abbrev pub invariant-loop-k : goal.invariant-loop-k
invariant-loop-k g l =
    (l.self.element ≡ l.initial.self.element)
    × (l.self.link.owner ≡ l.initial.self.link.owner)
    × ((from : ℕ) → from < l.k → from ≢ l.initial.self.link.owner → came_at l.self from ≡ frame_in (bytes_in l.rows) from l.initial.self.link.owner)
