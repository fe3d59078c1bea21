use Rattle.std.proofs.Common.{◌≡◌, arith, ◌<◌, length, slice_index_or, ap, ◌∙◌}
use Rattle.cluster.specs.Carrying.{bytes_in}
use Rattle.cluster.specs.Stations.{Receives}
use Rattle.cluster.specs.declared.stations.Station.{Station}
use Rattle.cluster.proofs.Places.{one_step}
use Rattle.cluster.proofs.Sizes.{station_fits}
use Rattle.cluster.proofs.steps.receive_all.Goals as goal

pub receive-requires : goal.receive-requires
receive-requires g c =
    let at = c.loop-station.station-index in
    let item = c.station-item.result in
    let there : at < length c.args.stations.now = omega (arith, c.loop-station.auto.stations, c.loop-station-test.true) in
    let owner : (slice_index_or c.loop-station.stations at item).link.owner ≡ at
    = ap (λ (s : Station g.row.N). s.link.owner) (c.loop-station.invariant.1 at item (omega arith)) ∙ c.requires.placed at item there in
    (station_fits g.row.N c.requires.size, (c.requires.size, (omega (arith, owner, there, c.requires.stations), (c.requires.count, c.requires.shape))))

pub loop-station-preserved : goal.loop-station-preserved
loop-station-preserved g c =
    one_step (Receives (bytes_in c.args.rows.now)) c.args.stations.now c.loop-station.stations c.loop-station.station-index c.station-item.result c.receive.new.self (omega (arith, c.loop-station.auto.stations, c.loop-station-test.true))
    c.receive.ensures c.loop-station.invariant.0 c.loop-station.invariant.1
