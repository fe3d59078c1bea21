use Rattle.std.proofs.Common.{◌≡◌, arith, ◌<◌, length, slice_index_or, subst, sym, ap, ◌∙◌}
use Rattle.cluster.specs.Carrying.{bytes_in}
use Rattle.cluster.specs.Stations.{IsReady, Takes}
use Rattle.cluster.specs.declared.stations.Station.{Station}
use Rattle.cluster.proofs.Places.{one_step}
use Rattle.cluster.proofs.Sizes.{station_fits}
use Rattle.element_core.specs.declared.Due.TheVariants.{Absorb}
use Rattle.cluster.proofs.steps.take_all.Goals as goal

pub take-requires : goal.take-requires
take-requires g c =
    let at = c.loop-station.station-index in
    let item = c.station-item.result in
    let there : at < length c.args.stations.now = omega (arith, c.loop-station.auto.stations, c.loop-station-test.true) in
    let same = c.loop-station.invariant.1 at item (omega arith) in
    let ready : IsReady (Absorb c.args.round) (slice_index_or c.loop-station.stations at item)
    = subst (λ s. IsReady (Absorb c.args.round) s) (sym same) (c.requires.ready at item there) in
    let owner : (slice_index_or c.loop-station.stations at item).link.owner ≡ at
    = ap (λ (s : Station g.row.N). s.link.owner) same ∙ c.requires.placed at item there in (
      station_fits g.row.N c.requires.size,
      (ready.due_is, (ready.owner, (omega (arith, owner, there, c.requires.stations), (c.requires.count, c.requires.shape)))),
    )

pub loop-station-preserved : goal.loop-station-preserved
loop-station-preserved g c =
    one_step (Takes c.args.round (bytes_in c.args.rows.now)) c.args.stations.now c.loop-station.stations c.loop-station.station-index c.station-item.result c.take.new.self (omega (arith, c.loop-station.auto.stations, c.loop-station-test.true))
    c.take.ensures c.loop-station.invariant.0 c.loop-station.invariant.1
