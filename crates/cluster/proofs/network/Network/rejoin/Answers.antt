use Rattle.std.proofs.Common.{List, length, ap, sym, subst, ◌∙◌}
use Rattle.ftpp_base.specs.declared.element.Round.TheVariants.{A1}
use Rattle.element_core.specs.declared.Due.TheVariants.{Emit}
use Rattle.cluster.specs.declared.stations.Station.{Station}
use Rattle.cluster.specs.Stations.{AllPlaced, AllReady, elements_of}
use Rattle.cluster.specs.Rejoins.{AllTellStates, RejoinsAmong}
use Rattle.cluster.proofs.Written.{written}
use Rattle.cluster.proofs.RejoinStations.{RejoinedAt, among, placed_after}
use Rattle.cluster.proofs.Sizes.{station_fits}
use Rattle.cluster.proofs.network.Network.rejoin.Goals as goal

pub rejoin_at-requires : goal.rejoin_at-requires
rejoin_at-requires g c = (
  station_fits g.row.N c.requires.size,
  (
    c.requires.size,
    (
      ap length c.as_mut_slice.ensures.value ∙ c.requires.count,
      (subst (λ s. AllReady (Emit A1) s) (sym c.as_mut_slice.ensures.value) c.requires.ready, c.requires.below),
    ),
  ),
)

pub returns-clause-rejoins : goal.returns-clause-rejoins
returns-clause-rejoins g c =
    let r = c.rejoin_at in
    let olds = c.as_mut_slice.result.now in
    let is = c.as_mut_slice.ensures.value in
    let at : RejoinedAt c.args.ne olds r.result r.new.stations = record {
      many = ap length is ∙ c.requires.count;
      same = r.auto.stations;
      below = c.requires.below;
      element = r.ensures.element;
      owner = r.ensures.owner;
      others = r.ensures.others;
    } in
    let P : List (Station g.row.N) × List (Station g.row.N) → Type 0 = λ x. RejoinsAmong g.row.N c.args.ne (elements_of x.0) r.result (elements_of x.1) in
    subst P (λ i. (is i, sym (written c.args.self.now.stations _ r.new.stations is r.auto.stations) i)) (among c.args.ne olds r.result r.new.stations at)

pub returns-clause-placed : goal.returns-clause-placed
returns-clause-placed g c =
    let r = c.rejoin_at in
    let olds = c.as_mut_slice.result.now in
    let is = c.as_mut_slice.ensures.value in
    let at : RejoinedAt c.args.ne olds r.result r.new.stations = record {
      many = ap length is ∙ c.requires.count;
      same = r.auto.stations;
      below = c.requires.below;
      element = r.ensures.element;
      owner = r.ensures.owner;
      others = r.ensures.others;
    } in
    subst (λ s. AllPlaced s) (sym (written c.args.self.now.stations _ r.new.stations is r.auto.stations))
    (placed_after c.args.ne olds r.result r.new.stations at (subst (λ s. AllPlaced s) (sym is) c.requires.placed))

pub returns-clause-states : goal.returns-clause-states
returns-clause-states g c = subst (λ s. AllTellStates s) c.as_mut_slice.ensures.value c.rejoin_at.ensures.states
