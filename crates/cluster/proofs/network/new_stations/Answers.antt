use Rattle.std.proofs.Common.{rules, ◌≡◌, arith}
use Rattle.element_core.specs.ElementValue.{fresh}
use Rattle.cluster.proofs.Places.{below_five}
use Rattle.cluster.proofs.ActSteps.{each_push, elements_are}
use Rattle.cluster.proofs.Sizes.{station_fits}
use Rattle.cluster.proofs.network.new_stations.Goals as goal

pub new-requires : goal.new-requires
new-requires g c = (station_fits g.row.N c.requires.size, (c.requires.elements, omega (arith, c.at.ensures, c.loop-k-test.true)))

pub drop-stations-requires : goal.drop-stations-requires
drop-stations-requires g c = λ κs. ((station_fits g.row.N c.requires.size, tt), search rules)

pub at-requires : goal.at-requires
at-requires g c = below_five g.row.N c.loop-k.k c.requires.size c.loop-k-test.true

pub loop-k-preserved : goal.loop-k-preserved
loop-k-preserved g c = (
  search rules,
  search rules,
  each_push (λ j s. s.element ≡ fresh j c.args.table.now) c.loop-k.stations.items c.push_reserved.new.self.items c.loop-k.k _ (search rules) c.push_reserved.ensures.items c.loop-k.invariant.2 (search rules),
  each_push (λ j s. s.link.owner ≡ j) c.loop-k.stations.items c.push_reserved.new.self.items c.loop-k.k _ (search rules) c.push_reserved.ensures.items c.loop-k.invariant.3 (search rules),
)

pub returns-clause-elements : goal.returns-clause-elements
returns-clause-elements g c =
    elements_are c.loop-k.stations.items (λ k. fresh k c.args.table.now) g.row.N (search rules) c.loop-k.invariant.2
