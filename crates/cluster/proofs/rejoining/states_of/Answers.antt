use Rattle.std.specs.Prelude.{None}
use Rattle.std.proofs.lemmas.List.FromFn.{fill_by_all}
use Rattle.cluster.specs.Stations.{elements_of}
use Rattle.cluster.specs.Rejoins.{state_told}
use Rattle.cluster.proofs.Places.{gone_through}
use Rattle.cluster.proofs.RejoinStations.{told_more, tells_more}
use Rattle.cluster.proofs.rejoining.states_of.Goals as goal

pub loop-place-preserved : goal.loop-place-preserved
loop-place-preserved g c =
    let before = c.loop-place.invariant in
    record {
      long = c.set.ensures.length;
      put = told_more c.args.stations.now c.loop-place.place c.state_at.result c.loop-place.states c.set.new.self c.loop-place-test.true c.requires.count before.long c.state_at.ensures.told c.set.ensures.set before.put;
      tell = tells_more c.args.stations.now c.loop-place.place c.state_at.ensures.state before.tell;
    }

pub returns-clause-told : goal.returns-clause-told
returns-clause-told g c =
    fill_by_all (state_told (elements_of c.args.stations.now)) c.loop-place.states g.row.N None c.loop-place.invariant.long (λ s l. c.loop-place.invariant.put s (gone_through g.row.N c.loop-place.place s c.loop-place-test.false l))
