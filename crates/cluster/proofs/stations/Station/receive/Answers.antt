use Rattle.std.proofs.Common.{arith, ◌∙◌}
use Rattle.cluster.specs.Carrying.{bytes_in}
use Rattle.cluster.proofs.RoundLaws.{received_more}
use Rattle.cluster.proofs.stations.Station.receive.Goals as goal

pub loop-k-preserved : goal.loop-k-preserved
loop-k-preserved g c =
    let before = c.loop-k.invariant in
    let one = c.receive_one.ensures in (
      one.element ∙ before.0,
      one.owner ∙ before.1,
      received_more c.loop-k.k c.at.result c.args.self.now c.loop-k.self c.receive_one.new.self (bytes_in c.args.rows.now) c.at.ensures before.1 before.2 one.others one.came,
    )

pub returns : goal.returns
returns g c = record {
  element = c.loop-k.invariant.0;
  owner = c.loop-k.invariant.1;
  came = λ from l away. c.loop-k.invariant.2 from (omega (arith, l, c.loop-k.auto.k-end, c.loop-k-test.false)) away;
}
