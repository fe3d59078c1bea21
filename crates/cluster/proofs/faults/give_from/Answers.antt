use Rattle.std.proofs.Common.{rules, arith, refl}
use Rattle.link_fabric.specs.Rows.{rows_of}
use Rattle.cluster.proofs.Places.{below_five}
use Rattle.cluster.proofs.Asked.{asked_none, given_more, given_whole}
use Rattle.cluster.proofs.OneFrame.{bytes_more, told_more, tells_none}
use Rattle.cluster.proofs.Sizes.{station_fits}
use Rattle.cluster.proofs.faults.give_from.Goals as goal

pub loop-k-init : goal.loop-k-init
loop-k-init g c = (
  λ h d own sent. asked_none c.args.from _ c.args.at own _,
  λ h. h,
  λ to k l away. absurd (omega arith),
  tells_none _,
)

pub give_one-requires : goal.give_one-requires
give_one-requires g c = (
  station_fits g.row.N c.requires.size,
  (c.requires.size, (c.requires.count, (omega (arith, c.loop-k.auto.row, c.requires.row), (c.requires.placed, (c.requires.from, search rules))))),
)

pub at-to-requires : goal.at-to-requires
at-to-requires g c = below_five g.row.N c.loop-k.k c.requires.size c.loop-k-test.true

pub loop-k-preserved : goal.loop-k-preserved
loop-k-preserved g c =
    let k = c.loop-k.k in
    let from = c.args.from in
    let to = c.at-to.result in
    let number = c.at-to.ensures in
    let one = c.give_one.ensures in
    let row = c.give_one.new.row in (
      λ h. given_more from k to g.row.N c.args.at c.args.stations.now (rows_of c.loop-k.row) (rows_of row)
          (g.A.Adversary.told c.args.adversary.now) (g.A.Adversary.told c.loop-k.adversary) (g.A.Adversary.told c.give_one.new.adversary)
          number c.loop-k-test.true one.itself (one.asked (c.loop-k.invariant.1 h)) one.kept (c.loop-k.invariant.0 h),
      λ h. one.honest (c.loop-k.invariant.1 h),
      bytes_more from k to c.loop-k.row row row number refl c.loop-k.invariant.2 one.bytes one.kept,
      told_more c.args.at from k to c.loop-k.row row row (g.F.Fabric.told c.args.fabric.now) (g.F.Fabric.told c.loop-k.fabric) (g.F.Fabric.told c.give_one.new.fabric) (g.F.Fabric.told c.give_one.new.fabric) number refl refl c.loop-k.invariant.3 one.told one.kept,
    )

pub returns-clause-given : goal.returns-clause-given
returns-clause-given g c h =
    given_whole c.loop-k.k g.row.N c.args.from c.args.at c.args.stations.now (rows_of c.loop-k.row) (g.A.Adversary.told c.args.adversary.now) (g.A.Adversary.told c.loop-k.adversary)
    (omega (arith, c.loop-k.auto.k-end, c.loop-k-test.false)) (c.loop-k.invariant.0 h)
