use Rattle.std.proofs.Common.{◌≡◌, length, refl, sym, ◌∙◌, ap, subst}
use Rattle.script_text.specs.Reading.{Plan}
use Rattle.ftpp_top.specs.Playing.{IsCycleOf, told_by}
use Rattle.ftpp_top.proofs.Reporting.{few_noted, summing_more}
use Rattle.ftpp_top.proofs.commands.soak.sum_cycle_split.Goals as goal

pub returns-clause-bounded : goal.returns-clause-bounded
returns-clause-bounded g c = c.add.ensures.bounded (few_noted c.next_split-rejoin.new.self.report c.next_split-rejoin.ensures.shown.whole)

pub returns-clause-sum : goal.returns-clause-sum
returns-clause-sum g c honest r before e i =
    let s = c.args.playing.now in
    let asked = c.next_split-rejoin.result in
    let t = c.next_split-rejoin.new.self in
    let cycle : IsCycleOf r.table r.plan s.cluster (told_by s.player) asked t.host.items t.cluster t.report (told_by t.player) =
    subst (λ (plan : Plan). IsCycleOf r.table plan s.cluster (told_by s.player) asked t.host.items t.cluster t.report (told_by t.player)) (sym e) (c.next_split-rejoin.ensures.run honest r.table) in
    let size : t.cluster.first.n ≡ g.row.N = ap (λ x. x.n) c.next_split-rejoin.ensures.first ∙ c.requires.ready.elements in
    summing_more {n = g.row.N} r (length s.cluster.journal) s.cluster t.cluster (told_by s.player) (told_by t.player) c.args.totals.now c.add.new.self before (g.F.Fabric.told c.args.fabric.now) (g.F.Fabric.told c.next_split-rejoin.new.fabric) asked t.host.items t.report
    i refl cycle size c.next_split-rejoin.ensures.told c.add.ensures.sum
