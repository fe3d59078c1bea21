use Rattle.std.proofs.Common.{◌≡◌, suc, ◌+◌, length, refl, sym, ◌∙◌, ap, arith}
use Rattle.script_text.specs.Reading.{plan_of}
use Rattle.ftpp_top.specs.Playing.{told_by}
use Rattle.ftpp_top.proofs.Reporting.{summing_first, summing_at, summing_ends}
use Rattle.ftpp_top.proofs.trials.sum_up.Goals as goal

pub loop-cycle-init : goal.loop-cycle-init
loop-cycle-init g c =
    let s = c.args.playing.now in
    record {
      script = refl;
      cycle = c.requires.start;
      ready = c.requires.ready;
      count = ap (λ t. t.cycles) c.zero-totals.ensures.none;
      bounded = c.zero-totals.ensures.bounded;
      honest = λ h. h;
      summing = λ honest r e stands. rw c.zero-totals.ensures.none (summing_first r s.cluster (told_by s.player) (g.F.Fabric.told c.args.fabric.now) stands);
    }

pub loop-cycle-preserved : goal.loop-cycle-preserved
loop-cycle-preserved g c =
    let i = c.loop-cycle.invariant in
    let l = c.loop-cycle.playing in
    let n = c.sum_cycle.new.playing in
    let ensures = c.sum_cycle.ensures in
    let cycle = ensures.cycle ∙ ap (λ k. k + 1) i.cycle in
    record {
      script = ensures.script ∙ i.script;
      cycle = cycle;
      ready = ensures.ready;
      count = ensures.count ∙ cycle;
      bounded = ensures.bounded;
      honest = λ h. ensures.honest (i.honest h);
      summing = λ honest r e stands.
          let same = e ∙ sym (ap (λ x. plan_of x.now) i.script) in
          let before = summing_at r c.loop-cycle._cycle (length l.cluster.journal) l.cluster (told_by l.player) c.loop-cycle.totals (g.F.Fabric.told c.args.fabric.now) (g.F.Fabric.told c.loop-cycle.fabric) (sym i.cycle) (i.summing honest r e stands) in
          summing_at r (suc (length l.cluster.journal)) (c.loop-cycle._cycle + 1) n.cluster (told_by n.player) c.sum_cycle.new.totals (g.F.Fabric.told c.args.fabric.now) (g.F.Fabric.told c.sum_cycle.new.fabric) (omega (arith, i.cycle))
          (ensures.sum (i.honest honest) r (g.F.Fabric.told c.args.fabric.now) same before);
    }

pub returns : goal.returns
returns g c honest r e stands =
    let i = c.loop-cycle.invariant in
    let l = c.loop-cycle.playing in
    let last : c.loop-cycle._cycle ≡ c.args.playing.now.script.now.cycles = omega arith in
    let ends = summing_ends r c.loop-cycle._cycle l.cluster (told_by l.player) c.loop-cycle.totals (g.F.Fabric.told c.args.fabric.now) (g.F.Fabric.told c.loop-cycle.fabric) (last ∙ sym (ap (λ x. x.cycles) e)) (i.summing honest r e stands) in
    ends.0
