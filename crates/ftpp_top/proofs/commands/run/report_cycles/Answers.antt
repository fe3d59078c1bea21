use Rattle.std.proofs.Common.{◌≡◌, suc, ◌+◌, length, refl, sym, ◌∙◌, ap, arith}
use Rattle.script_text.specs.Reading.{plan_of}
use Rattle.ftpp_top.specs.Playing.{told_by}
use Rattle.ftpp_top.proofs.Reporting.{on_ok, on_err, err_always, reporting_first, reporting_at, reporting_ends, reporting_end_cut}
use Rattle.ftpp_top.proofs.commands.run.report_cycles.Goals as goal

pub loop-cycle-init : goal.loop-cycle-init
loop-cycle-init g c =
    let s = c.args.playing.now in
    record {
      script = refl;
      cycle = c.requires.start;
      ready = c.requires.ready;
      count = ap (λ t. t.cycles) c.zero-totals.ensures.none;
      bounded = c.zero-totals.ensures.bounded;
      honest = λ h. h;
      faults = omega arith;
      reporting = λ honest r e stands. rw c.zero-totals.ensures.none (reporting_first r s.cluster (told_by s.player) (g.K.Sink.written c.args.out.now) (g.F.Fabric.told c.args.fabric.now) stands);
    }

pub loop-cycle-preserved : goal.loop-cycle-preserved
loop-cycle-preserved g c =
    let i = c.loop-cycle.invariant in
    let l = c.loop-cycle.playing in
    let n = c.report_cycle.new.playing in
    let ensures = c.in_ok-report_cycle.ensures in
    let cycle = ensures.cycle ∙ ap (λ k. k + 1) i.cycle in
    record {
      script = ensures.script ∙ i.script;
      cycle = cycle;
      ready = ensures.ready;
      count = ensures.count ∙ cycle;
      bounded = ensures.bounded;
      honest = λ h. ensures.honest (i.honest h);
      faults = omega (arith, i.faults, ensures.faults);
      reporting = λ honest r e stands.
          let same = e ∙ sym (ap (λ x. plan_of x.now) i.script) in
          let before = reporting_at r c.loop-cycle._cycle (length l.cluster.journal) l.cluster (told_by l.player) c.loop-cycle.totals (g.K.Sink.written c.args.out.now) (g.K.Sink.written c.loop-cycle.out) (g.F.Fabric.told c.args.fabric.now) (g.F.Fabric.told c.loop-cycle.fabric) (sym i.cycle) (i.reporting honest r e stands) in
          reporting_at r (suc (length l.cluster.journal)) (c.loop-cycle._cycle + 1) n.cluster (told_by n.player) c.report_cycle.new.totals (g.K.Sink.written c.args.out.now) (g.K.Sink.written c.report_cycle.new.out) (g.F.Fabric.told c.args.fabric.now) (g.F.Fabric.told c.report_cycle.new.fabric) (omega (arith, i.cycle))
          (ensures.ok (i.honest honest) r (g.K.Sink.written c.args.out.now) (g.F.Fabric.told c.args.fabric.now) same before);
    }

pub returns-in_err-report_cycle-clause-err : goal.returns-in_err-report_cycle-clause-err
returns-in_err-report_cycle-clause-err g c honest r e stands =
    let i = c.loop-cycle.invariant in
    let l = c.loop-cycle.playing in
    let same = e ∙ sym (ap (λ x. plan_of x.now) i.script) in
    let before = reporting_at r c.loop-cycle._cycle (length l.cluster.journal) l.cluster (told_by l.player) c.loop-cycle.totals (g.K.Sink.written c.args.out.now) (g.K.Sink.written c.loop-cycle.out) (g.F.Fabric.told c.args.fabric.now) (g.F.Fabric.told c.loop-cycle.fabric) (sym i.cycle) (i.reporting honest r e stands) in
    err_always c.from_residual.result _ (c.in_err-report_cycle.ensures.err (i.honest honest) r (g.K.Sink.written c.args.out.now) (g.F.Fabric.told c.args.fabric.now) same before)

pub returns-clause-ok : goal.returns-clause-ok
returns-clause-ok g c honest r e stands =
    let i = c.loop-cycle.invariant in
    let l = c.loop-cycle.playing in
    let last : c.loop-cycle._cycle ≡ c.args.playing.now.script.now.cycles = omega arith in
    let at = reporting_at r c.loop-cycle._cycle r.plan.cycles l.cluster (told_by l.player) c.loop-cycle.totals (g.K.Sink.written c.args.out.now) (g.K.Sink.written c.loop-cycle.out) (g.F.Fabric.told c.args.fabric.now) (g.F.Fabric.told c.loop-cycle.fabric) (last ∙ sym (ap (λ x. x.cycles) e)) (i.reporting honest r e stands) in
    on_ok c.report_end.result _ _ (reporting_ends r l.cluster (told_by l.player) c.loop-cycle.totals (g.K.Sink.written c.args.out.now) (g.K.Sink.written c.loop-cycle.out) (g.K.Sink.written c.report_end.new.out) (g.F.Fabric.told c.args.fabric.now) (g.F.Fabric.told c.loop-cycle.fabric) at) c.report_end.ensures.ok

pub returns-clause-err : goal.returns-clause-err
returns-clause-err g c honest r e stands =
    let i = c.loop-cycle.invariant in
    let l = c.loop-cycle.playing in
    let last : c.loop-cycle._cycle ≡ c.args.playing.now.script.now.cycles = omega arith in
    let at = reporting_at r c.loop-cycle._cycle r.plan.cycles l.cluster (told_by l.player) c.loop-cycle.totals (g.K.Sink.written c.args.out.now) (g.K.Sink.written c.loop-cycle.out) (g.F.Fabric.told c.args.fabric.now) (g.F.Fabric.told c.loop-cycle.fabric) (last ∙ sym (ap (λ x. x.cycles) e)) (i.reporting honest r e stands) in
    on_err c.report_end.result _ _ (reporting_end_cut r l.cluster (told_by l.player) c.loop-cycle.totals (g.K.Sink.written c.args.out.now) (g.K.Sink.written c.loop-cycle.out) (g.K.Sink.written c.report_end.new.out) (g.F.Fabric.told c.args.fabric.now) (g.F.Fabric.told c.loop-cycle.fabric) at) c.report_end.ensures.prefix
