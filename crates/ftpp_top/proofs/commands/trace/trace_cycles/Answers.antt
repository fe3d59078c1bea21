use Rattle.std.proofs.Common.{◌≡◌, suc, ◌+◌, length, refl, sym, ◌∙◌, ap, arith}
use Rattle.script_text.specs.Reading.{plan_of}
use Rattle.ftpp_top.specs.Playing.{told_by}
use Rattle.ftpp_top.specs.Loops.{trace_at}
use Rattle.ftpp_top.proofs.Loops.{along_first}
use Rattle.ftpp_top.proofs.Reporting.{err_always, along_as, tracing_ends}
use Rattle.ftpp_top.proofs.commands.trace.trace_cycles.Goals as goal

pub loop-cycle-init : goal.loop-cycle-init
loop-cycle-init g c =
    let s = c.args.playing.now in
    record {
      script = refl;
      cycle = c.requires.start;
      ready = c.requires.ready;
      honest = λ h. h;
      faults = omega arith;
      along = λ honest r e stands. along_first r (trace_at r) s.cluster (told_by s.player) (g.K.Sink.written c.args.out.now) (g.F.Fabric.told c.args.fabric.now) stands;
    }

pub loop-cycle-preserved : goal.loop-cycle-preserved
loop-cycle-preserved g c =
    let i = c.loop-cycle.invariant in
    let l = c.loop-cycle.playing in
    let n = c.trace_cycle.new.playing in
    let ensures = c.in_ok-trace_cycle.ensures in
    let cycle = ensures.cycle ∙ ap (λ k. k + 1) i.cycle in
    record {
      script = ensures.script ∙ i.script;
      cycle = cycle;
      ready = ensures.ready;
      honest = λ h. ensures.honest (i.honest h);
      faults = omega (arith, i.faults, ensures.faults);
      along = λ honest r e stands.
          let same = e ∙ sym (ap (λ x. plan_of x.now) i.script) in
          let before = along_as r (trace_at r) c.loop-cycle._cycle (length l.cluster.journal) l.cluster (told_by l.player) (g.K.Sink.written c.args.out.now) (g.K.Sink.written c.loop-cycle.out) (g.F.Fabric.told c.args.fabric.now) (g.F.Fabric.told c.loop-cycle.fabric) (sym i.cycle) (i.along honest r e stands) in
          along_as r (trace_at r) (suc (length l.cluster.journal)) (c.loop-cycle._cycle + 1) n.cluster (told_by n.player) (g.K.Sink.written c.args.out.now) (g.K.Sink.written c.trace_cycle.new.out) (g.F.Fabric.told c.args.fabric.now) (g.F.Fabric.told c.trace_cycle.new.fabric) (omega (arith, i.cycle))
          (ensures.ok (i.honest honest) r (g.K.Sink.written c.args.out.now) (g.F.Fabric.told c.args.fabric.now) same before);
    }

pub returns-in_err-trace_cycle-clause-err : goal.returns-in_err-trace_cycle-clause-err
returns-in_err-trace_cycle-clause-err g c honest r e stands =
    let i = c.loop-cycle.invariant in
    let l = c.loop-cycle.playing in
    let same = e ∙ sym (ap (λ x. plan_of x.now) i.script) in
    let before = along_as r (trace_at r) c.loop-cycle._cycle (length l.cluster.journal) l.cluster (told_by l.player) (g.K.Sink.written c.args.out.now) (g.K.Sink.written c.loop-cycle.out) (g.F.Fabric.told c.args.fabric.now) (g.F.Fabric.told c.loop-cycle.fabric) (sym i.cycle) (i.along honest r e stands) in
    err_always c.from_residual.result _ (c.in_err-trace_cycle.ensures.err (i.honest honest) r (g.K.Sink.written c.args.out.now) (g.F.Fabric.told c.args.fabric.now) same before)

pub returns-clause-ok : goal.returns-clause-ok
returns-clause-ok g c honest r e stands =
    let i = c.loop-cycle.invariant in
    let l = c.loop-cycle.playing in
    let last : c.loop-cycle._cycle ≡ c.args.playing.now.script.now.cycles = omega arith in
    tracing_ends r c.loop-cycle._cycle l.cluster (told_by l.player) (g.K.Sink.written c.args.out.now) (g.K.Sink.written c.loop-cycle.out) (g.F.Fabric.told c.args.fabric.now) (g.F.Fabric.told c.loop-cycle.fabric) (last ∙ sym (ap (λ x. x.cycles) e)) (i.along honest r e stands)
