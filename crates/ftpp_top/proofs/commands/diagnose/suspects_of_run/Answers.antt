use Rattle.std.proofs.Common.{◌≡◌, suc, ◌+◌, length, refl, sym, ◌∙◌, ap, arith}
use Rattle.std.proofs.lemmas.List.FromFn.{length-map-range_with_len}
use Rattle.ftpp_base.specs.Lists.{others}
use Rattle.script_text.specs.Reading.{plan_of}
use Rattle.ftpp_top.specs.Playing.{told_by}
use Rattle.ftpp_top.proofs.Diagnosed.{diagnosing_first, diagnosing_at}
use Rattle.ftpp_top.proofs.commands.diagnose.suspects_of_run.Goals as goal

pub loop-cycle-init : goal.loop-cycle-init
loop-cycle-init g c =
    let s = c.args.playing.now in
    record {
      script = refl;
      cycle = c.requires.start;
      ready = c.requires.ready;
      count = ap length c.all_others-suspects.ensures ∙ length-map-range_with_len (others g.row.N) 0 g.row.N;
      honest = λ h. h;
      suspects = λ honest r e stands. rw c.all_others-suspects.ensures (diagnosing_first g.row.N r s.cluster (told_by s.player) (g.F.Fabric.told c.args.fabric.now) c.requires.ready.elements stands);
    }

pub loop-cycle-preserved : goal.loop-cycle-preserved
loop-cycle-preserved g c =
    let i = c.loop-cycle.invariant in
    let l = c.loop-cycle.playing in
    let n = c.suspect_cycle.new.playing in
    let ensures = c.suspect_cycle.ensures in
    record {
      script = ensures.script ∙ i.script;
      cycle = ensures.cycle ∙ ap (λ k. k + 1) i.cycle;
      ready = ensures.ready;
      count = ensures.count;
      honest = λ h. ensures.honest (i.honest h);
      suspects = λ honest r e stands.
          let same = e ∙ sym (ap (λ x. plan_of x.now) i.script) in
          let before = diagnosing_at r c.loop-cycle._cycle (length l.cluster.journal) l.cluster (told_by l.player) c.loop-cycle.suspects.items (g.F.Fabric.told c.args.fabric.now) (g.F.Fabric.told c.loop-cycle.fabric) (sym i.cycle) (i.suspects honest r e stands) in
          diagnosing_at r (suc (length l.cluster.journal)) (c.loop-cycle._cycle + 1) n.cluster (told_by n.player) c.suspect_cycle.new.suspects.items (g.F.Fabric.told c.args.fabric.now) (g.F.Fabric.told c.suspect_cycle.new.fabric) (omega (arith, i.cycle))
          (ensures.suspects (i.honest honest) r (g.F.Fabric.told c.args.fabric.now) same before);
    }

pub returns-clause-suspects : goal.returns-clause-suspects
returns-clause-suspects g c honest r e stands =
    let i = c.loop-cycle.invariant in
    let l = c.loop-cycle.playing in
    let last : c.loop-cycle._cycle ≡ c.args.playing.now.script.now.cycles = omega arith in
    diagnosing_at r c.loop-cycle._cycle r.plan.cycles l.cluster (told_by l.player) c.loop-cycle.suspects.items (g.F.Fabric.told c.args.fabric.now) (g.F.Fabric.told c.loop-cycle.fabric) (last ∙ sym (ap (λ x. x.cycles) e)) (i.suspects honest r e stands)
