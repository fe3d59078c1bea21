use Rattle.std.proofs.Common.{◌≡◌, ℕ, List, sym, ◌∙◌, subst}
use Rattle.ftpp_outside.specs.Told.{Adds}
use Rattle.command_steps.specs.Ends.{AddsPrefix}
use Rattle.cluster.specs.ClusterValue.{element_at}
use Rattle.diagnosis.specs.Lines.{diagnosis_lines, least}
use Rattle.ftpp_top.specs.Playing.{told_by}
use Rattle.ftpp_top.specs.Diagnosing.{diagnosis_text}
use Rattle.ftpp_top.proofs.Reporting.{on_ok, on_err}
use Rattle.ftpp_top.proofs.Diagnosed.{lines_are, frames_carried, frames_cut}
use Rattle.ftpp_top.proofs.commands.diagnose.diagnose_cycles.Goals as goal

pub returns-clause-ok : goal.returns-clause-ok
returns-clause-ok g c honest r e stands =
    let s = c.suspects_of_run-suspects in
    let t = s.new.playing in
    let i = s.ensures.suspects honest r e stands in
    let size = sym i.elements ∙ (stands.size ∙ c.requires.ready.elements) in
    let same : c.as_slice-2.result.now ≡ diagnosis_text r =
    c.as_slice-2.ensures.value ∙ (c.lines_after-lines.ensures ∙ (λ j. diagnosis_lines (element_at t.cluster (least t.cluster.faulty)).kept.table t.cluster.faulty (c.as_slice.ensures.value j)) ∙ lines_are g.row.N r t.cluster (told_by t.player) s.result.items (g.F.Fabric.told c.args.fabric.now) (g.F.Fabric.told s.new.fabric) c.requires.size size i s.ensures.count) in
    on_ok c.write_all.result _ _ (λ w. (subst (λ (xs : List ℕ). Adds (g.K.Sink.written c.args.out.now) xs (g.K.Sink.written c.write_all.new.sink)) same w, frames_carried r t.cluster (told_by t.player) s.result.items (g.F.Fabric.told c.args.fabric.now) (g.F.Fabric.told s.new.fabric) i)) c.write_all.ensures.ok

pub returns-clause-err : goal.returns-clause-err
returns-clause-err g c honest r e stands =
    let s = c.suspects_of_run-suspects in
    let t = s.new.playing in
    let i = s.ensures.suspects honest r e stands in
    let size = sym i.elements ∙ (stands.size ∙ c.requires.ready.elements) in
    let same : c.as_slice-2.result.now ≡ diagnosis_text r =
    c.as_slice-2.ensures.value ∙ (c.lines_after-lines.ensures ∙ (λ j. diagnosis_lines (element_at t.cluster (least t.cluster.faulty)).kept.table t.cluster.faulty (c.as_slice.ensures.value j)) ∙ lines_are g.row.N r t.cluster (told_by t.player) s.result.items (g.F.Fabric.told c.args.fabric.now) (g.F.Fabric.told s.new.fabric) c.requires.size size i s.ensures.count) in
    on_err c.write_all.result _ _ (λ w. (subst (λ (xs : List ℕ). AddsPrefix (g.K.Sink.written c.args.out.now) xs (g.K.Sink.written c.write_all.new.sink)) same w, frames_cut r t.cluster (told_by t.player) s.result.items (g.F.Fabric.told c.args.fabric.now) (g.F.Fabric.told s.new.fabric) i)) c.write_all.ensures.prefix
