use Rattle.std.proofs.Common.{◌≡◌, ℕ, List, refl, sym, ◌∙◌, ap, subst, arith}
use Rattle.ftpp_outside.specs.Told.{Adds}
use Rattle.link_fabric.specs.declared.fabrics.Carried.{Carried}
use Rattle.config_table.specs.Table.{TableValue}
use Rattle.script_text.specs.Reading.{Plan, plan_of}
use Rattle.cluster.specs.Carrying.{TellsMore}
use Rattle.command_steps.specs.Ends.{AddsPrefix}
use Rattle.command_steps.specs.Loading.{Run}
use Rattle.ftpp_top.specs.SoakLine.{soak_line}
use Rattle.ftpp_top.specs.FollowsScript.{StandsAt}
use Rattle.ftpp_top.specs.Playing.{told_by}
use Rattle.ftpp_top.specs.Commands.{soaked, soak_run}
use Rattle.ftpp_top.proofs.Ended.{shown_whole, shown_cut}
use Rattle.ftpp_top.proofs.Loops.{frames_are}
use Rattle.ftpp_top.proofs.commands.soak.soak.Goals as goal

pub returns-in-Ok-write_all-clause-ends : goal.returns-in-Ok-write_all-clause-ends
returns-in-Ok-write_all-clause-ends g c =
    let r : Run = soak_run c.args.start c.args.cycles in
    let e : r.plan ≡ plan_of c.in-Ok-new.playing.script.now = sym (ap (λ s. plan_of s) c.in-Ok-new.ensures.script ∙ c.in-Ok.ensures.script) in
    let told = told_by c.in-Ok-new.playing.player in
    let stands : StandsAt r.table r.plan 0 c.in-Ok-new.playing.cluster told =
    subst (λ (t : TableValue). StandsAt t r.plan 0 c.in-Ok-new.playing.cluster told) c.built_in_5-table.ensures
    (subst (λ (p : Plan). StandsAt c.built_in_5-table.result p 0 c.in-Ok-new.playing.cluster told) c.in-Ok.ensures.script c.in-Ok-new.ensures.stands) in
    (refl, shown_whole (g.F.Fabric.honest c.args.fabric.now) (soaked c.args.start c.args.cycles) (g.K.Sink.written c.args.out.now) (g.K.Sink.written c.write_all.new.sink) (λ h. subst (λ (xs : List ℕ). Adds (g.K.Sink.written c.args.out.now) xs (g.K.Sink.written c.write_all.new.sink)) (c.as_slice.ensures.value ∙ (c.soak_line-line.ensures ∙ ap (soak_line c.args.start) (c.sum_up_split-totals.ensures h r e stands).0)) c.in-Ok-write_all.ensures.ok))

pub returns-in-Ok-write_all-clause-carried : goal.returns-in-Ok-write_all-clause-carried
returns-in-Ok-write_all-clause-carried g c h =
    let r : Run = soak_run c.args.start c.args.cycles in
    let e : r.plan ≡ plan_of c.in-Ok-new.playing.script.now = sym (ap (λ s. plan_of s) c.in-Ok-new.ensures.script ∙ c.in-Ok.ensures.script) in
    let told = told_by c.in-Ok-new.playing.player in
    let stands : StandsAt r.table r.plan 0 c.in-Ok-new.playing.cluster told =
    subst (λ (t : TableValue). StandsAt t r.plan 0 c.in-Ok-new.playing.cluster told) c.built_in_5-table.ensures
    (subst (λ (p : Plan). StandsAt c.built_in_5-table.result p 0 c.in-Ok-new.playing.cluster told) c.in-Ok.ensures.script c.in-Ok-new.ensures.stands) in
    (c.sum_up_split-totals.ensures h r e stands).1

pub returns-clause-ends : goal.returns-clause-ends
returns-clause-ends g c =
    let r : Run = soak_run c.args.start c.args.cycles in
    let e : r.plan ≡ plan_of c.in-Ok-new.playing.script.now = sym (ap (λ s. plan_of s) c.in-Ok-new.ensures.script ∙ c.in-Ok.ensures.script) in
    let told = told_by c.in-Ok-new.playing.player in
    let stands : StandsAt r.table r.plan 0 c.in-Ok-new.playing.cluster told =
    subst (λ (t : TableValue). StandsAt t r.plan 0 c.in-Ok-new.playing.cluster told) c.built_in_5-table.ensures
    (subst (λ (p : Plan). StandsAt c.built_in_5-table.result p 0 c.in-Ok-new.playing.cluster told) c.in-Ok.ensures.script c.in-Ok-new.ensures.stands) in
    shown_cut (g.F.Fabric.honest c.args.fabric.now) (soaked c.args.start c.args.cycles) (g.K.Sink.written c.args.out.now) (g.K.Sink.written c.write_all.new.sink) (λ h. subst (λ (xs : List ℕ). AddsPrefix (g.K.Sink.written c.args.out.now) xs (g.K.Sink.written c.write_all.new.sink)) (c.as_slice.ensures.value ∙ (c.soak_line-line.ensures ∙ ap (soak_line c.args.start) (c.sum_up_split-totals.ensures h r e stands).0)) c.in-Err.ensures.prefix)

pub returns-clause-carried : goal.returns-clause-carried
returns-clause-carried g c h =
    let r : Run = soak_run c.args.start c.args.cycles in
    let e : r.plan ≡ plan_of c.in-Ok-new.playing.script.now = sym (ap (λ s. plan_of s) c.in-Ok-new.ensures.script ∙ c.in-Ok.ensures.script) in
    let told = told_by c.in-Ok-new.playing.player in
    let stands : StandsAt r.table r.plan 0 c.in-Ok-new.playing.cluster told =
    subst (λ (t : TableValue). StandsAt t r.plan 0 c.in-Ok-new.playing.cluster told) c.built_in_5-table.ensures
    (subst (λ (p : Plan). StandsAt c.built_in_5-table.result p 0 c.in-Ok-new.playing.cluster told) c.in-Ok.ensures.script c.in-Ok-new.ensures.stands) in
    (r.plan.cycles, omega arith, subst (λ (xs : List Carried). TellsMore (g.F.Fabric.told c.args.fabric.now) xs (g.F.Fabric.told c.sum_up_split-totals.new.fabric)) (frames_are r) (c.sum_up_split-totals.ensures h r e stands).1)
