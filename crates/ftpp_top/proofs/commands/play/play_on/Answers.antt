use Rattle.std.proofs.Common.{refl, sym, ap}
use Rattle.script_text.specs.Reading.{plan_of}
use Rattle.ftpp_top.specs.RunOutputs.{text_of}
use Rattle.command_steps.specs.Loading.{Run}
use Rattle.ftpp_top.proofs.Ended.{shown_whole, shown_cut}
use Rattle.ftpp_top.proofs.commands.play.play_on.Goals as goal

pub returns-in-Ok-play_cycles-clause-ends : goal.returns-in-Ok-play_cycles-clause-ends
returns-in-Ok-play_cycles-clause-ends g c =
    let r : Run = record { table = c.args.table.now; plan = plan_of c.args.script.now } in
    let e = sym (ap (λ s. plan_of s) c.in-Ok.ensures.script) in
    (refl, shown_whole (g.F.Fabric.honest c.args.fabric.now) (text_of c.args.output r) (g.K.Sink.written c.args.out.now) (g.K.Sink.written c.play_cycles.new.out) (λ h. (c.in-Ok-play_cycles.ensures.ok h r e c.in-Ok.ensures.stands).0))

pub returns-in-Ok-play_cycles-clause-carried : goal.returns-in-Ok-play_cycles-clause-carried
returns-in-Ok-play_cycles-clause-carried g c h =
    let r : Run = record { table = c.args.table.now; plan = plan_of c.args.script.now } in
    let e = sym (ap (λ s. plan_of s) c.in-Ok.ensures.script) in
    (c.in-Ok-play_cycles.ensures.ok h r e c.in-Ok.ensures.stands).1

pub returns-clause-ends : goal.returns-clause-ends
returns-clause-ends g c =
    let r : Run = record { table = c.args.table.now; plan = plan_of c.args.script.now } in
    let e = sym (ap (λ s. plan_of s) c.in-Ok.ensures.script) in
    shown_cut (g.F.Fabric.honest c.args.fabric.now) (text_of c.args.output r) (g.K.Sink.written c.args.out.now) (g.K.Sink.written c.play_cycles.new.out) (λ h. (c.in-Err.ensures.err h r e c.in-Ok.ensures.stands).0)

pub returns-clause-carried : goal.returns-clause-carried
returns-clause-carried g c h =
    let r : Run = record { table = c.args.table.now; plan = plan_of c.args.script.now } in
    let e = sym (ap (λ s. plan_of s) c.in-Ok.ensures.script) in
    (c.in-Err.ensures.err h r e c.in-Ok.ensures.stands).1
