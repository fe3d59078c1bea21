use Rattle.std.proofs.Common.{◌∙◌, ap}
use Rattle.script_text.specs.Reading.{plan_of}
use Rattle.ftpp_top.specs.Playing.{told_by}
use Rattle.ftpp_top.proofs.Again.{its_acts, ready_next, shown_by, cycle_next, told_next}
use Rattle.ftpp_top.proofs.playing.Playing.next_split.Goals as goal

pub returns-clause-ready : goal.returns-clause-ready
returns-clause-ready g c =
    let s = c.args.self.now in
    let m = c.rejoin-rejoin.new.self in
    let t = c.take_acts.new.self in
    ready_next g.row.N (plan_of s.script.now) (plan_of t.script.now) m.cluster t.cluster c.step_split.new.cluster m.acts.now t.acts.now c.take_acts.new.self.host.items m.rejoins.now t.rejoins.now c.rejoin-rejoin.ensures.begun c.take_acts.ensures.taken
    c.take_acts.ensures.cluster (ap (λ x. plan_of x.now) (c.take_acts.ensures.script ∙ c.rejoin-rejoin.ensures.script)) (ap (λ x. x.now) c.take_acts.ensures.rejoins) c.step_split.ensures.next

pub returns-clause-shown : goal.returns-clause-shown
returns-clause-shown g c =
    let m = c.rejoin-rejoin.new.self in
    let t = c.take_acts.new.self in
    shown_by t.cluster c.step_split.new.cluster c.take_acts.new.self.host.items c.step_split.new.report (ap (λ x. x.first.n) c.take_acts.ensures.cluster ∙ c.rejoin-rejoin.ensures.begun.elements) c.step_split.ensures.next c.step_split.ensures.report

pub returns-clause-run : goal.returns-clause-run
returns-clause-run g c honest table =
    let s = c.args.self.now in
    let m = c.rejoin-rejoin.new.self in
    let t = c.take_acts.new.self in
    let row = c.take_acts.new.self.host.items in
    let its = its_acts g.row.N (plan_of s.script.now) m.cluster m.acts.now t.acts.now row m.rejoins.now c.rejoin-rejoin.ensures.begun c.take_acts.ensures.taken in
    cycle_next table (plan_of s.script.now) s.cluster m.cluster t.cluster c.step_split.new.cluster row c.rejoin-rejoin.result c.step_split.new.report (told_by s.player) (told_by t.player) (told_by c.step_split.new.player)
    (c.rejoin-rejoin.ensures.run table) c.rejoin-rejoin.ensures.journal its c.take_acts.ensures.cluster (ap told_by (c.take_acts.ensures.player ∙ c.rejoin-rejoin.ensures.player))
    c.step_split.ensures.next (c.step_split.ensures.step honest) c.step_split.ensures.report (c.step_split.ensures.plays honest) c.step_split.ensures.silent

pub returns-clause-told : goal.returns-clause-told
returns-clause-told g c =
    let s = c.args.self.now in
    let m = c.rejoin-rejoin.new.self in
    let t = c.take_acts.new.self in
    told_next g.row.N s.cluster m.cluster t.cluster c.step_split.new.cluster (g.F.Fabric.told c.args.fabric.now) (g.F.Fabric.told c.step_split.new.fabric) c.requires.size c.rejoin-rejoin.ensures.begun.elements c.rejoin-rejoin.ensures.journal c.take_acts.ensures.cluster
    c.step_split.ensures.told
