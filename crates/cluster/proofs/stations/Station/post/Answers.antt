use Rattle.std.proofs.Common.{ap, sym, ◌∙◌}
use Rattle.packet_format.specs.declared.acts.Act.TheVariants.{Post}
use Rattle.element_core.specs.AloneRun.{own_answer}
use Rattle.element_core.specs.ElementValue.{after_own_act}
use Rattle.cluster.proofs.stations.Station.post.Goals as goal

pub returns-clause-element : goal.returns-clause-element
returns-clause-element g c =
    let e = c.args.self.now.element in
    c.host_post-posted.ensures.element ∙ ap (λ me. after_own_act (Post (record { ne = me; port = c.args.proc.now.port }) c.args.desc.now c.args.packet.now) e) (sym c.requires.me)

pub returns-clause-answer : goal.returns-clause-answer
returns-clause-answer g c =
    let e = c.args.self.now.element in
    c.posted_answer.ensures ∙ sym c.host_post-posted.ensures.answer
    ∙ ap (λ me. own_answer e.kept.table e.kept.ports (Post (record { ne = me; port = c.args.proc.now.port }) c.args.desc.now c.args.packet.now)) (sym c.requires.me)
