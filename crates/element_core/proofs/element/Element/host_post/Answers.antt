use Rattle.std.proofs.Common.{◌≡◌, cond, subst, length}
use Rattle.std.specs.Prelude.{◌↔◌, IsErr, is_ok}
use Rattle.config_table.specs.Table.{out_limit}
use Rattle.element_ports.specs.Ports.{proc_at}
use Rattle.element_ports.specs.PortQueues.{port_queues}
use Rattle.packet_format.specs.declared.acts.Act.TheVariants.{Post}
use Rattle.packet_format.specs.declared.acts.ActAnswer.TheVariants.{Posted as Accepted}
use Rattle.packet_format.specs.declared.acts.ActAnswer.TheVariants.{PostFull as Full}
use Rattle.element_core.specs.AloneRun.{own_answer}
use Rattle.element_core.specs.ElementValue.{ElementValue}
use Rattle.element_core.proofs.element.Element.host_post.Goals as goal

pub returns-clause-answer : goal.returns-clause-answer
returns-clause-answer g c =
    subst (λ (e : ElementValue). own_answer e.kept.table e.kept.ports (Post (record { ne = e.kept.me; port = c.args.port }) c.args.desc c.args.packet) ≡ cond (is_ok c.post.result) Accepted Full)
    c.self.view_is c.post.ensures.answer

pub returns-clause-full : goal.returns-clause-full
returns-clause-full g c =
    subst (λ (e : ElementValue). IsErr c.post.result ↔ (length (port_queues e.kept.ports c.args.port).output ≡ out_limit e.kept.table (proc_at e.kept.me c.args.port)))
    c.self.view_is c.post.ensures.full
