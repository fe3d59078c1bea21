use Rattle.std.proofs.Common.{◌≡◌, ap, ◌∙◌, subst, length}
use Rattle.std.specs.Prelude.{◌↔◌, IsErr}
use Rattle.config_table.specs.Table.{out_limit}
use Rattle.element_ports.specs.PortQueues.{port_queues}
use Rattle.packet_format.specs.declared.acts.Act.TheVariants.{Post}
use Rattle.element_ports.specs.Ports.{proc_at}
use Rattle.element_core.specs.Element.{Kept}
use Rattle.element_core.specs.AloneRun.{own_act}
use Rattle.element_core.specs.KeptState.{kept_at}
use Rattle.element_core.proofs.KeptStates.{stands_with}
use Rattle.element_core.proofs.kept_state.KeptState.post.Goals as goal

pub invariant_of-self : goal.invariant_of-self
invariant_of-self c =
    stands_with c.self.inside.cycle c.self.inside.table c.self.inside.scoreboard.value c.self.inside.ports c.post.new.self _ c.self.invariant
    (c.post.ensures.ports c.self.inside.table c.self.invariant.1)

pub returns-clause-kept : goal.returns-clause-kept
returns-clause-kept c =
    ap (kept_at c.self.inside.cycle c.self.inside.table c.self.inside.scoreboard.value) (c.post.ensures.ports c.self.inside.table c.self.invariant.1)
    ∙ ap (λ (k : Kept). record k { ports = own_act k.table k.ports (Post (proc_at k.me c.args.port) c.args.desc c.args.packet) }) c.self.view_is

pub returns-clause-full : goal.returns-clause-full
returns-clause-full c =
    subst (λ (k : Kept). IsErr c.post.result ↔ (length (port_queues k.ports c.args.port).output ≡ out_limit k.table (proc_at k.me c.args.port)))
    c.self.view_is (c.post.ensures.full c.self.inside.table c.self.invariant.1)
