use Rattle.std.proofs.Common.{ap, ◌∙◌}
use Rattle.packet_format.specs.declared.acts.Act.TheVariants.{Read}
use Rattle.element_ports.specs.Ports.{proc_at}
use Rattle.element_core.specs.Element.{Kept}
use Rattle.element_core.specs.AloneRun.{own_act}
use Rattle.element_core.specs.KeptState.{kept_at}
use Rattle.element_core.proofs.KeptStates.{stands_with}
use Rattle.element_core.proofs.kept_state.KeptState.read.Goals as goal

pub invariant_of-self : goal.invariant_of-self
invariant_of-self c =
    stands_with c.self.inside.cycle c.self.inside.table c.self.inside.scoreboard.value c.self.inside.ports c.read.new.self _ c.self.invariant
    (c.read.ensures.ports c.self.inside.table)

pub returns-clause-kept : goal.returns-clause-kept
returns-clause-kept c =
    ap (kept_at c.self.inside.cycle c.self.inside.table c.self.inside.scoreboard.value) (c.read.ensures.ports c.self.inside.table)
    ∙ ap (λ (k : Kept). record k { ports = own_act k.table k.ports (Read (proc_at k.me c.args.port)) }) c.self.view_is
