use Rattle.std.proofs.Common.{◌<◌, List, sym, subst, All}
use Rattle.ftpp_base.specs.declared.element.Proc.{Proc}
use Rattle.element_ports.proofs.members.sender_at.Goals as goal

pub live_at-requires-clause-ports : goal.live_at-requires-clause-ports
live_at-requires-clause-ports c =
    subst (λ (members : List Proc). All (λ (proc : Proc). proc.port < 8) members) (sym c.as_slice.ensures.value)
    (λ k d l. (c.in-Some.ensures.bounded.members k d l).port)
