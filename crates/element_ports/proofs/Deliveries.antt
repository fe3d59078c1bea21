-- Where there is no entry, nothing is delivered.
use Rattle.std.proofs.Common.{◌≡◌, ℕ, List, refl, ap, sym}
use Rattle.std.specs.Prelude.{Option, Some, None}
use Rattle.ftpp_base.specs.declared.element.Proc.{Proc}
use Rattle.config_table.specs.declared.decisions.Decision.{Decision}
use Rattle.config_table.specs.declared.decisions.Decision.TheVariants.{Idle, Discard, Exchange}
use Rattle.config_table.specs.declared.decisions.Service.{Service}
use Rattle.config_table.specs.Table.{TableValue, in_limit}
use Rattle.processor_buffers.specs.Queues.{Queues}
use Rattle.config_table.specs.Members.{member_at}
use Rattle.config_table.specs.Members.{receivers}
use Rattle.element_ports.specs.PortQueues.{after_entry}
use Rattle.element_ports.specs.PortQueues.{delivered_to, delivered_ports}
use Rattle.element_ports.specs.Ports.{PortsValue}
use Rattle.element_ports.proofs.PortChanges.{change_at-none}

-- at the receiver, if there is one
none_to : (table : TableValue) (cycle : ℕ) (service : Service) (ports : List Queues) (found : Option Proc)
    → delivered_to table cycle service None ports found ≡ ports
none_to table cycle service ports None = refl
none_to table cycle service ports (Some proc) = change_at-none (after_entry (in_limit table proc) cycle service None) ports proc.port (λ q. refl)

-- whatever was decided
pub none-delivered : (table : TableValue) (me cycle : ℕ) (decision : Decision) (ports : PortsValue)
    → ports ≡ record ports { queues = delivered_ports table me cycle decision None ports.queues }
none-delivered table me cycle Idle ports = refl
none-delivered table me cycle (Discard vid desc number admitted waited) ports = refl
none-delivered table me cycle (Exchange service) ports =
    ap (λ qs. record ports { queues = qs }) (sym (none_to table cycle service ports.queues (member_at (receivers table service) me)))
