-- Which elements send in an exchange, and whose packets are relayed, by the kind of the exchange.
use Rattle.std.specs.Prelude.{ℕ, Bool, true, false, not, ◌&&◌, ◌==◌}
use Rattle.ftpp_base.specs.Sets.{has}
use Rattle.config_table.specs.declared.decisions.Kind.{Kind}
use Rattle.config_table.specs.declared.decisions.Kind.TheVariants.{Voted, Source, Every}
use Rattle.config_table.specs.declared.decisions.Service.{Service}
use Rattle.config_table.specs.declared.decisions.Decision.{Decision}
use Rattle.config_table.specs.declared.decisions.Decision.TheVariants.{Idle, Discard, Exchange}

-- whether a round alone carries the exchange
abbrev pub is_voted : Kind → Bool
is_voted Voted = true
is_voted (Source s) = false
is_voted Every = false

-- whether an element is one that may send in an exchange of that kind
abbrev pub may_send : Kind → ℕ → Bool
may_send Voted ne = true
may_send (Source s) ne = s == ne
may_send Every ne = true

-- whether an element contributes: its member is admitted, and in Source it is the source
abbrev pub contributes : Service → ℕ → Bool
contributes service ne = has service.admitted ne && may_send service.kind ne

-- whether a copy of an element's packet is relayed: it contributes to an exchange of two rounds
abbrev pub is_relayed : Decision → ℕ → Bool
is_relayed Idle ne = false
is_relayed (Discard vid desc number admitted waited) ne = false
is_relayed (Exchange service) ne = not (is_voted service.kind) && contributes service ne
