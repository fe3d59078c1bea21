-- When the second round of packets makes no difference.
use Rattle.std.specs.Prelude.{Bool, true, not, ◌&&◌, ◌==◌}
use Rattle.config_table.specs.declared.decisions.Decision.{Decision}
use Rattle.config_table.specs.declared.decisions.Decision.TheVariants.{Idle, Discard, Exchange}
use Rattle.data_exchange.specs.Entries.{is_voted}

-- whether there is no exchange of two rounds, and none of class 3
abbrev pub is_quiet : Decision → Bool
is_quiet Idle = true
is_quiet (Discard vid desc number admitted waited) = true
is_quiet (Exchange service) = is_voted service.kind && not (service.desc.class == 3)
