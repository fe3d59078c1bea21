-- When faults and want of memory come.
use Rattle.std.specs.Prelude.{◌≡◌, ℕ, ◌≤◌, ◌⊎◌, List, Option}
use Rattle.ftpp_outside.specs.Told.{Rose}
use Rattle.command_steps.specs.declared.status.Status.{Status}
use Rattle.command_steps.specs.declared.status.Status.TheVariants.{Read, Write, Memory}

-- the counts of faults of the source, the shelf and the sink, and what the sink holds
pub record Outside : Type 0 where
  pub source : ℕ
  pub shelf : ℕ
  pub sink : ℕ
  pub written : Option (List ℕ)

-- A failed read or write comes only where a count rose, want of memory leaves the sink as it was, and no count falls.
pub record Causes (status : Status) (old new : Outside) : Type 0 where
  pub read : status ≡ Read → Rose old.source new.source ⊎ Rose old.shelf new.shelf
  pub write : status ≡ Write → Rose old.sink new.sink
  pub memory : status ≡ Memory → new.written ≡ old.written
  pub source : old.source ≤ new.source
  pub shelf : old.shelf ≤ new.shelf
  pub sink : old.sink ≤ new.sink
