-- How a call ends that loads a run and plays it.
use Rattle.std.proofs.Common.{◌≡◌, ℕ, List, Option, subst}
use Rattle.link_fabric.specs.declared.fabrics.Carried.{Carried}
use Rattle.command_steps.specs.declared.status.Status.{Status}
use Rattle.command_steps.specs.declared.status.Status.TheVariants.{Done, Usage, Script, Config, Read, Write, Memory, TooLong, Stream}
use Rattle.command_steps.specs.Known.{Known, Untold, Ending, Given, IsKnown, IsHalt, Stops}
use Rattle.command_steps.specs.Loading.{Run}
use Rattle.ftpp_top.specs.Carries.{CarriesRun, Carries}

halts_carry : (r : Run) (status : Status) (before after : Option (List Carried)) → IsHalt status → after ≡ before → CarriesRun r status before after
halts_carry r Read before after h e = e
halts_carry r Memory before after h e = e
halts_carry r Write before after h e = absurd h
halts_carry r Done before after h e = absurd h
halts_carry r Usage before after h e = absurd h
halts_carry r TooLong before after h e = absurd h
halts_carry r (Script line code) before after h e = absurd h
halts_carry r (Config code) before after h e = absurd h
halts_carry r (Stream cycle code) before after h e = absurd h

-- the call ended before any frame was carried
pub carries_stopped : (known : Known Run) (status : Status) (old new : Option (List ℕ)) (before after : Option (List Carried)) → Stops known status old new → after ≡ before → Carries known status before after
carries_stopped Untold status old new before after h e = tt
carries_stopped (Ending o) status old new before after h e = e
carries_stopped (Given r) status old new before after h e = halts_carry r status before after h.0 e

pub carries_known : (known : Known Run) (r : Run) (status : Status) (before after : Option (List Carried)) → IsKnown known r → CarriesRun r status before after → Carries known status before after
carries_known Untold r status before after i h = tt
carries_known (Ending o) r status before after i h = absurd i
carries_known (Given s) r status before after i h = subst (λ (x : Run). CarriesRun x status before after) i h
