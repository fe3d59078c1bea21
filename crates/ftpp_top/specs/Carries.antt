-- Which frames a call carries over the fabric that is handed in.
use Rattle.std.specs.Prelude.{◌≡◌, ℕ, ◌≤◌, List, Option}
use Rattle.std.specs.List.{flat_map}
use Rattle.ftpp_base.specs.Lists.{below}
use Rattle.link_fabric.specs.declared.fabrics.Carried.{Carried}
use Rattle.cluster.specs.Carrying.{TellsMore}
use Rattle.report_text.specs.PlayedRun.{frames_at, frames_played}
use Rattle.command_steps.specs.declared.status.Status.{Status}
use Rattle.command_steps.specs.declared.status.Status.TheVariants.{Done, Usage, Script, Config, Read, Write, Memory, TooLong, Stream}
use Rattle.command_steps.specs.Known.{Known, Untold, Ending, Given}
use Rattle.command_steps.specs.Loading.{Run}

-- the frames of the first cycles
abbrev pub frames_below : Run → ℕ → List Carried
frames_below r n = flat_map (frames_at r.table r.plan) (below n)

-- those of some first cycles were carried
abbrev pub CarriesSome : Run → Option (List Carried) → Option (List Carried) → Type 0
CarriesSome r before after = (n : ℕ) × (n ≤ r.plan.cycles) × TellsMore before (frames_below r n) after

-- Done carried the frames of all cycles, and a failed write came after those of some first ones; otherwise no frame was carried.
abbrev pub CarriesRun : Run → Status → Option (List Carried) → Option (List Carried) → Type 0
CarriesRun r Done before after = TellsMore before (frames_played r.table r.plan) after
CarriesRun r Write before after = CarriesSome r before after
CarriesRun r Memory before after = after ≡ before
CarriesRun r Read before after = after ≡ before
CarriesRun r Usage before after = after ≡ before
CarriesRun r TooLong before after = after ≡ before
CarriesRun r (Script line code) before after = after ≡ before
CarriesRun r (Config code) before after = after ≡ before
CarriesRun r (Stream cycle code) before after = after ≡ before

-- where it is known which run
abbrev pub Carries : Known Run → Status → Option (List Carried) → Option (List Carried) → Type 0
Carries Untold status before after = Unit {0}
Carries (Ending o) status before after = after ≡ before
Carries (Given r) status before after = CarriesRun r status before after
