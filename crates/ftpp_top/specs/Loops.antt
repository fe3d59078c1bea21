-- A run that is carried and written up to a cycle.
use Rattle.std.specs.Prelude.{◌≡◌, ℕ, List, [], Option, None}
use Rattle.std.specs.List.{flat_map}
use Rattle.ftpp_base.specs.Lists.{below}
use Rattle.ftpp_outside.specs.Told.{Adds}
use Rattle.link_fabric.specs.declared.fabrics.Carried.{Carried}
use Rattle.fault_script.specs.Plays.{Told}
use Rattle.cluster.specs.ClusterValue.{ClusterValue}
use Rattle.cluster.specs.Carrying.{TellsMore}
use Rattle.report_text.specs.PlayedRun.{frames_at, lines_at, totals_below}
use Rattle.report_text.specs.declared.totals.Totals.{Totals}
use Rattle.report_text.specs.Trace.{carried_lines}
use Rattle.command_steps.specs.Loading.{Run}
use Rattle.ftpp_top.specs.FollowsScript.{StandsAt}
use Rattle.ftpp_top.specs.Carries.{frames_below}

-- the lines of the first cycles, by those of each
abbrev pub text_below : (ℕ → List ℕ) → ℕ → List ℕ
text_below lines n = flat_map lines (below n)

-- the trace of a cycle, and nothing for one
abbrev pub trace_at : Run → ℕ → List ℕ
trace_at r k = carried_lines (frames_at r.table r.plan k)

abbrev pub no_lines : ℕ → List ℕ
no_lines k = []

-- The cluster stands where the played run stands before a cycle; the lines of the cycles before it were written, and their frames carried.
pub record IsAlong (r : Run) (lines : ℕ → List ℕ) (k : ℕ) (c : ClusterValue) (told : Told) (old new : Option (List ℕ)) (before after : Option (List Carried)) : Type 0 where
  pub stands : StandsAt r.table r.plan k c told
  pub written : Adds old (text_below lines k) new
  pub carried : TellsMore before (frames_below r k) after

-- The same with the totals of the cycles before it: of a run that is reported, and of one that is only summed up.
pub record IsReporting (r : Run) (k : ℕ) (c : ClusterValue) (told : Told) (t : Totals) (old new : Option (List ℕ)) (before after : Option (List Carried)) : Type 0 where
  pub along : IsAlong r (lines_at r.table r.plan) k c told old new before after
  pub totals : t ≡ totals_below r.table r.plan k

pub record IsSumming (r : Run) (k : ℕ) (c : ClusterValue) (told : Told) (t : Totals) (before after : Option (List Carried)) : Type 0 where
  pub along : IsAlong r no_lines k c told None None before after
  pub totals : t ≡ totals_below r.table r.plan k
