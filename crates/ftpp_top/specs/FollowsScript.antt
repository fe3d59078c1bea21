-- A cluster that follows a script: its cycles are those of the played run, and so are its reports and its frames.
use Rattle.std.specs.Prelude.{◌≡◌, ℕ, suc, ◌<◌, ◌⊎◌, List, length, Option, Some, None}
use Rattle.ftpp_base.specs.declared.element.Round.{Round}
use Rattle.packet_format.specs.declared.acts.Act.{Act}
use Rattle.config_table.specs.Table.{TableValue, IsValid}
use Rattle.fault_script.specs.Plays.{Told}
use Rattle.script_text.specs.Reading.{Plan}
use Rattle.element_core.specs.declared.records.CycleReport.{CycleReport}
use Rattle.cluster.specs.Delivered.{frame_at}
use Rattle.cluster.specs.ClusterValue.{ClusterValue, after_frames, new_cluster}
use Rattle.cluster.specs.Clusters.{PlaysOf}
use Rattle.cluster.specs.Follows.{Follows, IsStepOfRun, state_now}
use Rattle.cluster.specs.Reports.{Reports}
use Rattle.cluster.specs.Rejoins.{RejoinsAt}
use Rattle.element_core.specs.declared.Rejoined.TheVariants.{Taken}
use Rattle.report_text.specs.declared.totals.Totals.{Totals}
use Rattle.report_text.specs.Report.{report_told, cycle_lines}
use Rattle.report_text.specs.Sums.{with_report}
use Rattle.report_text.specs.Trace.{cycle_frames}
use Rattle.report_text.specs.PlayedCycle.{next_at, faulty_in, rejoined_in, acts_at, rejoin_played}
use Rattle.report_text.specs.PlayedRun.{standing_at, report_at, lines_at, frames_at}
use Rattle.report_text.specs.Laws.{PlaysScript, SaysSame}

-- Before a cycle of a script, and before the rejoin that the script may have there, the cluster stands where the played run stands, and
-- its adversary plays the script.
pub record StandsAt (table : TableValue) (plan : Plan) (k : ℕ) (c : ClusterValue) (told : Told) : Type 0 where
  pub elements : (c.first.n ≡ 4) ⊎ (c.first.n ≡ 5)
  pub size : (standing_at table plan k).state.table.n ≡ c.first.n
  pub cycle : length c.journal ≡ k
  pub below : (ne : ℕ) → c.faulty ≡ Some ne → ne < c.first.n
  pub follows : Follows c
  pub state : state_now c ≡ (standing_at table plan k).state
  pub faulty_then : c.faulty ≡ (standing_at table plan k).faulty
  pub rejoined_then : c.rejoined ≡ None
  pub plays : PlaysScript plan (standing_at table plan k) told

-- The same after that rejoin, before the acts of the cycle: another element may be faulty, and the one that rejoined is named.
pub record FollowsScript (table : TableValue) (plan : Plan) (k : ℕ) (c : ClusterValue) (told : Told) : Type 0 where
  pub elements : (c.first.n ≡ 4) ⊎ (c.first.n ≡ 5)
  pub size : (standing_at table plan k).state.table.n ≡ c.first.n
  pub cycle : length c.journal ≡ k
  pub below : (ne : ℕ) → c.faulty ≡ Some ne → ne < c.first.n
  pub follows : Follows c
  pub state : state_now c ≡ (standing_at table plan k).state
  pub faulty_now : c.faulty ≡ faulty_in plan (standing_at table plan k)
  pub rejoined_now : c.rejoined ≡ rejoined_in plan (standing_at table plan k)
  pub plays : PlaysScript plan (standing_at table plan k) told

-- ---- the start, and a cycle without a rejoin before it

-- A new cluster with the script's faulty element stands before the first cycle, where its adversary has the script's edits and kept no
-- frame yet.
abbrev pub StandsFirst : Type 0
StandsFirst = (table : TableValue) (plan : Plan) (cycles acts : ℕ) (told : Told) → IsValid table → ((ne : ℕ) → plan.faulty ≡ Some ne → ne < table.n)
    → told.edits ≡ plan.edits → ((round : Round) → told.kept round ≡ record { now = None; before = None })
    → Follows (new_cluster table plan.faulty cycles acts) → StandsAt table plan 0 (new_cluster table plan.faulty cycles acts) told

-- Where the script has no rejoin before a cycle, the cluster follows it as it stands.
abbrev pub FollowsAsItStands : Type 0
FollowsAsItStands = (table : TableValue) (plan : Plan) (k : ℕ) (c : ClusterValue) (told : Told) → next_at plan k ≡ None
    → StandsAt table plan k c told → FollowsScript table plan k c told

-- Where it has one, and the faulty element's rejoin is taken, the cluster follows it from then on.
abbrev pub FollowsRejoined : Type 0
FollowsRejoined = (table : TableValue) (plan : Plan) (k ne : ℕ) (next : Option ℕ) (old new : ClusterValue) (told : Told) → next_at plan k ≡ Some next
    → StandsAt table plan k old told → old.faulty ≡ Some ne → RejoinsAt old ne next Taken new → Follows new → ((e : ℕ) → next ≡ Some e → e < old.first.n)
    → FollowsScript table plan k new told

-- ---- a cycle

-- A cycle of a cluster over an honest fabric, with the script's acts.
pub record RunsCycle {n : ℕ} (plan : Plan) (k : ℕ) (old : ClusterValue) (acts : List Act) (new : ClusterValue) (report : CycleReport n) (before after : Told) : Type 0 where
  pub its_acts : acts ≡ acts_at plan k
  pub next : new ≡ after_frames old acts new.delivered
  pub step : IsStepOfRun old acts new
  pub tells : Reports old acts new report
  pub played : PlaysOf old acts new (Some before) (Some after)
  pub silent : old.faulty ≡ None → after ≡ before

-- Then it is the cycle of the played run: what its report says of all but the faulty element, the text of it, what it adds to the
-- totals, and its frames.
pub record IsCycleOfScript {n : ℕ} (table : TableValue) (plan : Plan) (k : ℕ) (acts : List Act) (new : ClusterValue) (report : CycleReport n) : Type 0 where
  pub says : SaysSame (report_told report) (report_at table plan k)
  pub text : cycle_lines (rejoin_played plan (standing_at table plan k)) acts (report_told report) ≡ lines_at table plan k
  pub totals : (t : Totals) → with_report t (report_told report) ≡ with_report t (report_at table plan k)
  pub frames : cycle_frames new.first.n k (frame_at new.delivered) ≡ frames_at table plan k

-- and the cluster stands where the played run stands after it.
abbrev pub CyclesOfScript : Type 0
CyclesOfScript = (n : ℕ) (table : TableValue) (plan : Plan) (k : ℕ) (old : ClusterValue) (acts : List Act) (new : ClusterValue) (report : CycleReport n) (before after : Told)
    → FollowsScript table plan k old before → RunsCycle plan k old acts new report before after
    → IsCycleOfScript table plan k acts new report × StandsAt table plan (suc k) new after
