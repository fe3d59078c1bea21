-- A script that is played on a cluster, cycle by cycle.
use Rattle.std.specs.Prelude.{◌≡◌, ℕ, suc, ◌+◌, ◌<◌, ◌≤◌, List, length, Option, Some, None, IsSome}
use Rattle.std.specs.List.{AllByRecursion}
use Rattle.packet_format.specs.declared.acts.Act.{Act}
use Rattle.config_table.specs.Table.{TableValue}
use Rattle.fault_script.specs.Plays.{Told}
use Rattle.fault_script.specs.Players.{edits_of, kept_of}
use Rattle.fault_script.specs.declared.players.Player.{Player}
use Rattle.script_text.specs.Reading.{Plan}
use Rattle.script_text.specs.Playable.{IsPlayable, AreOthers}
use Rattle.element_core.specs.declared.Rejoined.{Rejoined}
use Rattle.element_core.specs.declared.records.CycleReport.{CycleReport}
use Rattle.cluster.specs.ClusterValue.{ClusterValue}
use Rattle.cluster.specs.Delivered.{frame_at}
use Rattle.cluster.specs.Reports.{IsTold, AreAnswers}
use Rattle.element_core.specs.Told.{told_of}
use Rattle.element_core.specs.declared.records.CycleRecord.{CycleRecord}
use Rattle.report_text.specs.declared.totals.Totals.{Totals}
use Rattle.report_text.specs.Report.{report_told, cycle_lines}
use Rattle.report_text.specs.Sums.{with_report}
use Rattle.report_text.specs.Trace.{cycle_frames}
use Rattle.report_text.specs.PlayedCycle.{acts_at, next_at, rejoin_played}
use Rattle.report_text.specs.Laws.{SaysSame}
use Rattle.report_text.specs.PlayedRun.{standing_at, report_at, lines_at, frames_at}
use Rattle.ftpp_top.specs.FollowsScript.{StandsAt, FollowsScript}
use Rattle.ftpp_top.specs.Due.{acts_in, next_in, IsOrdered, IsApart}

-- what a player tells
abbrev pub told_by : Player → Told
told_by p = record { edits = edits_of p; kept = kept_of p }

-- Between two cycles, over any fabric: what is left of the script is that of the coming cycles, and the cluster has room for it.
-- `faulty` is the element that is faulty by the script; where there is one, the cluster has one.
pub record IsReady (n : ℕ) (plan : Plan) (c : ClusterValue) (acts : List (ℕ × Act)) (rejoins : List (ℕ × Option ℕ)) : Type 0 where
  pub playable : IsPlayable n plan
  pub elements : c.first.n ≡ n
  pub cycles : length c.journal + c.remaining ≡ plan.cycles
  pub left : length acts ≤ c.acts_left
  pub ordered : IsOrdered (length c.journal) acts
  pub later : (k : ℕ) → length c.journal ≤ k → acts_in acts k ≡ acts_at plan k
  pub apart : IsApart (length c.journal) rejoins
  pub ahead : (k : ℕ) → length c.journal ≤ k → next_in rejoins k ≡ next_at plan k
  pub faulty : Option ℕ
  pub others : AreOthers n faulty rejoins
  pub there : IsSome faulty → IsSome c.faulty
  pub below : (ne : ℕ) → c.faulty ≡ Some ne → ne < n
  pub rested : c.rejoined ≡ None

-- The same just before the acts of the coming cycle: what is left of the rejoins is that of the later cycles.
pub record IsBegun (n : ℕ) (plan : Plan) (c : ClusterValue) (acts : List (ℕ × Act)) (rejoins : List (ℕ × Option ℕ)) : Type 0 where
  pub playable : IsPlayable n plan
  pub elements : c.first.n ≡ n
  pub cycles : length c.journal + c.remaining ≡ plan.cycles
  pub more : 1 ≤ c.remaining
  pub left : length acts ≤ c.acts_left
  pub ordered : IsOrdered (length c.journal) acts
  pub later : (k : ℕ) → length c.journal ≤ k → acts_in acts k ≡ acts_at plan k
  pub apart : IsApart (length c.journal + 1) rejoins
  pub ahead : (k : ℕ) → length c.journal < k → next_in rejoins k ≡ next_at plan k
  pub faulty : Option ℕ
  pub others : AreOthers n faulty rejoins
  pub there : IsSome faulty → IsSome c.faulty
  pub below : (ne : ℕ) → c.faulty ≡ Some ne → ne < n

-- the acts of a cycle, taken from those that are left
pub record IsTaken (c : ℕ) (acts : List (ℕ × Act)) (row : List Act) (rest : List (ℕ × Act)) : Type 0 where
  pub due : row ≡ acts_in acts c
  pub ordered : IsOrdered (c + 1) rest
  pub later : (k : ℕ) → c < k → acts_in rest k ≡ acts_in acts k
  pub count : length row + length rest ≡ length acts

-- The report of a cycle, over any fabric, and the acts: one answer of the right sort to each act, one row for each of n elements.
pub record IsShown {n : ℕ} (acts : List Act) (report : CycleReport n) : Type 0 where
  pub answers : AreAnswers acts report.answers.items
  pub many : length acts ≡ length report.answers.items
  pub rows : length report.rows.items ≡ n
  pub whole : AllByRecursion (λ (r : CycleRecord n). IsTold (told_of r)) report.rows.items

-- The rejoin that the script has just before the coming cycle took place, and it is that of the played run.
abbrev pub IsRejoinOf : TableValue → Plan → ClusterValue → Told → Option (ℕ × Rejoined) → ClusterValue → Type 0
IsRejoinOf table plan old told asked new = StandsAt table plan (length old.journal) old told
    → FollowsScript table plan (length old.journal) new told × (asked ≡ rejoin_played plan (standing_at table plan (length old.journal)))

-- The cycle is that of the played run: its rejoin, what its report says of all but the faulty element, its text, what it adds to the
-- totals, and its frames.
pub record IsOfRun {n : ℕ} (table : TableValue) (plan : Plan) (k : ℕ) (rejoin : Option (ℕ × Rejoined)) (acts : List Act) (new : ClusterValue) (report : CycleReport n) : Type 0 where
  pub begins : rejoin ≡ rejoin_played plan (standing_at table plan k)
  pub says : SaysSame (report_told report) (report_at table plan k)
  pub text : cycle_lines rejoin acts (report_told report) ≡ lines_at table plan k
  pub totals : (t : Totals) → with_report t (report_told report) ≡ with_report t (report_at table plan k)
  pub frames : cycle_frames new.first.n k (frame_at new.delivered) ≡ frames_at table plan k

-- So it is where the cluster stood where the played run stands, and it stands there again after it.
abbrev pub IsCycleOf : {n : ℕ} → TableValue → Plan → ClusterValue → Told → Option (ℕ × Rejoined) → List Act → ClusterValue → CycleReport n → Told → Type 0
IsCycleOf table plan old told rejoin acts new report after = StandsAt table plan (length old.journal) old told
    → IsOfRun table plan (length old.journal) rejoin acts new report × StandsAt table plan (suc (length old.journal)) new after
