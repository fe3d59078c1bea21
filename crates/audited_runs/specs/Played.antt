-- A played run as the laws over whole runs and over traces ask for it.
use Rattle.std.specs.Prelude.{◌≡◌, ℕ, List}
use Rattle.std.specs.List.{AllByRecursion}
use Rattle.ftpp_base.specs.Lists.{each_below}
use Rattle.config_table.specs.Table.{TableValue, IsValid}
use Rattle.script_text.specs.Reading.{Plan}
use Rattle.script_text.specs.Playable.{IsPlayable}
use Rattle.element_core.specs.Cycle.{start}
use Rattle.element_core.specs.Alone.{IsInput}
use Rattle.report_text.specs.PlayedCycle.{frame_between}
use Rattle.report_text.specs.PlayedRun.{standing_at, shown_in, journal_of, frames_played}
use Rattle.trace_audit.specs.Known.{Frames}
use Rattle.trace_audit.specs.Laws.{AreRunFrames}
use Rattle.audited_runs.specs.ReadBack.{AreSpelled, carried_from}

-- the frames of a cycle of a played run, and those of each of its cycles
abbrev pub frames_in_cycle : TableValue → Plan → ℕ → Frames
frames_in_cycle table plan cycle = frame_between plan (standing_at table plan cycle) (shown_in table plan cycle)

abbrev pub frames_of_run : TableValue → Plan → List Frames
frames_of_run table plan = each_below plan.cycles (frames_in_cycle table plan)

-- What comes from outside in each cycle is as the laws over whole runs ask: acts, and what the faulty element's frames read as.
abbrev pub PlaysInputs : Type 0
PlaysInputs = (table : TableValue) (plan : Plan) → IsValid table → IsPlayable table.n plan → AllByRecursion (IsInput table.n) (journal_of table plan)

-- Its frames are those of the run of its journal, and a line can spell each; they are what is carried.
pub record HasRunFrames (table : TableValue) (plan : Plan) : Type 0 where
  pub of_run : AreRunFrames (start table) (journal_of table plan) (frames_of_run table plan)
  pub spelled : AllByRecursion (AreSpelled table.n) (frames_of_run table plan)
  pub carried : frames_played table plan ≡ carried_from table.n 0 (frames_of_run table plan)

abbrev pub PlaysRunFrames : Type 0
PlaysRunFrames = (table : TableValue) (plan : Plan) → IsValid table → IsPlayable table.n plan → HasRunFrames table plan
