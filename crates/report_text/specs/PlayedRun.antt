-- The run of a script from a table: its journal, and so its report, its trace and its totals.
use Rattle.std.specs.Prelude.{ℕ, zero, suc, List, ◌++◌}
use Rattle.std.specs.List.{flat_map}
use Rattle.ftpp_base.specs.Lists.{below, each_below}
use Rattle.link_fabric.specs.declared.fabrics.Carried.{Carried}
use Rattle.config_table.specs.Table.{TableValue}
use Rattle.script_text.specs.Reading.{Plan}
use Rattle.element_core.specs.Cycle.{Shown}
use Rattle.element_core.specs.Run.{Journal}
use Rattle.report_text.specs.declared.totals.Totals.{Totals}
use Rattle.report_text.specs.Lines.{end_line}
use Rattle.report_text.specs.Report.{ReportTold, cycle_lines}
use Rattle.report_text.specs.Sums.{totals_of}
use Rattle.report_text.specs.Trace.{carried_lines, cycle_frames}
use Rattle.report_text.specs.PlayedCycle.{Standing, first_standing, standing_after, acts_at, input_played, cycle_played, frame_between, report_played, rejoin_played}

-- before a cycle of the run
abbrev pub standing_at : TableValue → Plan → ℕ → Standing
standing_at table plan zero = first_standing table plan
standing_at table plan (suc cycle) = standing_after plan (standing_at table plan cycle)

-- ---- script to journal

-- what came from outside in the cycles below a number: the script's acts and rejoins, and what the frames of the faulty element
-- read as
abbrev pub journal_below : TableValue → Plan → ℕ → Journal
journal_below table plan n = each_below n (λ cycle. input_played plan (standing_at table plan cycle))

unfoldable pub journal_of : TableValue → Plan → Journal
journal_of table plan = journal_below table plan plan.cycles

-- ---- run to text

-- what a cycle shows
abbrev pub shown_in : TableValue → Plan → ℕ → Shown
shown_in table plan cycle = (cycle_played plan (standing_at table plan cycle)).shown

abbrev pub report_at : TableValue → Plan → ℕ → ReportTold
report_at table plan cycle = report_played plan (standing_at table plan cycle) (shown_in table plan cycle)

abbrev pub lines_at : TableValue → Plan → ℕ → List ℕ
lines_at table plan cycle = cycle_lines (rejoin_played plan (standing_at table plan cycle)) (acts_at plan cycle) (report_at table plan cycle)

-- the lines and the totals of the cycles below a number
abbrev pub lines_below : TableValue → Plan → ℕ → List ℕ
lines_below table plan n = flat_map (lines_at table plan) (below n)

abbrev pub totals_below : TableValue → Plan → ℕ → Totals
totals_below table plan n = totals_of (each_below n (report_at table plan))

-- **the totals of a played run**
unfoldable pub totals_played : TableValue → Plan → Totals
totals_played table plan = totals_below table plan plan.cycles

-- **the report of a played run**
unfoldable pub report_text : TableValue → Plan → List ℕ
report_text table plan = lines_below table plan plan.cycles ++ end_line (totals_played table plan)

-- the frames of a cycle, in order, and of all cycles
abbrev pub frames_at : TableValue → Plan → ℕ → List Carried
frames_at table plan cycle =
    cycle_frames (standing_at table plan cycle).state.table.n cycle (frame_between plan (standing_at table plan cycle) (shown_in table plan cycle))

unfoldable pub frames_played : TableValue → Plan → List Carried
frames_played table plan = flat_map (frames_at table plan) (below plan.cycles)

-- **the trace of a played run**
unfoldable pub trace_text : TableValue → Plan → List ℕ
trace_text table plan = carried_lines (frames_played table plan)
