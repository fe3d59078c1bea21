-- What holds of played runs, and of what follows them.
use Rattle.std.specs.Prelude.{◌≡◌, ◌≢◌, ℕ, suc, ◌+◌, ◌<◌, ◌≤◌, ◌⊎◌, ◌==◌, List, [], ◌∷◌, length, slice_get, slice_index_or, Option, Some, None, false, if◌then◌else◌}
use Rattle.ftpp_base.specs.Lists.{each_below, is_this}
use Rattle.ftpp_base.specs.declared.element.Round.{Round}
use Rattle.ftpp_base.specs.declared.element.Round.TheVariants.{A1, A2, B1, B2}
use Rattle.ftpp_base.specs.declared.element.Slot.{Slot}
use Rattle.packet_format.specs.declared.acts.Act.{Act}
use Rattle.bit_vote.specs.Vote.{Cell}
use Rattle.config_table.specs.Table.{TableValue}
use Rattle.frame_format.specs.Frames.{reads_as, first_cell}
use Rattle.fault_script.specs.declared.Edit.{Edit}
use Rattle.fault_script.specs.Edited.{edited_frame}
use Rattle.fault_script.specs.Kept.{KeptFrame, KeptFrames, repeated}
use Rattle.fault_script.specs.Plays.{Told, kept_by_call}
use Rattle.script_text.specs.Reading.{Plan}
use Rattle.element_core.specs.Cycle.{Input, step}
use Rattle.element_core.specs.Run.{run, history}
use Rattle.element_core.specs.Sent.{frame_sent}
use Rattle.element_core.specs.Syndromes.{Relays}
use Rattle.element_core.specs.ElementValue.{CycleTold}
use Rattle.element_core.specs.declared.Rejoined.{Rejoined}
use Rattle.report_text.specs.declared.totals.Totals.{Totals}
use Rattle.report_text.specs.Report.{ReportTold, cycle_lines}
use Rattle.report_text.specs.Sums.{with_report}
use Rattle.report_text.specs.Trace.{cycle_frames}
use Rattle.element_core.specs.Told.{told_at}
use Rattle.report_text.specs.PlayedCycle.{Standing, slot_of, faulty_in, rejoined_in, acts_at, input_played, cycle_played, first_standing, standing_after, frame_between, report_played}
use Rattle.report_text.specs.PlayedRun.{standing_at, journal_below, shown_in}

-- ---- a played run is the run of its journal

-- its states, before each cycle
abbrev pub StatesOfJournal : Type 0
StatesOfJournal = (table : TableValue) (plan : Plan) (n : ℕ) → run table (journal_below table plan n) ≡ (standing_at table plan n).state

-- and what its cycles show
abbrev pub ShowsOfJournal : Type 0
ShowsOfJournal = (table : TableValue) (plan : Plan) (n : ℕ) → history table (journal_below table plan n) ≡ each_below n (shown_in table plan)

-- ---- the faulty element's row is not read

-- Two reports say the same of all but the faulty element.
pub record SaysSame (one other : ReportTold) : Type 0 where
  pub cycle : one.cycle ≡ other.cycle
  pub faulty : one.faulty ≡ other.faulty
  pub answers : one.answers ≡ other.answers
  pub count : length one.rows ≡ length other.rows
  pub rows : (e : ℕ) (d : CycleTold) → e < length one.rows → is_this one.faulty e ≡ false → slice_index_or one.rows e d ≡ slice_index_or other.rows e d

-- Then they have one text, and add the same to the totals.
abbrev pub PrintsAlike : Type 0
PrintsAlike = (rejoin : Option (ℕ × Rejoined)) (acts : List Act) (one other : ReportTold) → 2 ≤ length one.rows → SaysSame one other
    → cycle_lines rejoin acts one ≡ cycle_lines rejoin acts other

abbrev pub AddsAlike : Type 0
AddsAlike = (t : Totals) (one other : ReportTold) → 2 ≤ length one.rows → SaysSame one other → with_report t one ≡ with_report t other

-- ---- what follows a script

abbrev pub HasEdits : List Edit → Type 0
HasEdits [] = ⊥
HasEdits (edit ∷ edits) = Unit {0}

-- An adversary keeps of a round the frame of the cycle before, where an element was faulty in it, and none of a later cycle. The frame
-- names that element; there was none before the first cycle.
pub record IsKept (before : Standing) (round : Round) (kept : KeptFrames) : Type 0 where
  pub first : before.state.cycle ≡ 0 → before.own round ≡ []
  pub sender : (ne cycle : ℕ) → before.faulty ≡ Some ne → before.state.cycle ≡ suc cycle → slice_get (before.own round) 5 ≡ Some ne
  pub earlier : (one : KeptFrame) → kept.now ≡ Some one → one.cycle < before.state.cycle
  pub blank : kept.now ≡ None → kept.before ≡ None
  pub last : (ne cycle : ℕ) → before.faulty ≡ Some ne → before.state.cycle ≡ suc cycle → kept.now ≡ Some (record { cycle = cycle; bytes = before.own round })
  pub none : before.faulty ≡ None → (one : KeptFrame) → kept.now ≡ Some one → one.cycle + 1 < before.state.cycle

-- It has the edits of a script, and where there are any, it keeps those frames.
pub record PlaysScript (plan : Plan) (before : Standing) (told : Told) : Type 0 where
  pub edits : told.edits ≡ plan.edits
  pub kept : HasEdits plan.edits → (round : Round) → IsKept before round (told.kept round)

-- the kept frames of a round once a frame of it was asked for
abbrev pub kept_then : Told → Slot → List ℕ → KeptFrames
kept_then told at own = kept_by_call told.edits (told.kept at.round) at.cycle own

-- what it makes of a frame to an element
abbrev pub made_of : Told → Slot → List ℕ → ℕ → List ℕ
made_of told at own to = edited_frame told.edits at to (repeated (kept_then told at own) at.cycle own) own

-- the cell that the faulty element's frame of a round reads as at an element
abbrev pub cell_by : ℕ → Slot → Option ℕ → (ℕ → ℕ → List ℕ) → ℕ → Cell
cell_by n at None frames to = None
cell_by n at (Some ne) frames to = if ne == to then None else first_cell (reads_as n at ne (frames ne to))

-- In a cycle with this from outside the acts and the rejoin are those of the script, these frames came of the fault-free elements,
-- and those that the adversary made of the frames of the faulty one.
pub record IsPlayed (plan : Plan) (before : Standing) (told : Told) (frames : Round → ℕ → ℕ → List ℕ) (input : Input) : Type 0 where
  pub rejoined : input.rejoined ≡ rejoined_in plan before
  pub faulty : input.faulty ≡ faulty_in plan before
  pub acts : input.acts ≡ acts_at plan before.state.cycle
  pub patterns : input.patterns ≡ each_below before.state.table.n (cell_by before.state.table.n (slot_of before A1) input.faulty (frames A1))
  pub packets : input.packets ≡ each_below before.state.table.n (cell_by before.state.table.n (slot_of before B1) input.faulty (frames B1))
  pub others : (round : Round) (from to : ℕ) → from < before.state.table.n → to < before.state.table.n → from ≢ to → is_this input.faulty from ≡ false
      → frames round from to ≡ frame_sent (step before.state input).shown round from
  pub edited : (round : Round) (ne to : ℕ) → input.faulty ≡ Some ne → to < before.state.table.n → to ≢ ne
      → frames round ne to ≡ made_of told (slot_of before round) (frame_sent (step before.state input).shown round ne) to

-- **Then the cycle is that of the script**: what comes from outside, and each frame.
pub record IsOfScript (plan : Plan) (before : Standing) (frames : Round → ℕ → ℕ → List ℕ) (input : Input) : Type 0 where
  pub outside : input ≡ input_played plan before
  pub sent : (round : Round) (from to : ℕ) → from < before.state.table.n → to < before.state.table.n → from ≢ to
      → frames round from to ≡ frame_between plan before (cycle_played plan before).shown round from to

abbrev pub PlaysAsScript : Type 0
PlaysAsScript = (plan : Plan) (before : Standing) (told : Told) (frames : Round → ℕ → ℕ → List ℕ) (input : Input)
    → PlaysScript plan before told → IsPlayed plan before told frames input → IsOfScript plan before frames input

-- what its frames of A2 and B2 read as at an element
abbrev pub relays_from : Standing → Option ℕ → (Round → ℕ → ℕ → List ℕ) → ℕ → Relays
relays_from before None frames me = record { patterns = []; packets = [] }
relays_from before (Some ne) frames me = record {
  patterns = reads_as before.state.table.n (slot_of before A2) ne (frames A2 ne me);
  packets = reads_as before.state.table.n (slot_of before B2) ne (frames B2 ne me);
}

-- A report of the cycle with this from outside: what the fault-free elements tell.
pub record IsReport (before : Standing) (frames : Round → ℕ → ℕ → List ℕ) (input : Input) (report : ReportTold) : Type 0 where
  pub cycle : report.cycle ≡ before.state.cycle
  pub faulty : report.faulty ≡ input.faulty
  pub answers : report.answers ≡ (step before.state input).shown.answers
  pub count : length report.rows ≡ before.state.table.n
  pub rows : (me : ℕ) (d : CycleTold) → me < before.state.table.n → is_this input.faulty me ≡ false
      → slice_index_or report.rows me d ≡ told_at (step before.state input).shown (relays_from before input.faulty frames me) me

-- **So its text is that of the played run**, and it adds the same to the totals.
abbrev pub ReportsAsScript : Type 0
ReportsAsScript = (plan : Plan) (before : Standing) (told : Told) (frames : Round → ℕ → ℕ → List ℕ) (input : Input) (report : ReportTold)
    → PlaysScript plan before told → IsPlayed plan before told frames input → IsReport before frames input report
    → SaysSame report (report_played plan before (cycle_played plan before).shown)

-- the frames in the order of the trace are one where they are so between any two elements
abbrev pub CarriesAlike : Type 0
CarriesAlike = (n cycle : ℕ) (frames others : Round → ℕ → ℕ → List ℕ) → (n ≡ 4) ⊎ (n ≡ 5)
    → ((round : Round) (from to : ℕ) → from < n → to < n → from ≢ to → frames round from to ≡ others round from to)
    → cycle_frames n cycle frames ≡ cycle_frames n cycle others

-- What an adversary keeps once it was asked for the frames of a cycle of a script.
pub record KeepsOn (plan : Plan) (before : Standing) (old new : Told) : Type 0 where
  pub edits : new.edits ≡ old.edits
  pub none : faulty_in plan before ≡ None → (round : Round) → new.kept round ≡ old.kept round
  pub some : (ne : ℕ) → faulty_in plan before ≡ Some ne
      → (round : Round) → new.kept round ≡ kept_then old (slot_of before round) (frame_sent (cycle_played plan before).shown round ne)

-- **So it plays the script in the next cycle too.**
abbrev pub PlaysOn : Type 0
PlaysOn = (plan : Plan) (before : Standing) (old new : Told) → PlaysScript plan before old → KeepsOn plan before old new → PlaysScript plan (standing_after plan before) new

-- and in the first, where it kept no frame yet
abbrev pub PlaysFirst : Type 0
PlaysFirst = (table : TableValue) (plan : Plan) (told : Told) → told.edits ≡ plan.edits → ((round : Round) → told.kept round ≡ record { now = None; before = None })
    → PlaysScript plan (first_standing table plan) told
