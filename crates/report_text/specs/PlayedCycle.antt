-- One cycle of a script: what its processors ask for, what the faulty element sends by the edits, what these frames read as, and so
-- what the cycle shows.
use Rattle.std.specs.Prelude.{ℕ, Bool, ◌==◌, List, [], ◌∷◌, map, filter, Option, Some, None, if◌then◌else◌}
use Rattle.ftpp_base.specs.Lists.{each_below, is_this}
use Rattle.ftpp_base.specs.declared.element.Round.{Round}
use Rattle.ftpp_base.specs.declared.element.Round.TheVariants.{A1, A2, B1, B2}
use Rattle.ftpp_base.specs.declared.element.Slot.{Slot}
use Rattle.packet_format.specs.declared.acts.Act.{Act}
use Rattle.bit_vote.specs.Vote.{Cell}
use Rattle.config_table.specs.Table.{TableValue}
use Rattle.frame_format.specs.Frames.{reads_as, first_cell}
use Rattle.fault_script.specs.Edited.{edited_frame}
use Rattle.script_text.specs.Reading.{Plan}
use Rattle.element_core.specs.Cycle.{State, Input, Shown, Cycle, start, step}
use Rattle.element_core.specs.Sent.{frame_sent}
use Rattle.element_core.specs.Syndromes.{Relays}
use Rattle.element_core.specs.ElementValue.{CycleTold}
use Rattle.element_core.specs.Told.{told_at}
use Rattle.element_core.specs.declared.Rejoined.{Rejoined}
use Rattle.element_core.specs.declared.Rejoined.TheVariants.{Taken}
use Rattle.report_text.specs.Report.{ReportTold}

-- ---- what the script says of a cycle

-- whether an entry is of this cycle
abbrev pub is_of_cycle : {A : Type 0} → ℕ → ℕ × A → Bool
is_of_cycle cycle entry = entry.0 == cycle

-- the acts of a cycle, in script order
abbrev pub acts_at : Plan → ℕ → List Act
acts_at plan cycle = map (λ (entry : ℕ × Act). entry.1) (filter (is_of_cycle cycle) plan.acts)

abbrev pub first_next : List (ℕ × Option ℕ) → Option (Option ℕ)
first_next [] = None
first_next (entry ∷ entries) = Some entry.1

-- who is faulty after the rejoin just before a cycle, where the script has one there
abbrev pub next_at : Plan → ℕ → Option (Option ℕ)
next_at plan cycle = first_next (filter (is_of_cycle cycle) plan.rejoins)

-- the element that is faulty in a cycle, by the one before it: the same, unless that one rejoins
abbrev pub faulty_after : Option ℕ → Option (Option ℕ) → Option ℕ
faulty_after before None = before
faulty_after before (Some next) = next

-- the element that rejoins just before a cycle
abbrev pub rejoined_by : Option ℕ → Option (Option ℕ) → Option ℕ
rejoined_by before None = None
rejoined_by before (Some next) = before

-- ---- before a cycle

-- The state of the run, the element that was faulty in the cycle before (from the start on, before the first), and the frames that its
-- core made in that cycle, which no edit changed; no bytes before the first cycle.
pub record Standing : Type 0 where
  pub state : State
  pub faulty : Option ℕ
  pub own : Round → List ℕ

abbrev pub first_standing : TableValue → Plan → Standing
first_standing table plan = record { state = start table; faulty = plan.faulty; own = λ round. [] }

abbrev pub faulty_in : Plan → Standing → Option ℕ
faulty_in plan before = faulty_after before.faulty (next_at plan before.state.cycle)

abbrev pub rejoined_in : Plan → Standing → Option ℕ
rejoined_in plan before = rejoined_by before.faulty (next_at plan before.state.cycle)

-- ---- what the faulty element sends

abbrev pub slot_of : Standing → Round → Slot
slot_of before round = record { cycle = before.state.cycle; round = round }

-- the frame of it that a repeat sends: that of the cycle before, where the same element was faulty in it
abbrev pub earlier_frame : Standing → ℕ → Round → List ℕ
earlier_frame before ne round = if is_this before.faulty ne then before.own round else []

-- what the edits make of its frame `own` of a round to another element
abbrev pub frame_played : Plan → Standing → ℕ → Round → List ℕ → ℕ → List ℕ
frame_played plan before ne round own to = edited_frame plan.edits (slot_of before round) to (earlier_frame before ne round) own

-- the cells that bytes from it read as
abbrev pub read_played : Standing → Round → ℕ → List ℕ → List Cell
read_played before round ne bytes = reads_as before.state.table.n (slot_of before round) ne bytes

-- what its frame of a first round reads as at an element, in a cycle that shows this
abbrev pub cell_played : Plan → Standing → Shown → Round → Option ℕ → ℕ → Cell
cell_played plan before shown round None to = None
cell_played plan before shown round (Some ne) to =
    if ne == to then None else first_cell (read_played before round ne (frame_played plan before ne round (frame_sent shown round ne) to))

abbrev pub first_cells : Plan → Standing → Shown → Round → List Cell
first_cells plan before shown round = each_below before.state.table.n (cell_played plan before shown round (faulty_in plan before))

-- what its frames of A2 and B2 read as at an element
abbrev pub relays_by : Plan → Standing → Shown → Option ℕ → ℕ → Relays
relays_by plan before shown None me = record { patterns = []; packets = [] }
relays_by plan before shown (Some ne) me = record {
  patterns = read_played before A2 ne (frame_played plan before ne A2 (frame_sent shown A2 ne) me);
  packets = read_played before B2 ne (frame_played plan before ne B2 (frame_sent shown B2 ne) me);
}

-- ---- what comes from outside

-- all but what the faulty element sends
abbrev pub input_asked : Plan → Standing → Input
input_asked plan before = record {
  rejoined = rejoined_in plan before;
  faulty = faulty_in plan before;
  acts = acts_at plan before.state.cycle;
  patterns = [];
  packets = [];
}

-- with what it sends in A1, which is made of its own queues alone
abbrev pub with_patterns : Plan → Standing → Input → Input
with_patterns plan before input = record {
  rejoined = input.rejoined;
  faulty = input.faulty;
  acts = input.acts;
  patterns = first_cells plan before (step before.state input).shown A1;
  packets = input.packets;
}

-- and with what it sends in B1, which follows from the decision
abbrev pub with_packets : Plan → Standing → Input → Input
with_packets plan before input = record {
  rejoined = input.rejoined;
  faulty = input.faulty;
  acts = input.acts;
  patterns = input.patterns;
  packets = first_cells plan before (step before.state input).shown B1;
}

unfoldable pub input_played : Plan → Standing → Input
input_played plan before = with_packets plan before (with_patterns plan before (input_asked plan before))

-- ---- the cycle

unfoldable pub cycle_played : Plan → Standing → Cycle
cycle_played plan before = step before.state (input_played plan before)

-- the frames that the core of the faulty element made
abbrev pub own_frames : Shown → Option ℕ → Round → List ℕ
own_frames shown None round = []
own_frames shown (Some ne) round = frame_sent shown round ne

-- after it
abbrev pub standing_with : Plan → Standing → Cycle → Standing
standing_with plan before cycle = record {
  state = cycle.state;
  faulty = faulty_in plan before;
  own = own_frames cycle.shown (faulty_in plan before);
}

abbrev pub standing_after : Plan → Standing → Standing
standing_after plan before = standing_with plan before (cycle_played plan before)

-- ---- what is sent and told in a cycle that shows this

-- the frame of a round from an element to another: what its core makes, and of the faulty one what the edits make of that
abbrev pub frame_between : Plan → Standing → Shown → Round → ℕ → ℕ → List ℕ
frame_between plan before shown round from to =
    if is_this (faulty_in plan before) from
    then frame_played plan before from round (frame_sent shown round from) to
    else frame_sent shown round from

-- what an element tells
abbrev pub told_played : Plan → Standing → Shown → ℕ → CycleTold
told_played plan before shown me = told_at shown (relays_by plan before shown (faulty_in plan before) me) me

-- the report
abbrev pub report_played : Plan → Standing → Shown → ReportTold
report_played plan before shown = record {
  cycle = before.state.cycle;
  faulty = faulty_in plan before;
  answers = shown.answers;
  rows = each_below before.state.table.n (told_played plan before shown);
}

-- a rejoin of a played run is taken
abbrev pub taken_by : Option ℕ → Option (ℕ × Rejoined)
taken_by None = None
taken_by (Some ne) = Some (ne, Taken)

abbrev pub rejoin_played : Plan → Standing → Option (ℕ × Rejoined)
rejoin_played plan before = taken_by (rejoined_in plan before)
