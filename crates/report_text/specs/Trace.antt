-- The trace of some frames, and the order of the frames of a cycle.
use Rattle.std.specs.Prelude.{ℕ, ◌<◌, ◌≤◌, List, ◌++◌, length, map}
use Rattle.frame_format.specs.declared.TheConstants.{FRAME_BYTES}
use Rattle.packet_format.specs.declared.acts.TheConstants.{MOST_ACTS}
use Rattle.std.specs.List.{flat_map, AllByRecursion}
use Rattle.ftpp_base.specs.Lists.{below, others}
use Rattle.ftpp_base.specs.declared.element.Round.{Round}
use Rattle.ftpp_base.specs.declared.element.Round.TheVariants.{A1, A2, B1, B2}
use Rattle.ftpp_base.specs.declared.element.Slot.{Slot}
use Rattle.ftpp_base.specs.declared.limits.TheConstants.{MOST_CYCLES}
use Rattle.link_fabric.specs.declared.fabrics.Carried.{Carried}
use Rattle.report_text.specs.Words.{room}
use Rattle.report_text.specs.Lines.{trace_line}

-- the line of a frame as a fabric carried it
abbrev pub carried_line : Carried → List ℕ
carried_line c = trace_line c.at.cycle c.at.round c.from c.to c.frame.items

-- the lines of frames in the order in which they were carried
abbrev pub carried_lines : List Carried → List ℕ
carried_lines frames = flat_map carried_line frames

-- A frame between two of at most five elements, in a cycle of a run.
pub record IsOfRun (c : Carried) : Type 0 where
  pub cycle : c.at.cycle < MOST_CYCLES
  pub from : c.from < 5
  pub to : c.to < 5
  pub bytes : length c.frame.items ≤ FRAME_BYTES

-- The lines of the frames of a cycle, of which there are at most 80, fit a text with no bytes.
abbrev pub CycleFits : Type 0
CycleFits = (frames : List Carried) → length frames ≤ MOST_ACTS → AllByRecursion IsOfRun frames → length (carried_lines frames) ≤ room

-- ---- the frames of a cycle, each by its round, its sender and its receiver

abbrev pub carried : Slot → (ℕ → ℕ → List ℕ) → ℕ → ℕ → Carried
carried at frames from to = record { at = at; from = from; to = to; frame = record { items = frames from to } }

-- those of a sender, the receivers ascending, and those of all n senders, ascending
abbrev pub carried_by : ℕ → Slot → (ℕ → ℕ → List ℕ) → ℕ → List Carried
carried_by n at frames from = map (carried at frames from) (others n from)

abbrev pub carried_in : ℕ → Slot → (ℕ → ℕ → List ℕ) → List Carried
carried_in n at frames = flat_map (carried_by n at frames) (below n)

-- those of the four rounds
abbrev pub cycle_frames : ℕ → ℕ → (Round → ℕ → ℕ → List ℕ) → List Carried
cycle_frames n cycle frames =
    carried_in n (record { cycle = cycle; round = A1 }) (frames A1)
    ++ carried_in n (record { cycle = cycle; round = A2 }) (frames A2)
    ++ carried_in n (record { cycle = cycle; round = B1 }) (frames B1)
    ++ carried_in n (record { cycle = cycle; round = B2 }) (frames B2)
