-- For every run there are the frames that its audit and its nodes ask for.
use Rattle.std.specs.Prelude.{ℕ, ◌<◌, List, map, Option}
use Rattle.std.specs.List.{AllByRecursion, flat_map}
use Rattle.config_table.specs.Table.{TableValue, IsValid}
use Rattle.element_core.specs.Cycle.{start}
use Rattle.element_core.specs.Run.{Journal}
use Rattle.element_core.specs.Alone.{IsInput}
use Rattle.trace_audit.specs.Known.{Frames}
use Rattle.trace_audit.specs.Trace.{Follows, listed}
use Rattle.trace_audit.specs.Laws.{AreRunFrames, IsCalm}
use Rattle.run_frames.specs.NodeInRun.{Coming, IsNodeCycle, ComeInRun}

-- of the frames of a cycle those that come to an element
abbrev pub coming_to : ℕ → Frames → Coming
coming_to me frames round sender = frames round sender me

-- There are frames for every run from a valid table: those that fault-free elements send, and of the faulty one some that read as what
-- comes from outside. They are those that come to each element that a node can take the part of.
abbrev pub FramesExist : Type 0
FramesExist = (table : TableValue) (journal : Journal) → IsValid table → AllByRecursion (IsInput table.n) journal
    → (cycles : List Frames) × AreRunFrames (start table) journal cycles
    × ((me : ℕ) → me < table.n → AllByRecursion (IsNodeCycle me) journal → ComeInRun me (start table) journal (map (coming_to me) cycles))

-- So for every run without a rejoin there is a trace, of such frames, and it follows for the faulty element of the run.
abbrev pub SomeTraceFollows : Type 0
SomeTraceFollows = (table : TableValue) (journal : Journal) (faulty : Option ℕ)
    → IsValid table → AllByRecursion (IsInput table.n) journal → AllByRecursion (IsCalm faulty) journal
    → (cycles : List Frames) × AreRunFrames (start table) journal cycles × Follows table faulty (flat_map (listed table.n) cycles)
