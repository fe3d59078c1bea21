-- The text of a trace is read back to its frames.
use Rattle.std.specs.Prelude.{◌≡◌, ◌≢◌, ℕ, ◌+◌, ◌<◌, ◌≤◌, ◌⊎◌, List, [], ◌∷◌, ◌++◌, length, Ok}
use Rattle.frame_format.specs.declared.TheConstants.{FRAME_BYTES}
use Rattle.std.specs.List.{AllByRecursion, flat_map}
use Rattle.ftpp_base.specs.declared.element.Round.{Round}
use Rattle.ftpp_base.specs.declared.limits.TheConstants.{MOST_CYCLES}
use Rattle.link_fabric.specs.declared.fabrics.Carried.{Carried}
use Rattle.script_text.specs.Printing.{AreBytes}
use Rattle.report_text.specs.Trace.{carried_lines, cycle_frames}
use Rattle.trace_audit.specs.Known.{Frames}
use Rattle.trace_audit.specs.Trace.{listed}
use Rattle.trace_audit.specs.AuditedTrace.{trace_of}

-- A frame that a line can spell has at most 331 bytes.
pub record IsSpelled (frame : List ℕ) : Type 0 where
  pub bytes : AreBytes frame
  pub short : length frame ≤ FRAME_BYTES

-- So are the frames of a cycle, from each of n elements to each other.
abbrev pub AreSpelled : ℕ → Frames → Type 0
AreSpelled n frames = (round : Round) (from to : ℕ) → from < n → to < n → from ≢ to → IsSpelled (frames round from to)

-- the frames of some cycles, from the cycle of a number on, as they are carried
abbrev pub carried_from : ℕ → ℕ → List Frames → List Carried
carried_from n cycle [] = []
carried_from n cycle (frames ∷ more) = cycle_frames n cycle frames ++ carried_from n (cycle + 1) more

-- **The text of a trace is read to its frames**, one for one and in their order, whatever is in them.
abbrev pub ReadsBack : Type 0
ReadsBack = (n : ℕ) (cycles : List Frames) → (n ≡ 4) ⊎ (n ≡ 5) → 1 ≤ length cycles → length cycles ≤ MOST_CYCLES → AllByRecursion (AreSpelled n) cycles
    → trace_of n (carried_lines (carried_from n 0 cycles)) ≡ Ok (flat_map (listed n) cycles)
