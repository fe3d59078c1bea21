-- A run whose elements can be nodes, and what the laws give of it.
use Rattle.std.proofs.Common.{◌≡◌, refl, arith, map}
use Rattle.std.specs.List.{AllByRecursion}
use Rattle.element_core.specs.Cycle.{start}
use Rattle.element_core.proofs.WorkedParts.{four_elements, four_elements_valid}
use Rattle.element_node.specs.Node.{node}
use Rattle.element_node.specs.Node.Stopped.{WaitsIn}
use Rattle.element_node.specs.Whole.{input_bytes}
use Rattle.whole_run.proofs.WorkedSkew.{late_second, in_shape}
use Rattle.run_frames.specs.NodeInRun.{IsNodeCycle, node_inputs, text_in_run}
use Rattle.run_frames.specs.Frames.{coming_to}
use Rattle.run_frames.proofs.Existing.{frames_exist}
use Rattle.run_frames.proofs.NodeRun.{node_in_run}

-- element 0 is fault-free in the run, and posts in its first cycle
node_cycles : AllByRecursion (IsNodeCycle 0) late_second
node_cycles = (
  record { fault_free = refl; stays = refl; few = omega arith; ports = (omega arith, tt) },
  (
    record { fault_free = refl; stays = refl; few = omega arith; ports = tt },
    (record { fault_free = refl; stays = refl; few = omega arith; ports = tt }, tt),
  ),
)

-- so a node takes its part in it
pub node_at_work : node 0 four_elements 3 (input_bytes 0 (node_inputs 4 0 late_second (map (coming_to 0) (frames_exist four_elements late_second four_elements_valid in_shape).0)))
    ≡ WaitsIn 3 (text_in_run 0 (start four_elements) late_second)
node_at_work =
    let frames = frames_exist four_elements late_second four_elements_valid in_shape in
    node_in_run four_elements late_second (map (coming_to 0) frames.0) 0 four_elements_valid in_shape (omega arith) (frames.2 0 (omega arith) node_cycles)
