use Rattle.std.proofs.Common.{◌≡◌, ℕ, ◌≤◌, ◌-◌, List, [], Option, take}
use Rattle.std.specs.Prelude.{slice_index_or}
use Rattle.link_fabric.specs.Rows.{rows_of}
use Rattle.element_node.specs.Progress.{Between}
use Rattle.element_node.specs.Input.{read_frames, read_frames_from}
use Rattle.element_node.proofs.frames.take_frames.Given as goal

abbrev pub invariant-loop-k : goal.invariant-loop-k
invariant-loop-k g l =
    (l.link.owner ≡ l.fn.link.owner)
    × (slice_index_or (rows_of l.link.came.items) l.fn.link.owner [] ≡ [])
    × ((w : Option (List ℕ)) → Between (read_frames g.row.N l.fn.link.owner) (read_frames_from l.fn.link.owner (g.row.N - l.k) (take l.k (rows_of l.link.came.items))) (g.S.Source.left l.fn.input) (g.S.Source.left l.input) w w)
    × (g.S.Source.faults l.fn.input ≤ g.S.Source.faults l.input)
