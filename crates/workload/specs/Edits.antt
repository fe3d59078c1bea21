-- What the faulty element does to its frames in a cycle of the workload.
use Rattle.std.specs.Prelude.{ℕ, ◌+◌, ◌*◌, ◌%◌, ◌==◌, Option, Some, None, if◌then◌else◌}
use Rattle.ftpp_base.specs.declared.element.Round.{Round}
use Rattle.ftpp_base.specs.declared.element.Round.TheVariants.{A1, A2, B1}
use Rattle.fault_script.specs.declared.Edit.{Edit}
use Rattle.fault_script.specs.declared.EditKind.{EditKind}
use Rattle.fault_script.specs.declared.EditKind.TheVariants.{Drop, Flip, Repeat}
use Rattle.workload.specs.declared.draws.Draws.{Draws}

-- an edit of the frames of a round, or of any, to an element, or to all
abbrev pub edit : ℕ → Option Round → Option ℕ → EditKind → Option Edit
edit c round to what = Some (record { cycle = c; round = round; to = to; what = what })

-- another element than the faulty one
abbrev pub other_than : ℕ → Draws → ℕ
other_than f d = (f + 1 + d.to) % 5

-- at most one edit, by what was drawn
unfoldable pub edit_of : ℕ → ℕ → Draws → Option Edit
edit_of c f d =
    if d.edit == 0 then edit c None None Drop
    else if d.edit == 1 then edit c (Some A1) (Some (other_than f d)) (Flip (7 + 4 * d.place) 0x01)
    else if d.edit == 2 then edit c (Some A1) None (Flip (7 + 4 * d.place) 0x02)
    else if d.edit == 3 then edit c (Some A2) (Some (other_than f d)) (Flip (7 + 4 * d.place) 0x03)
    else if d.edit == 4 then edit c (Some B1) (Some (other_than f d)) (Flip (7 + d.place) 0xff)
    else if d.edit == 5 then edit c (Some A1) None Repeat
    else None
