use Rattle.std.proofs.Common.{◌≡◌, drop}
use Rattle.std.specs.List.{fold}
use Rattle.std.specs.Prelude.{filter}
use Rattle.fault_script.specs.Edited.{is_of, edited_more}
use Rattle.fault_script.proofs.players.play.Given as goal

abbrev pub invariant-loop-edit : goal.invariant-loop-edit
invariant-loop-edit l =
    fold (edited_more l.earlier) l.frame.items (filter (is_of l.at l.to) (drop l.edit-index l.edits)) ≡ fold (edited_more l.earlier) l.initial.frame.items (filter (is_of l.at l.to) l.edits)
