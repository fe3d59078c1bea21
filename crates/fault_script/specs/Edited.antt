-- The frame that edits make of a frame.
use Rattle.std.specs.Prelude.{◌≡◌, ℕ, Bool, true, false, ◌&&◌, ◌==◌, nat_le, nat_lt, List, [], ◌∷◌, filter, slice_set, slice_index, bit_xor, Option, Some, None}
use Rattle.std.specs.List.{fold, list_all}
use Rattle.ftpp_base.specs.declared.element.Round.{Round}
use Rattle.ftpp_base.specs.declared.element.Round.TheVariants.{A1, A2, B1, B2}
use Rattle.ftpp_base.specs.declared.element.Slot.{Slot}
use Rattle.fault_script.specs.declared.EditKind.{EditKind}
use Rattle.fault_script.specs.declared.EditKind.TheVariants.{Drop, Flip, Send, Repeat}
use Rattle.fault_script.specs.declared.Edit.{Edit}

-- whether two rounds are one
abbrev pub same_round : Round → Round → Bool
same_round A1 A1 = true
same_round A1 other = false
same_round A2 A2 = true
same_round A2 other = false
same_round B1 B1 = true
same_round B1 other = false
same_round B2 B2 = true
same_round B2 other = false

-- whether an edit names this round, or any
abbrev pub names_round : Option Round → Round → Bool
names_round None round = true
names_round (Some one) round = same_round one round

-- whether an edit names this receiver, or all
abbrev pub names_receiver : Option ℕ → ℕ → Bool
names_receiver None to = true
names_receiver (Some one) to = one == to

-- whether an edit is of the frame of a slot to a receiver
unfoldable pub is_of : Slot → ℕ → Edit → Bool
is_of at to edit = edit.cycle == at.cycle && names_round edit.round at.round && names_receiver edit.to to

-- the frame with the byte at an offset changed by exclusive or; past the end there is none
abbrev pub flipped : List ℕ → ℕ → ℕ → List ℕ
flipped frame offset bits = slice_set frame offset (bit_xor (slice_index frame offset) bits)

-- what an edit makes of a frame; `earlier` is the frame that a repeat sends
abbrev pub edited_by : EditKind → List ℕ → List ℕ → List ℕ
edited_by Drop earlier frame = []
edited_by (Flip offset bits) earlier frame = flipped frame offset bits
edited_by (Send bytes) earlier frame = bytes.items
edited_by Repeat earlier frame = earlier

abbrev pub edited_more : List ℕ → List ℕ → Edit → List ℕ
edited_more earlier frame edit = edited_by edit.what earlier frame

-- what the edits of a frame make of it, in order, each of what the ones before left
unfoldable pub edited_frame : List Edit → Slot → ℕ → List ℕ → List ℕ → List ℕ
edited_frame edits at to earlier frame = fold (edited_more earlier) frame (filter (is_of at to) edits)

-- whether the cycles of edits do not fall, from a cycle on
abbrev pub never_fall : ℕ → List Edit → Bool
never_fall from [] = true
never_fall from (edit ∷ edits) = nat_le from edit.cycle && never_fall edit.cycle edits

-- whether all edits are of cycles before this one
abbrev pub all_before : ℕ → List Edit → Bool
all_before cycle edits = list_all (λ edit. nat_lt edit.cycle cycle) edits
