-- A line can spell each frame that an element sends, and each that edits make of such frames.
use Rattle.std.proofs.Common.{ℕ, zero, suc, ◌<◌, List, [], ◌∷◌, map, arith}
use Rattle.std.specs.Prelude.{slice_index, slice_set, bit_xor, filter, Some, None}
use Rattle.std.specs.List.{AllByRecursion, flat_map, fold}
use Rattle.std.proofs.lemmas.List.{length-set}
use Rattle.std.proofs.lemmas.Nat.{xor_of_8}
use Rattle.ftpp_base.specs.Lists.{below}
use Rattle.ftpp_base.specs.declared.element.Round.{Round}
use Rattle.ftpp_base.specs.declared.element.Round.TheVariants.{A1, A2, B1, B2}
use Rattle.ftpp_base.specs.declared.element.Slot.{Slot}
use Rattle.ftpp_base.proofs.Among.{all-get_or, all-append, all-replicate, all-filter, either}
use Rattle.bit_vote.specs.Vote.{Cell, IsCell}
use Rattle.bit_vote.specs.Agreed.{copy_at}
use Rattle.frame_format.specs.Frames.{kind_byte, width_in, cell_bytes, frame_bytes}
use Rattle.frame_format.proofs.Decoded.{length-frame}
use Rattle.fault_script.specs.declared.Edit.{Edit}
use Rattle.fault_script.specs.declared.EditKind.{EditKind}
use Rattle.fault_script.specs.declared.EditKind.TheVariants.{Drop, Flip, Send, Repeat}
use Rattle.fault_script.specs.Edited.{is_of, edited_by, edited_more, edited_frame}
use Rattle.script_text.specs.Printing.{AreBytes, KindFits}
use Rattle.element_core.specs.Cycle.{State, Input, Shown, step}
use Rattle.element_core.specs.Sent.{is_relayed, relayed_packet, cells_sent, frame_sent}
use Rattle.element_core.specs.Alone.{IsSound, IsInput}
use Rattle.element_core.proofs.AloneLaws.{size_of}
use Rattle.run_frames.proofs.Existing.{IsByte, all_bytes}
use Rattle.run_frames.proofs.SentFrames.{HasCells, has_cells, copy_cell, frame_fits}
use Rattle.run_frames.proofs.NodeCycle.{longest}
use Rattle.audited_runs.specs.ReadBack.{IsSpelled}

-- ---- bytes

each_byte : (bytes : List ℕ) → AllByRecursion IsByte bytes → AreBytes bytes
each_byte bytes a k = all-get_or IsByte bytes k 0 a (omega arith)

cells_small : (wide : ℕ) (cells : List Cell) → AllByRecursion (IsCell wide) cells → AllByRecursion IsByte (flat_map (cell_bytes wide) cells)
cells_small wide [] are = tt
cells_small wide (cell ∷ cells) are = all-append IsByte (cell_bytes wide cell) (flat_map (cell_bytes wide) cells) (one cell are.0) (cells_small wide cells are.1) where
  one : (cell : Cell) → IsCell wide cell → AllByRecursion IsByte (cell_bytes wide cell)
  one None is = (omega arith, all-replicate IsByte wide 0 (omega arith))
  one (Some row) is = (omega arith, all_bytes row is.bytes)

kind_small : (round : Round) → kind_byte round < 256
kind_small A1 = omega arith
kind_small A2 = omega arith
kind_small B1 = omega arith
kind_small B2 = omega arith

-- a frame of cells of bytes
frame_small : (slot : Slot) (sender : ℕ) (cells : List Cell) → sender < 256 → AllByRecursion (IsCell (width_in slot.round)) cells → AllByRecursion IsByte (frame_bytes slot sender cells)
frame_small slot sender cells l are =
    (kind_small slot.round, (omega arith, (omega arith, (omega arith, (omega arith, (l, cells_small (width_in slot.round) cells are))))))

-- ---- what elements send

pub all_made : {A : Type 0} (P : A → Type 0) (f : ℕ → A) (ks : List ℕ) → ((k : ℕ) → P (f k)) → AllByRecursion P (map f ks)
all_made P f [] h = tt
all_made P f (k ∷ ks) h = (h k, all_made P f ks h)

sent_cells : (shown : Shown) (round : Round) (me : ℕ) → HasCells shown → AllByRecursion (IsCell (width_in round)) (cells_sent shown round me)
sent_cells shown A1 me is = (is.pattern me, tt)
sent_cells shown A2 me is = all_made (IsCell 32) (copy_at shown.patterns me) (below shown.table.n) (λ k. copy_cell 32 shown.patterns me k (is.pattern_heard me) (is.pattern k))
sent_cells shown B1 me is = (is.packet me, tt)
sent_cells shown B2 me is =
    all_made (IsCell 64) (relayed_packet shown me) (below shown.table.n)
    (λ k. either (IsCell 64) (is_relayed shown.decision k) (copy_at shown.packets me k) None (copy_cell 64 shown.packets me k (is.packet_heard me) (is.packet k)) tt)

-- a frame of a run
pub sent_spelled : (s : State) (input : Input) (round : Round) (me : ℕ) → IsSound s → IsInput s.table.n input → me < 256 → IsSpelled (frame_sent (step s input).shown round me)
sent_spelled s input round me sound is l =
    let shown = (step s input).shown in
    let slot : Slot = record { cycle = shown.cycle; round = round } in
    let long = length-frame s.table.n (record { cycle = s.cycle; round = round }) me (frame_sent shown round me) (cells_sent shown round me) (frame_fits s input round me sound is) in
    let most = longest s.table.n round (size_of s sound) in
    record {
      bytes = each_byte (frame_sent shown round me) (frame_small slot me (cells_sent shown round me) l (sent_cells shown round me (has_cells s input sound is)));
      short = omega arith;
    }

-- ---- what edits make of a frame

pub none_spelled : IsSpelled []
none_spelled = record { bytes = λ k. omega arith; short = omega arith }

all_set : (bytes : List ℕ) (i b : ℕ) → AllByRecursion IsByte bytes → b < 256 → AllByRecursion IsByte (slice_set bytes i b)
all_set [] i b a l = tt
all_set (x ∷ xs) zero b a l = (l, a.1)
all_set (x ∷ xs) (suc i) b a l = (a.0, all_set xs i b a.1 l)

edit_spelled : (what : EditKind) (earlier frame : List ℕ) → KindFits what → IsSpelled earlier → IsSpelled frame → IsSpelled (edited_by what earlier frame)
edit_spelled Drop earlier frame fits e f = none_spelled
edit_spelled Repeat earlier frame fits e f = e
edit_spelled (Send bytes) earlier frame fits e f = record { bytes = fits.1; short = fits.0 }
edit_spelled (Flip offset bits) earlier frame fits e f =
    let byte = bit_xor (slice_index frame offset) bits in
    let long = length-set frame offset byte in
    let short = f.short in
    record {
      bytes = each_byte (slice_set frame offset byte) (all_set frame offset byte (all_bytes frame f.bytes) (xor_of_8 (slice_index frame offset) bits (f.bytes offset) fits.1));
      short = omega arith;
    }

abbrev pub FitsEdit : Edit → Type 0
FitsEdit edit = KindFits edit.what

edits_spelled : (edits : List Edit) (earlier frame : List ℕ) → AllByRecursion FitsEdit edits → IsSpelled earlier → IsSpelled frame → IsSpelled (fold (edited_more earlier) frame edits)
edits_spelled [] earlier frame fits e f = f
edits_spelled (edit ∷ edits) earlier frame fits e f = edits_spelled edits earlier (edited_more earlier frame edit) fits.1 e (edit_spelled edit.what earlier frame fits.0 e f)

pub edited_spelled : (edits : List Edit) (at : Slot) (to : ℕ) (earlier own : List ℕ) → AllByRecursion FitsEdit edits → IsSpelled earlier → IsSpelled own → IsSpelled (edited_frame edits at to earlier own)
unfolding edited_frame
edited_spelled edits at to earlier own fits e f = edits_spelled (filter (is_of at to) edits) earlier own (all-filter FitsEdit (is_of at to) edits fits) e f
