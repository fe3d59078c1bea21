-- The grammar of frames, field by field, as a relation on bytes.
use Rattle.std.specs.Prelude.{◌≡◌, ℕ, ◌+◌, ◌*◌, ◌<◌, ◌≤◌, ◌^◌, ◌↔◌, List, drop, length, replicate, slice_index, slice_range, Some, None, IsSome}
use Rattle.std.specs.List.{AllByRecursion}
use Rattle.ftpp_base.specs.Lists.{cell_at}
use Rattle.ftpp_base.specs.declared.element.Round.{Round}
use Rattle.ftpp_base.specs.declared.element.Slot.{Slot}
use Rattle.packet_format.specs.Numbers.{four_bytes}
use Rattle.bit_vote.specs.Vote.{Cell}
use Rattle.frame_format.specs.Frames.{IsWide, cells_in, decoded, frame_bytes, frame_length, kind_byte, width_in}

-- the bytes of the cell of an index in a frame of a round
abbrev pub cell_slice : Round → List ℕ → ℕ → List ℕ
cell_slice round bytes i = slice_range bytes (6 + i * (width_in round + 1)) (6 + (i + 1) * (width_in round + 1))

-- the presence byte of a cell, and the payload behind it
abbrev pub presence : List ℕ → ℕ
presence bytes = slice_index bytes 0

abbrev pub payload : List ℕ → List ℕ
payload bytes = drop 1 bytes

-- an absent cell: presence 0 and a payload of zeros
pub record ShowsAbsence (width : ℕ) (bytes : List ℕ) : Type 0 where
  pub absent : presence bytes ≡ 0
  pub zeros : payload bytes ≡ replicate width 0

-- a present cell: presence 1 and the row as the payload
pub record ShowsRow (bytes row : List ℕ) : Type 0 where
  pub present : presence bytes ≡ 1
  pub row_is_payload : payload bytes ≡ row

-- These bytes show that cell.
abbrev pub ShowsCell : ℕ → List ℕ → Cell → Type 0
ShowsCell width bytes None = ShowsAbsence width bytes
ShowsCell width bytes (Some row) = ShowsRow bytes row

-- These bytes are a frame of the slot and the sender.
pub record IsInGrammar (n : ℕ) (slot : Slot) (sender : ℕ) (bytes : List ℕ) : Type 0 where
  pub long : length bytes ≡ frame_length n slot.round
  pub kind : slice_index bytes 0 ≡ kind_byte slot.round
  pub cycle : slice_range bytes 1 5 ≡ four_bytes slot.cycle
  pub sent_by : slice_index bytes 5 ≡ sender
  pub bit : (i : ℕ) → i < cells_in n slot.round → presence (cell_slice slot.round bytes i) ≤ 1
  pub zeros : (i : ℕ) → i < cells_in n slot.round → presence (cell_slice slot.round bytes i) ≡ 0 → payload (cell_slice slot.round bytes i) ≡ replicate (width_in slot.round) 0

-- These bytes are the frame of the slot, the sender and these cells.
pub record IsSpelled (n : ℕ) (slot : Slot) (sender : ℕ) (bytes : List ℕ) (cells : List Cell) : Type 0 where
  pub long : length bytes ≡ frame_length n slot.round
  pub kind : slice_index bytes 0 ≡ kind_byte slot.round
  pub cycle : slice_range bytes 1 5 ≡ four_bytes slot.cycle
  pub sent_by : slice_index bytes 5 ≡ sender
  pub count : length cells ≡ cells_in n slot.round
  pub each_cell : (i : ℕ) → i < cells_in n slot.round → ShowsCell (width_in slot.round) (cell_slice slot.round bytes i) (cell_at cells i)

-- bytes are in the grammar exactly where they are decoded
abbrev pub GrammarIsDecoded : Type 0
GrammarIsDecoded = (n : ℕ) (slot : Slot) (sender : ℕ) (bytes : List ℕ) → IsSome (decoded n slot sender bytes) ↔ IsInGrammar n slot sender bytes

-- and they are decoded to the cells that they spell
abbrev pub SpelledIsDecoded : Type 0
SpelledIsDecoded = (n : ℕ) (slot : Slot) (sender : ℕ) (bytes : List ℕ) (cells : List Cell) → (decoded n slot sender bytes ≡ Some cells) ↔ IsSpelled n slot sender bytes cells

-- as many cells as a frame of the round has, of its width, are spelled by what is encoded
abbrev pub EncodedIsSpelled : Type 0
EncodedIsSpelled = (n : ℕ) (slot : Slot) (sender : ℕ) (cells : List Cell) → length cells ≡ cells_in n slot.round → AllByRecursion (IsWide (width_in slot.round)) cells
    → IsSpelled n slot sender (frame_bytes slot sender cells) cells

-- cells are spelled by one row of bytes at most
abbrev pub OneSpelling : Type 0
OneSpelling = (n : ℕ) (slot : Slot) (sender : ℕ) (xs ys : List ℕ) (cells : List Cell) → IsSpelled n slot sender xs cells → IsSpelled n slot sender ys cells → xs ≡ ys

-- Two frames: their slots, their senders and their cells are equal.
pub record AreOneFrame (one other : Slot) (from by : ℕ) (cells others : List Cell) : Type 0 where
  pub round : one.round ≡ other.round
  pub cycle : one.cycle ≡ other.cycle
  pub sender : from ≡ by
  pub same_cells : cells ≡ others

-- bytes spell one slot, one sender and one list of cells at most
abbrev pub OneMeaning : Type 0
OneMeaning = (n : ℕ) (one other : Slot) (from by : ℕ) (bytes : List ℕ) (cells others : List Cell) → one.cycle < 2 ^ 32 → other.cycle < 2 ^ 32
    → IsSpelled n one from bytes cells → IsSpelled n other by bytes others → AreOneFrame one other from by cells others
