-- The bytes of a frame, and the cells that any bytes read as.
use Rattle.std.specs.Prelude.{◌≡◌, ℕ, ◌+◌, ◌*◌, ◌&&◌, ◌==◌, List, [], ◌∷◌, ◌++◌, drop, length, replicate, slice_index, slice_range, Option, Some, None, unwrap_or, if◌then◌else◌}
use Rattle.std.specs.List.{flat_map, AllByRecursion}
use Rattle.ftpp_base.specs.Lists.{each_below, cell_at}
use Rattle.ftpp_base.specs.declared.element.Round.{Round}
use Rattle.ftpp_base.specs.declared.element.Round.TheVariants.{A1, A2, B1, B2}
use Rattle.ftpp_base.specs.declared.element.Slot.{Slot}
use Rattle.packet_format.specs.Numbers.{four_bytes}
use Rattle.packet_format.specs.Packets.{same_bytes}
use Rattle.bit_vote.specs.Vote.{Cell}

abbrev pub kind_byte : Round → ℕ
kind_byte A1 = 0xa1
kind_byte A2 = 0xa2
kind_byte B1 = 0xb1
kind_byte B2 = 0xb2

-- how many bytes a row of the round has
abbrev pub width_in : Round → ℕ
width_in A1 = 32
width_in A2 = 32
width_in B1 = 64
width_in B2 = 64

-- how many cells a frame of the round has among n elements
abbrev pub cells_in : ℕ → Round → ℕ
cells_in n A1 = 1
cells_in n A2 = n
cells_in n B1 = 1
cells_in n B2 = n

-- a cell: 1 and the row, or 0 and zeros
abbrev pub cell_bytes : ℕ → Cell → List ℕ
cell_bytes width None = 0 ∷ replicate width 0
cell_bytes width (Some row) = 1 ∷ row

-- whether a frame of the round has one cell, or one for each element
abbrev pub IsOfOne : Round → Type 0
IsOfOne A1 = Unit {0}
IsOfOne A2 = ⊥
IsOfOne B1 = Unit {0}
IsOfOne B2 = ⊥

abbrev pub IsOfAll : Round → Type 0
IsOfAll A1 = ⊥
IsOfAll A2 = Unit {0}
IsOfAll B1 = ⊥
IsOfAll B2 = Unit {0}

-- the six bytes before the cells
abbrev pub frame_head : Slot → ℕ → List ℕ
frame_head slot sender = kind_byte slot.round ∷ four_bytes slot.cycle ++ sender ∷ []

-- the bytes of a frame
abbrev pub frame_bytes : Slot → ℕ → List Cell → List ℕ
frame_bytes slot sender cells = kind_byte slot.round ∷ four_bytes slot.cycle ++ sender ∷ flat_map (cell_bytes (width_in slot.round)) cells

-- a cell that is absent or has a row of the width
abbrev pub IsWide : ℕ → Cell → Type 0
IsWide width None = Unit {0}
IsWide width (Some row) = length row ≡ width

-- These bytes are that many cells of a width, one after the other.
pub record AreCells (count width : ℕ) (bytes : List ℕ) (cells : List Cell) : Type 0 where
  pub number : length cells ≡ count
  pub wide : AllByRecursion (IsWide width) cells
  pub spelled : bytes ≡ flat_map (cell_bytes width) cells

-- These bytes are the frame of those cells.
pub record IsFrame (n : ℕ) (slot : Slot) (sender : ℕ) (bytes : List ℕ) (cells : List Cell) : Type 0 where
  pub spelled : bytes ≡ frame_bytes slot sender cells
  pub count : length cells ≡ cells_in n slot.round
  pub wide : AllByRecursion (IsWide (width_in slot.round)) cells

abbrev pub frame_length : ℕ → Round → ℕ
frame_length n round = 6 + cells_in n round * (width_in round + 1)

-- the only cell that these bytes can be
abbrev pub cell_from : List ℕ → Cell
cell_from bytes = if slice_index bytes 0 == 0 then None else Some (drop 1 bytes)

-- the only cells that a frame of these bytes can have
abbrev pub cells_from : ℕ → Round → List ℕ → List Cell
cells_from n round bytes = each_below (cells_in n round)
    (λ i. cell_from (slice_range bytes (6 + i * (width_in round + 1)) (6 + (i + 1) * (width_in round + 1))))

-- the cells of a frame, and none outside the grammar
unfoldable pub decoded : ℕ → Slot → ℕ → List ℕ → Option (List Cell)
decoded n slot sender bytes =
    if length bytes == frame_length n slot.round && same_bytes bytes (frame_bytes slot sender (cells_from n slot.round bytes))
    then Some (cells_from n slot.round bytes)
    else None

-- what any bytes read as: outside the grammar all cells are absent
abbrev pub reads_as : ℕ → Slot → ℕ → List ℕ → List Cell
reads_as n slot sender bytes = unwrap_or (decoded n slot sender bytes) (replicate (cells_in n slot.round) None)

-- the first of the cells, which is the only one in A1 and B1
abbrev pub first_cell : List Cell → Cell
first_cell cells = cell_at cells 0
