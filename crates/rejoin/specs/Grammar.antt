-- The agreed state as a relation on its bytes, field by field.
use Rattle.std.specs.Prelude.{◌≡◌, ◌↔◌, ℕ, ◌+◌, ◌*◌, ◌<◌, ◌≤◌, List, length, replicate, slice_index, slice_index_or, slice_range, Option, Some, None}
use Rattle.std.specs.List.{zip}
use Rattle.ftpp_base.specs.declared.element.Proc.{Proc}
use Rattle.packet_format.specs.Numbers.{two_bytes, four_bytes}
use Rattle.packet_format.specs.declared.Descriptor.{Descriptor}
use Rattle.config_table.specs.declared.groups.Group.{Group}
use Rattle.config_table.specs.declared.decisions.StateRow.{StateRow}
use Rattle.config_table.specs.Groups.{members_of}
use Rattle.config_table.specs.Table.{TableValue}
use Rattle.rejoin.specs.State.{IsInRange, IsState, state_bytes}

-- the bytes of the group of an index, and those of its row
abbrev pub group_slice : List ℕ → ℕ → List ℕ
group_slice bytes i = slice_range bytes (7 + 47 * i) (26 + 47 * i)

abbrev pub row_slice : List ℕ → ℕ → List ℕ
row_slice bytes i = slice_range bytes (26 + 47 * i) (54 + 47 * i)

-- the member of an index; past the last one there is none, which is shown as element 0 and port 0
abbrev pub member_or_zeros : List Proc → ℕ → Proc
member_or_zeros members k = slice_index_or members k (record { ne = 0; port = 0 })

-- These 19 bytes show that group.
pub record ShowsGroup (bytes : List ℕ) (g : Group) : Type 0 where
  pub number : slice_index bytes 0 ≡ g.vid
  pub size : slice_index bytes 1 ≡ length (members_of g)
  pub element : (k : ℕ) → k < 4 → slice_index bytes (2 + 2 * k) ≡ (member_or_zeros (members_of g) k).ne
  pub port : (k : ℕ) → k < 4 → slice_index bytes (3 + 2 * k) ≡ (member_or_zeros (members_of g) k).port
  pub masked : slice_index bytes 10 ≡ g.masked.bits
  pub ts : slice_range bytes 11 13 ≡ two_bytes g.ts
  pub tr : slice_range bytes 13 15 ≡ two_bytes g.tr
  pub tx : slice_range bytes 15 17 ≡ two_bytes g.tx
  pub outs : slice_index bytes 17 ≡ g.outs
  pub ins : slice_index bytes 18 ≡ g.ins

-- The first 12 bytes of a row show this request: 1, descriptor, since and starved.
pub record ShowsWaiting (bytes : List ℕ) (desc : Descriptor) (since starved : ℕ) : Type 0 where
  pub present : slice_index bytes 0 ≡ 1
  pub dest : slice_index bytes 1 ≡ desc.dest
  pub class : slice_index bytes 2 ≡ desc.class
  pub source : slice_index bytes 3 ≡ desc.source
  pub from : slice_range bytes 4 8 ≡ four_bytes since
  pub without_space : slice_range bytes 8 12 ≡ four_bytes starved

-- where there is no request they are 0
abbrev pub ShowsRequest : List ℕ → Option (Descriptor × ℕ × ℕ) → Type 0
ShowsRequest bytes None = slice_range bytes 0 12 ≡ replicate 12 0
ShowsRequest bytes (Some (desc, since, starved)) = ShowsWaiting bytes desc since starved

-- These 28 bytes show that row.
pub record ShowsRow (bytes : List ℕ) (row : StateRow) : Type 0 where
  pub request : ShowsRequest bytes row.request
  pub lag : (k : ℕ) → k < 4 → slice_range bytes (12 + 4 * k) (16 + 4 * k) ≡ four_bytes (slice_index row.lags k)

-- The bytes of an index show a group and its row.
pub record ShowsSlot (bytes : List ℕ) (i : ℕ) (pair : Group × StateRow) : Type 0 where
  pub group : ShowsGroup (group_slice bytes i) pair.0
  pub row : ShowsRow (row_slice bytes i) pair.1

-- These bytes show that state: numbers in their ranges, cycle, elements, manager, number of groups, each group with its row, and zeros behind them.
pub record IsSpelled (bytes : List ℕ) (now : ℕ) (table : TableValue) (rows : List StateRow) : Type 0 where
  pub in_range : IsInRange now table rows
  pub long : length bytes ≡ 1887
  pub cycle : slice_range bytes 0 4 ≡ four_bytes now
  pub elements : slice_index bytes 4 ≡ table.n
  pub manager : slice_index bytes 5 ≡ table.manager
  pub count : slice_index bytes 6 ≡ length table.groups
  pub slot : (i : ℕ) (d : Group × StateRow) → i < length table.groups → ShowsSlot bytes i (slice_index_or (zip table.groups rows) i d)
  pub zeros : (i : ℕ) → 7 + 47 * length table.groups ≤ i → slice_index bytes i ≡ 0

-- bytes are a state exactly where their fields show it
abbrev pub StateIsSpelled : Type 0
StateIsSpelled = (bytes : List ℕ) (now : ℕ) (table : TableValue) (rows : List StateRow) → IsState bytes now table rows ↔ IsSpelled bytes now table rows

-- what is encoded shows the state
abbrev pub EncodedIsSpelled : Type 0
EncodedIsSpelled = (now : ℕ) (table : TableValue) (rows : List StateRow) → IsInRange now table rows → IsSpelled (state_bytes now table rows) now table rows
