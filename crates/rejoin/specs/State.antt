-- The agreed state at the beginning of a cycle as bytes: seven bytes, and 40 slots of 47 bytes.
use Rattle.std.specs.Prelude.{◌≡◌, ℕ, ◌<◌, ◌≤◌, List, [], ◌∷◌, ◌++◌, length, drop, replicate, Option, Some, None, All, IfSome}
use Rattle.std.specs.List.{flat_map, zip}
use Rattle.ftpp_base.specs.declared.element.Proc.{Proc}
use Rattle.ftpp_base.specs.declared.limits.TheConstants.{MOST_CYCLES}
use Rattle.packet_format.specs.Numbers.{two_bytes, four_bytes}
use Rattle.packet_format.specs.Packets.{filled_up}
use Rattle.packet_format.specs.declared.Descriptor.{Descriptor}
use Rattle.config_table.specs.declared.groups.Group.{Group}
use Rattle.config_table.specs.declared.decisions.StateRow.{StateRow}
use Rattle.config_table.specs.Groups.{members_of}
use Rattle.config_table.specs.Table.{TableValue, IsValid}

-- the element and the port of a member
abbrev pub member_bytes : Proc → List ℕ
member_bytes proc = proc.ne ∷ proc.port ∷ []

-- a group: number, size, four pairs of element and port, masked members, timeouts, expiry, limits
abbrev pub group_bytes : Group → List ℕ
group_bytes g =
    (g.vid ∷ length (members_of g) ∷ []) ++ filled_up 8 (flat_map member_bytes (members_of g)) ++ (g.masked.bits ∷ [])
    ++ two_bytes g.ts ++ two_bytes g.tr ++ two_bytes g.tx ++ (g.outs ∷ g.ins ∷ [])

-- a request: 1, descriptor, since and starved; zeros where there is none
abbrev pub request_bytes : Option (Descriptor × ℕ × ℕ) → List ℕ
request_bytes None = replicate 12 0
request_bytes (Some (desc, since, starved)) = (1 ∷ desc.dest ∷ desc.class ∷ desc.source ∷ []) ++ four_bytes since ++ four_bytes starved

-- a group's row: its request and four lags
abbrev pub row_bytes : StateRow → List ℕ
row_bytes row = request_bytes row.request ++ flat_map four_bytes row.lags

-- a group and its row, in 47 bytes
unfoldable pub slot_bytes : Group × StateRow → List ℕ
slot_bytes pair = group_bytes pair.0 ++ row_bytes pair.1

-- the groups, each with its row
abbrev pub slots_bytes : List Group → List StateRow → List ℕ
slots_bytes groups rows = flat_map slot_bytes (zip groups rows)

-- cycle, elements, manager, number of groups
abbrev pub head_bytes : ℕ → TableValue → List ℕ
head_bytes cycle table = four_bytes cycle ++ (table.n ∷ table.manager ∷ length table.groups ∷ [])

-- the bytes of the state of a cycle, a table and the rows of its groups
unfoldable pub state_bytes : ℕ → TableValue → List StateRow → List ℕ
state_bytes cycle table rows = filled_up 1887 (head_bytes cycle table ++ slots_bytes table.groups rows)

-- a request since an earlier cycle, which did not starve in more cycles than there were
abbrev pub RequestFits : ℕ → Option (Descriptor × ℕ × ℕ) → Type 0
RequestFits now request = IfSome request (λ waiting. (waiting.1 < now) × (waiting.2 ≤ now))

-- lags of no more cycles than there were
abbrev pub LagsFit : ℕ → List ℕ → Type 0
LagsFit now lags = All (λ lag. lag ≤ now) lags

-- A row of a group at the beginning of a cycle: its request stands since an earlier cycle, and nothing was counted more often than there were cycles.
pub record RowFits (cycle : ℕ) (pair : Group × StateRow) : Type 0 where
  pub number : pair.1.vid ≡ pair.0.vid
  pub request : RequestFits cycle pair.1.request
  pub four : length pair.1.lags ≡ 4
  pub lags : LagsFit cycle pair.1.lags
  pub past : All (λ lag. lag ≡ 0) (drop (length (members_of pair.0)) pair.1.lags)

-- What is a state: a valid table with one row for each group, in order.
pub record IsInRange (now : ℕ) (table : TableValue) (rows : List StateRow) : Type 0 where
  pub cycle : now ≤ MOST_CYCLES
  pub valid : IsValid table
  pub one_each : length rows ≡ length table.groups
  pub fit : All (RowFits now) (zip table.groups rows)

-- These bytes are that state.
pub record IsState (bytes : List ℕ) (now : ℕ) (table : TableValue) (rows : List StateRow) : Type 0 where
  pub in_range : IsInRange now table rows
  pub spelled : bytes ≡ state_bytes now table rows
