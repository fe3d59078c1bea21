-- The grammar of updates as a relation on bytes, field by field.
use Rattle.std.specs.Prelude.{◌≡◌, ◌↔◌, ℕ, ◌+◌, ◌*◌, ◌<◌, ◌≤◌, ◌^◌, ◌==◌, List, length, slice_index, slice_index_or, slice_range, Some, IsSome, if◌then◌else◌}
use Rattle.ftpp_base.specs.declared.element.Proc.{Proc}
use Rattle.packet_format.specs.Numbers.{AreBytes, two_bytes}
use Rattle.packet_format.specs.declared.Packet.{Packet}
use Rattle.table_update.specs.declared.Update.{Update}
use Rattle.table_update.specs.declared.Update.TheVariants.{Mask, Admit, Timeouts, Dissolve, Form}
use Rattle.table_update.specs.Updates.{read_update}

-- member indices are below 4, sizes at most 4, and timeouts fit two bytes
abbrev pub IsInRange : Update → Type 0
IsInRange (Mask vid member) = member < 4
IsInRange (Admit vid member) = member < 4
IsInRange (Timeouts vid ts tr) = (ts < 2 ^ 16) × (tr < 2 ^ 16)
IsInRange (Dissolve vid) = Unit {0}
IsInRange (Form vid members ts tr) = (length members.items ≤ 4) × (ts < 2 ^ 16) × (tr < 2 ^ 16)

-- all bytes from a place on are 0
abbrev pub AreZeroFrom : ℕ → List ℕ → Type 0
AreZeroFrom start bytes = (i : ℕ) → start ≤ i → slice_index bytes i ≡ 0

-- The form, a group and the index of a member.
pub record ShowsMember (form : ℕ) (bytes : List ℕ) (vid member : ℕ) : Type 0 where
  pub first : slice_index bytes 0 ≡ form
  pub group : slice_index bytes 1 ≡ vid
  pub index : slice_index bytes 2 ≡ member
  pub zeros : AreZeroFrom 3 bytes

-- A group and its timeouts.
pub record ShowsTimeouts (bytes : List ℕ) (vid ts tr : ℕ) : Type 0 where
  pub first : slice_index bytes 0 ≡ 3
  pub group : slice_index bytes 1 ≡ vid
  pub send : slice_range bytes 2 4 ≡ two_bytes ts
  pub receive : slice_range bytes 4 6 ≡ two_bytes tr
  pub zeros : AreZeroFrom 6 bytes

-- A group.
pub record ShowsDissolve (bytes : List ℕ) (vid : ℕ) : Type 0 where
  pub first : slice_index bytes 0 ≡ 4
  pub group : slice_index bytes 1 ≡ vid
  pub zeros : AreZeroFrom 2 bytes

-- A group, its size, its timeouts and a pair of element and port for each member.
pub record ShowsForm (bytes : List ℕ) (vid : ℕ) (members : List Proc) (ts tr : ℕ) : Type 0 where
  pub first : slice_index bytes 0 ≡ 5
  pub group : slice_index bytes 1 ≡ vid
  pub size : slice_index bytes 2 ≡ length members
  pub send : slice_range bytes 3 5 ≡ two_bytes ts
  pub receive : slice_range bytes 5 7 ≡ two_bytes tr
  pub element : (k : ℕ) (d : Proc) → k < length members → slice_index bytes (7 + 2 * k) ≡ (slice_index_or members k d).ne
  pub port : (k : ℕ) (d : Proc) → k < length members → slice_index bytes (8 + 2 * k) ≡ (slice_index_or members k d).port
  pub zeros : AreZeroFrom (7 + 2 * length members) bytes

-- the bytes of an update at their places, and zeros behind them
abbrev pub Shows : List ℕ → Update → Type 0
Shows bytes (Mask vid member) = ShowsMember 1 bytes vid member
Shows bytes (Admit vid member) = ShowsMember 2 bytes vid member
Shows bytes (Timeouts vid ts tr) = ShowsTimeouts bytes vid ts tr
Shows bytes (Dissolve vid) = ShowsDissolve bytes vid
Shows bytes (Form vid members ts tr) = ShowsForm bytes vid members.items ts tr

-- These bytes spell that update.
pub record IsSpelled (bytes : List ℕ) (update : Update) : Type 0 where
  pub in_range : IsInRange update
  pub long : length bytes ≡ 64
  pub shows : Shows bytes update

-- a packet that spells an update is read as that update
abbrev pub EachSpelledIsRead : Type 0
EachSpelledIsRead = (packet : Packet) (update : Update) → IsSpelled packet.bytes update → read_update packet ≡ Some update

-- and what is read of a packet is spelled by it
abbrev pub EachReadIsSpelled : Type 0
EachReadIsSpelled = (packet : Packet) (update : Update) → length packet.bytes ≡ 64 → AreBytes packet.bytes → read_update packet ≡ Some update → IsSpelled packet.bytes update

-- how many of the first bytes the form of these bytes names
abbrev pub named_count : List ℕ → ℕ
named_count bytes =
    if slice_index bytes 0 == 3 then 6
    else if slice_index bytes 0 == 4 then 2
    else if slice_index bytes 0 == 5 then 7 + 2 * slice_index bytes 2
    else 3

-- These bytes are in the grammar, whatever update they are.
pub record IsInGrammar (bytes : List ℕ) : Type 0 where
  pub form : (1 ≤ slice_index bytes 0) × (slice_index bytes 0 ≤ 5)
  pub index : slice_index bytes 0 ≤ 2 → slice_index bytes 2 < 4
  pub size : slice_index bytes 0 ≡ 5 → slice_index bytes 2 ≤ 4
  pub zeros : AreZeroFrom (named_count bytes) bytes

-- a packet is read exactly where it is in the grammar
abbrev pub GrammarIsRead : Type 0
GrammarIsRead = (packet : Packet) → length packet.bytes ≡ 64 → AreBytes packet.bytes → IsSome (read_update packet) ↔ IsInGrammar packet.bytes

-- an update is spelled by one row of bytes at most
abbrev pub OneSpelling : Type 0
OneSpelling = (xs ys : List ℕ) (update : Update) → IsSpelled xs update → IsSpelled ys update → xs ≡ ys

-- and bytes spell one update at most
abbrev pub OneMeaning : Type 0
OneMeaning = (bytes : List ℕ) (update other : Update) → IsSpelled bytes update → IsSpelled bytes other → update ≡ other
