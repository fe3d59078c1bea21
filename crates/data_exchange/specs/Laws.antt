-- What holds of the entries of every exchange.
use Rattle.std.specs.Prelude.{◌≡◌, ◌≢◌, ◌<◌, ℕ, true, false, List, Option, Some, IfSome, Contains}
use Rattle.std.specs.List.{AllByRecursion}
use Rattle.ftpp_base.specs.Lists.{each_below, is_this}
use Rattle.ftpp_base.specs.Sets.{has}
use Rattle.ftpp_base.specs.declared.element.Proc.{Proc}
use Rattle.packet_format.specs.Packets.{same_descriptor}
use Rattle.bit_vote.specs.Vote.{Cell, IsRow, IsCell}
use Rattle.bit_vote.specs.Agreed.{FirstRound}
use Rattle.config_table.specs.declared.groups.Group.{Group}
use Rattle.config_table.specs.declared.decisions.Kind.TheVariants.{Source}
use Rattle.config_table.specs.declared.decisions.Service.{Service}
use Rattle.config_table.specs.Table.{TableValue, IsValid, group_named}
use Rattle.processor_buffers.specs.Queues.{Posted}
use Rattle.data_exchange.specs.Entries.{own_row, senders, member_at, fault_free_members, held_alike, entry_at, is_voted}

-- a packet of 64 bytes
abbrev pub HasRow : Posted → Type 0
HasRow posted = IsRow 64 posted.1.bytes

-- The first round of packets of an exchange: each element's own row, and what the faulty element's frame to each one reads as.
abbrev pub round_of : TableValue → Service → (Proc → Option Posted) → Option ℕ → List Cell → FirstRound
round_of table service heads faulty heard = record { faulty = faulty; own = each_below table.n (own_row table heads service); heard = heard }

-- What is given of an exchange that is held alike: the head that its fault-free live members have carries the request, they are admitted, and packets and cells have 64 bytes.
pub record IsHeldAlike (table : TableValue) (service : Service) (heads : Proc → Option Posted) (faulty : Option ℕ) (heard : List Cell) (g : Group) (head : Posted) : Type 0 where
  pub valid : IsValid table
  pub named : group_named table service.vid ≡ Some g
  pub alike : held_alike faulty heads g ≡ Some head
  pub carried : same_descriptor head.0 service.desc ≡ true
  pub admitted : (p : Proc) → Contains (fault_free_members faulty g) p → has service.admitted p.ne ≡ true
  pub rows : (p : Proc) → IfSome (heads p) HasRow
  pub cells : AllByRecursion (IsCell 64) heard

-- An exchange that is held alike, and is not of one source, has the common packet as its entry at every receiver.
abbrev pub AlikeEntries : Type 0
AlikeEntries = (table : TableValue) (service : Service) (heads : Proc → Option Posted) (faulty : Option ℕ) (heard : List Cell) (g : Group) (head : Posted) (receiver : ℕ)
    → IsHeldAlike table service heads faulty heard g head → ((s : ℕ) → service.kind ≢ Source s)
    → entry_at table service (round_of table service heads faulty heard) receiver ≡ Some head.1.bytes

-- What is given of an exchange of one source: it is fault-free and admitted, and its member has a head that carries the request.
pub record IsOfSource (table : TableValue) (service : Service) (heads : Proc → Option Posted) (faulty : Option ℕ) (source : ℕ) (head : Posted) : Type 0 where
  pub kind : service.kind ≡ Source source
  pub among : source < table.n
  pub fault_free : is_this faulty source ≡ false
  pub admitted : has service.admitted source ≡ true
  pub proc : Proc
  pub member : member_at (senders table service.vid) source ≡ Some proc
  pub waits : heads proc ≡ Some head
  pub carried : same_descriptor head.0 service.desc ≡ true

-- Such an exchange has the source's packet as its entry at every receiver.
abbrev pub SourceEntries : Type 0
SourceEntries = (table : TableValue) (service : Service) (heads : Proc → Option Posted) (faulty : Option ℕ) (heard : List Cell) (source : ℕ) (head : Posted) (receiver : ℕ)
    → IsOfSource table service heads faulty source head
    → entry_at table service (round_of table service heads faulty heard) receiver ≡ Some head.1.bytes

-- Entries of two rounds do not depend on the receiver.
abbrev pub EqualEntries : Type 0
EqualEntries = (table : TableValue) (service : Service) (round : FirstRound) (one other : ℕ)
    → is_voted service.kind ≡ false → entry_at table service round one ≡ entry_at table service round other
