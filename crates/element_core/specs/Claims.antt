-- What is claimed of every run: statements, each a type.
use Rattle.std.specs.Prelude.{◌≡◌, ◌≢◌, ℕ, ◌+◌, ◌<◌, ◌≤◌, ◌⊎◌, Bool, true, false, List, length, slice_get, filter, Option, Some, None, option_map, map, take, drop, MatchOption, All, Contains}
use Rattle.std.specs.List.{AllByRecursion}
use Rattle.ftpp_base.specs.Lists.{is_this, cell_at}
use Rattle.ftpp_base.specs.Sets.{has}
use Rattle.ftpp_base.specs.declared.element.Proc.{Proc}
use Rattle.ftpp_base.specs.declared.sets.Set8.{Set8}
use Rattle.packet_format.specs.declared.Packet.{Packet}
use Rattle.packet_format.specs.declared.Descriptor.{Descriptor}
use Rattle.config_table.specs.declared.groups.Group.{Group}
use Rattle.config_table.specs.declared.decisions.Service.{Service}
use Rattle.config_table.specs.declared.decisions.Kind.{Kind}
use Rattle.config_table.specs.declared.decisions.Kind.TheVariants.{Voted, Source, Every}
use Rattle.config_table.specs.declared.decisions.Decision.{Decision}
use Rattle.config_table.specs.declared.decisions.Decision.TheVariants.{Idle, Discard, Exchange}
use Rattle.config_table.specs.Groups.{live_count}
use Rattle.config_table.specs.Table.{TableValue, group_named, in_limit, IsValid}
use Rattle.scoreboard.specs.Board.{Scoreboard, lag_of, starved_of, marked}
use Rattle.flag_vote.specs.Flags.{voted_flags}
use Rattle.scoreboard.specs.Choice.{reason}
use Rattle.scoreboard.specs.Service.{takes_of, Serves, longest_wait}
use Rattle.processor_buffers.specs.Queues.{Posted}
use Rattle.processor_buffers.specs.declared.Handed.TheVariants.{Overrun}
use Rattle.data_exchange.specs.Entries.{fault_free_members, senders, member_at}
use Rattle.syndrome_log.specs.declared.SyndromeKind.{SyndromeKind}
use Rattle.syndrome_log.specs.declared.SyndromeKind.TheVariants as kind
use Rattle.element_core.specs.Processors.{queues_of, head_at}
use Rattle.element_core.specs.Cycle.{State, Shown, start}
use Rattle.element_core.specs.Run.{Journal, IsJournal, history, shown_at, state_at}
use Rattle.element_core.specs.Syndromes.{Relays, syndromes_at}
use Rattle.element_core.specs.Alone.{IsInput}
use Rattle.element_core.specs.Premises.{held_alike_in, is_split_in, KeepsSpaceFor, accepted_from, posted_of, IsSkewAlike}

-- ---- of each cycle

-- The entries of an exchange are equal at all fault-free elements unless it is split.
abbrev pub EqualEntries : Shown → Type 0
EqualEntries shown = (service : Service) (g : Group) (one other : ℕ)
    → shown.decision ≡ Exchange service → group_named shown.table service.vid ≡ Some g
    → one < shown.table.n → other < shown.table.n
    → is_this shown.packets.faulty one ≡ false → is_this shown.packets.faulty other ≡ false
    → is_split_in shown g service ≡ false
    → cell_at shown.entries one ≡ cell_at shown.entries other

-- An overrun comes only where the input was full before the rounds, and its member lags by more than its timeout.
abbrev pub OnlyFullOverruns : State → Shown → Type 0
OnlyFullOverruns after shown = (ne : ℕ) (proc : Proc) (g : Group) (index : ℕ)
    → is_this shown.packets.faulty ne ≡ false
    → cell_at shown.handed ne ≡ Some (proc, Overrun)
    → Contains shown.table.groups g → slice_get g.members.items index ≡ Some proc
    → (length (queues_of shown.queues proc).input ≡ in_limit shown.table proc) × (g.tr < lag_of after.scoreboard g.vid index)

-- whether an entry speaks of what two elements sent of a third
abbrev pub is_of_copies : SyndromeKind → Bool
is_of_copies kind.P1 = true
is_of_copies kind.P2 = true
is_of_copies kind.R = false
is_of_copies kind.O = false
is_of_copies kind.D1 = true
is_of_copies kind.D2 = true
is_of_copies kind.V = false

-- An entry of that sort at a fault-free element names the faulty one.
abbrev pub IsAccurate : Shown → Type 0
IsAccurate shown = (said : Relays) (me : ℕ) → me < shown.table.n → is_this shown.patterns.faulty me ≡ false
    → All (λ s. is_of_copies s.kind ≡ true → (shown.patterns.faulty ≡ Some s.accused) ⊎ (shown.patterns.faulty ≡ Some s.other)) (syndromes_at shown said me)

-- An exchange of class 2 or 3, or of a group with fewer than three live members, is not split: its entries are equal at all elements.
abbrev pub IsWholeEverywhere : Shown → Type 0
IsWholeEverywhere shown = (service : Service) (g : Group)
    → shown.decision ≡ Exchange service → group_named shown.table service.vid ≡ Some g
    → (service.desc.class ≢ 1) ⊎ (live_count g < 3)
    → (is_split_in shown g service ≡ false)
    × ((one other : ℕ) → one < shown.table.n → other < shown.table.n → cell_at shown.entries one ≡ cell_at shown.entries other)

-- whether one element alone sends
abbrev pub is_source : Kind → Bool
is_source Voted = false
is_source (Source s) = true
is_source Every = false

-- An exchange that is held alike, and is not of one source, has the common packet as its entry at each element.
abbrev pub IsUnchanged : Shown → Type 0
IsUnchanged shown = (service : Service) (g : Group) (head : Posted) (me : ℕ)
    → shown.decision ≡ Exchange service → group_named shown.table service.vid ≡ Some g
    → held_alike_in shown g ≡ Some head → is_source service.kind ≡ false → me < shown.table.n
    → cell_at shown.entries me ≡ Some head.1

-- What an element's member has to send: it is live, and has a head.
pub record HasHead (shown : Shown) (service : Service) (ne : ℕ) : Type 0 where
  pub proc : Proc
  pub live : member_at (senders shown.table service.vid) ne ≡ Some proc
  pub head : Posted
  pub held : head_at shown.queues proc ≡ Some head

-- An exchange of one source that is fault-free and admitted has that source's head as its entry at each element.
abbrev pub IsSourced : Shown → Type 0
IsSourced shown = (service : Service) (source : ℕ)
    → shown.decision ≡ Exchange service → service.kind ≡ Source source → source < shown.table.n
    → is_this shown.packets.faulty source ≡ false → has service.admitted source ≡ true
    → (own : HasHead shown service source) × ((me : ℕ) → me < shown.table.n → cell_at shown.entries me ≡ Some own.head.1)

-- whether an entry speaks of a member of the group that is served
abbrev pub is_of_members : SyndromeKind → Bool
is_of_members kind.P1 = false
is_of_members kind.P2 = false
is_of_members kind.R = true
is_of_members kind.O = false
is_of_members kind.D1 = false
is_of_members kind.D2 = false
is_of_members kind.V = true

-- Where the request that is taken is held alike, an entry of that sort at any element accuses the faulty one.
abbrev pub IsAccurateAlike : Shown → Type 0
IsAccurateAlike shown = (said : Relays) (me : ℕ) (g : Group) (head : Posted) → me < shown.table.n
    → takes_of g.vid shown.decision ≡ true → group_named shown.table g.vid ≡ Some g → held_alike_in shown g ≡ Some head
    → All (λ s. is_of_members s.kind ≡ true → shown.patterns.faulty ≡ Some s.accused) (syndromes_at shown said me)

-- ---- a request is served in time

-- A lawful request that is held alike in a cycle is served within its longest wait, while its receiver keeps space.
abbrev pub ServiceBound : TableValue → Journal → Type 0
ServiceBound table journal = (t : ℕ) (g : Group) (head : Posted)
    → t < length journal
    → group_named (shown_at table journal t).table g.vid ≡ Some g
    → held_alike_in (shown_at table journal t) g ≡ Some head
    → reason (shown_at table journal t).table g head.0 ≡ None
    → t + longest_wait (shown_at table journal t).table g head.0 ≤ length journal
    → ((u : ℕ) → t ≤ u → u < length journal → ((k : ℕ) → t ≤ k → k < u → Serves (shown_at table journal k).decision g.vid head.0 → ⊥) → KeepsSpaceFor table journal head.0 t u)
    → (k : ℕ) × (t ≤ k) × (k < t + longest_wait (shown_at table journal t).table g head.0) × Serves (shown_at table journal k).decision g.vid head.0

-- Every run serves in time: from every valid table, and over every journal in which the faulty element changes only where it rejoins.
abbrev pub RunsServeInTime : Type 0
RunsServeInTime = (table : TableValue) (first : Option ℕ) (journal : Journal) → IsValid table → IsJournal first journal → ServiceBound table journal

-- ---- order of a group's requests in a run

-- whether a cycle takes a request of a group
abbrev pub is_service : ℕ → Shown → Bool
is_service vid shown = takes_of vid shown.decision

-- the cycles of a run that take a request of a group, in order
abbrev pub services_of : TableValue → Journal → ℕ → List Shown
services_of table journal vid = filter (is_service vid) (history table journal)

-- how many requests of a group were taken before a cycle
abbrev pub times_taken : TableValue → Journal → ℕ → ℕ → ℕ
times_taken table journal vid t = length (services_of table (take t journal) vid)

-- whether an element's member is admitted by a decision
abbrev pub admitted_set : Decision → ℕ → Bool
admitted_set Idle ne = false
admitted_set (Discard vid desc number admitted waited) ne = has admitted ne
admitted_set (Exchange service) ne = has service.admitted ne

-- the request that a decision takes
abbrev pub taken_request : Decision → Option Descriptor
taken_request Idle = None
taken_request (Discard vid desc number admitted waited) = Some desc
taken_request (Exchange service) = Some service.desc

-- whether an exchange's packet comes from one source, at the faulty element
abbrev pub is_from_faulty : Option ℕ → Kind → Bool
is_from_faulty faulty Voted = false
is_from_faulty faulty (Source ne) = is_this faulty ne
is_from_faulty faulty Every = false

-- Where a cycle makes an exchange, its entry at every element is that packet, unless its source is at the faulty element.
abbrev pub HasEntry : Option ℕ → Shown → Packet → Type 0
HasEntry faulty shown packet = (service : Service) → shown.decision ≡ Exchange service → is_from_faulty faulty service.kind ≡ false
    → (ne : ℕ) → ne < shown.table.n → cell_at shown.entries ne ≡ Some packet

-- the scoreboard of a cycle after its pattern, and before a request is taken
abbrev pub marked_at : TableValue → Journal → ℕ → Scoreboard
marked_at table journal t =
    marked (shown_at table journal t).table (voted_flags (shown_at table journal t).table (shown_at table journal t).pattern) (shown_at table journal t).cycle (state_at table journal t).scoreboard

-- A request's receiver has an expiry, and had no most space for more cycles than that.
abbrev pub IsPastExpiry : TableValue → Scoreboard → ℕ → Descriptor → Type 0
IsPastExpiry table board vid desc = MatchOption (group_named table desc.dest) ⊥ (λ h. (0 < h.tx) × MatchOption (starved_of board vid) ⊥ (λ starved. h.tx < starved))

-- Where a cycle discards a request of a group, it is unlawful with that reason, or lawful and past its expiry.
abbrev pub OnlyForReason : TableValue → Journal → ℕ → Group → Type 0
OnlyForReason table journal t g = (vid number waited : ℕ) (desc : Descriptor) (admitted : Set8)
    → (shown_at table journal t).decision ≡ Discard vid desc number admitted waited
    → (reason (shown_at table journal t).table g desc ≡ Some number)
    ⊎ ((reason (shown_at table journal t).table g desc ≡ None) × (number ≡ 6) × IsPastExpiry (shown_at table journal t).table (marked_at table journal t) g.vid desc)

-- A cycle takes the post of that number of a group's fault-free live members: all of them have it at their heads and are admitted, it is of the request that is taken, an exchange delivers its packet, and a discard has its reason.
pub record TakesPost (table : TableValue) (journal : Journal) (faulty : Option ℕ) (g : Group) (t number : ℕ) : Type 0 where
  pub posted : Posted
  pub held : held_alike_in (shown_at table journal t) g ≡ Some posted
  pub request : taken_request (shown_at table journal t).decision ≡ Some posted.0
  pub admitted : (proc : Proc) → Contains (fault_free_members faulty g) proc → admitted_set (shown_at table journal t).decision proc.ne ≡ true
  pub post : (proc : Proc) → Contains (fault_free_members faulty g) proc → option_map posted_of (slice_get (accepted_from (start table) journal proc) number) ≡ Some posted
  pub entry : HasEntry faulty (shown_at table journal t) posted.1
  pub discard : OnlyForReason table journal t g

-- The requests of a group that posts alike are taken in the order of its posts, each once: each cycle that takes one takes the post whose number is how many were taken before, which counts these cycles from 0 on. All other posts wait: at the beginning of each cycle a fault-free live member's output is what it posted so far without the posts that were taken.
pub record NothingLost (table : TableValue) (journal : Journal) (faulty : Option ℕ) (g : Group) : Type 0 where
  pub takes : (t : ℕ) → t < length journal → takes_of g.vid (shown_at table journal t).decision ≡ true → TakesPost table journal faulty g t (times_taken table journal g.vid t)
  pub counted : (k : ℕ) (shown : Shown) → slice_get (services_of table journal g.vid) k ≡ Some shown → (t : ℕ) × (t < length journal) × (shown_at table journal t ≡ shown) × (times_taken table journal g.vid t ≡ k)
  pub waits : (t : ℕ) (proc : Proc) → t ≤ length journal → Contains (fault_free_members faulty g) proc
      → (queues_of (state_at table journal t).queues proc).output ≡ map posted_of (drop (times_taken table journal g.vid t) (accepted_from (start table) (take t journal) proc))

-- No loss within the skew: in every run over a journal in shape from a valid table, of every group that posts alike.
abbrev pub NoLossWithinSkew : Type 0
NoLossWithinSkew = (table : TableValue) (journal : Journal) (faulty : Option ℕ) (g : Group)
    → IsValid table → IsJournal faulty journal → AllByRecursion (IsInput table.n) journal → IsSkewAlike table journal faulty g → NothingLost table journal faulty g
