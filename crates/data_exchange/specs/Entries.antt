-- Who contributes to an exchange, and the entry that each element makes of it.
use Rattle.std.specs.Prelude.{◌≡◌, ℕ, ◌<◌, Bool, true, false, not, ◌&&◌, ◌==◌, List, [], ◌∷◌, map, filter, find, length, Option, Some, None, option_map, unwrap_or, is_none, if◌then◌else◌}
use Rattle.std.specs.List.{list_all, enumerate_from}
use Rattle.ftpp_base.specs.Bits.{is_majority}
use Rattle.ftpp_base.specs.Lists.{is_this}
use Rattle.ftpp_base.specs.Sets.{has}
use Rattle.ftpp_base.specs.declared.element.Proc.{Proc}
use Rattle.ftpp_base.specs.declared.sets.Set8.{Set8}
use Rattle.packet_format.specs.Packets.{same_descriptor, same_bytes}
use Rattle.packet_format.specs.declared.Packet.{Packet}
use Rattle.packet_format.specs.declared.Descriptor.{Descriptor}
use Rattle.bit_vote.specs.Vote.{Cell, vote}
use Rattle.bit_vote.specs.Agreed.{FirstRound, agreed, copy_at}
use Rattle.config_table.specs.declared.groups.Group.{Group}
use Rattle.config_table.specs.declared.decisions.Kind.{Kind}
use Rattle.config_table.specs.declared.decisions.Kind.TheVariants.{Voted, Source, Every}
use Rattle.config_table.specs.declared.decisions.Service.{Service}
use Rattle.config_table.specs.Groups.{live_members}
pub use Rattle.config_table.specs.Kinds.{may_send, contributes, is_voted}
pub use Rattle.config_table.specs.Members.{live_in, senders, member_at}
use Rattle.config_table.specs.Table.{TableValue, group_named}
pub use Rattle.processor_buffers.specs.Heads.{packet_of_head}
use Rattle.processor_buffers.specs.Queues.{Posted}

-- what an element counts as: its value where it contributes, and none otherwise
abbrev pub contribution : Service → (ℕ → Cell) → ℕ → Cell
contribution service value ne = if contributes service ne then value ne else None

-- whether two values are the same where they count: at the elements below n that contribute
abbrev pub CountsAlike : ℕ → Service → (ℕ → Cell) → (ℕ → Cell) → Type 0
CountsAlike n service value other = (ne : ℕ) → ne < n → contributes service ne ≡ true → value ne ≡ other ne

-- what a member's element counts as
abbrev pub member_counts_as : Service → (ℕ → Cell) → Proc → Cell
member_counts_as service value proc = contribution service value proc.ne

-- the vote over the live members of the group that is served, in the order of the table
unfoldable pub members_vote : TableValue → Service → (ℕ → Cell) → Cell
members_vote table service value = vote (map (member_counts_as service value) (senders table service.vid))

-- the entry of an exchange, by the kind: over the copies at a receiver, or over values that are the same everywhere
abbrev pub entry_by : Kind → TableValue → Service → (ℕ → Cell) → (ℕ → Cell) → Cell
entry_by Voted table service copies results = members_vote table service copies
entry_by (Source s) table service copies results = contribution service results s
entry_by Every table service copies results = members_vote table service results

-- the log entry of an exchange at a receiver
unfoldable pub entry_at : TableValue → Service → FirstRound → ℕ → Cell
entry_at table service round receiver = entry_by service.kind table service (copy_at round receiver) (agreed round)

-- a row as a packet
abbrev pub packet_in : Cell → Option Packet
packet_in cell = option_map (λ row. record { bytes = row }) cell

-- the row that an element contributes: the head of its member, where that carries the request
abbrev pub own_row : TableValue → (Proc → Option Posted) → Service → ℕ → Cell
own_row table heads service ne =
    if contributes service ne
    then unwrap_or (option_map (λ proc. packet_of_head service.desc (heads proc)) (member_at (senders table service.vid) ne)) None
    else None

-- whether a processor is not at the faulty element
abbrev pub is_fault_free : Option ℕ → Proc → Bool
is_fault_free faulty proc = not (is_this faulty proc.ne)

-- the live members that are not at the faulty element
abbrev pub fault_free_members : Option ℕ → Group → List Proc
fault_free_members faulty g = filter (is_fault_free faulty) (live_members g)

-- more than half of the live members are fault-free
abbrev pub fault_free_majority : Option ℕ → Group → Bool
fault_free_majority faulty g = is_majority (length (fault_free_members faulty g)) (length (live_members g))

-- whether a head is this one
abbrev pub is_head : Posted → Option Posted → Bool
is_head posted None = false
is_head posted (Some other) = same_descriptor posted.0 other.0 && same_bytes posted.1.bytes other.1.bytes

-- the one head that all have, if there is one
abbrev pub common_head : List (Option Posted) → Option Posted
common_head [] = None
common_head (None ∷ heads) = None
common_head (Some head ∷ heads) = if list_all (is_head head) heads then Some head else None

-- the head that a group's request is held alike with: its fault-free live members all have it, and are more than half of the live ones
unfoldable pub held_alike : Option ℕ → (Proc → Option Posted) → Group → Option Posted
held_alike faulty heads g =
    if fault_free_majority faulty g then common_head (map heads (fault_free_members faulty g)) else None

-- one element alone sends, and is one of n
abbrev pub IsSourceBelow : ℕ → Kind → Type 0
IsSourceBelow n Voted = ⊥
IsSourceBelow n (Source s) = s < n
IsSourceBelow n Every = ⊥

-- where one element alone sends, it is one of n
abbrev pub IsSourceAmong : ℕ → Kind → Type 0
IsSourceAmong n Voted = Unit {0}
IsSourceAmong n (Source s) = s < n
IsSourceAmong n Every = Unit {0}

-- whether the faulty element is one of the set
abbrev pub includes : Set8 → Option ℕ → Bool
includes s None = false
includes s (Some ne) = has s ne

-- whether an exchange is split: one round alone, with an admitted member at the faulty element, and not held alike
abbrev pub is_split : Option ℕ → (Proc → Option Posted) → Group → Service → Bool
is_split faulty heads g service =
    is_voted service.kind && includes service.admitted faulty && is_none (held_alike faulty heads g)
