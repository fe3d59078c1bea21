-- The queues of the eight ports of one element, and what changes them: acts, an exchange or a discard, and an update.
use Rattle.std.specs.Prelude.{ℕ, ◌==◌, List, replicate, slice_index_or, filter, Option, Some, None, is_some, option_map, unwrap_or, map, if◌then◌else◌}
use Rattle.std.specs.List.{fold}
use Rattle.ftpp_base.specs.Bits.{eight}
use Rattle.ftpp_base.specs.Lists.{change_at}
use Rattle.ftpp_base.specs.declared.element.Proc.{Proc}
use Rattle.packet_format.specs.declared.Packet.{Packet}
use Rattle.packet_format.specs.declared.Delivered.{Delivered}
use Rattle.packet_format.specs.declared.Descriptor.{Descriptor}
use Rattle.packet_format.specs.declared.acts.Act.{Act}
use Rattle.packet_format.specs.declared.acts.Act.TheVariants.{Post, Read}
use Rattle.packet_format.specs.declared.acts.ActAnswer.{ActAnswer}
use Rattle.packet_format.specs.declared.acts.ActAnswer.TheVariants.{Posted as Accepted, PostFull, Got, Nothing}
use Rattle.packet_format.specs.Packets.{no_descriptor}
use Rattle.local_pattern.specs.declared.Entry.{Entry}
use Rattle.config_table.specs.declared.decisions.Decision.{Decision}
use Rattle.config_table.specs.declared.decisions.Decision.TheVariants.{Idle, Discard, Exchange}
use Rattle.config_table.specs.declared.decisions.Service.{Service}
use Rattle.config_table.specs.Table.{TableValue, out_limit, in_limit}
use Rattle.config_table.specs.Members.{senders, member_at, admitted_members, receivers}
use Rattle.processor_buffers.specs.declared.Handed.{Handed}
use Rattle.processor_buffers.specs.Heads.{packet_of_head}
use Rattle.processor_buffers.specs.Queues.{Queues, no_queues, first, head_of, has_out_room, has_in_room, after_post, after_read, after_pop, after_delivery, handed_by}

-- the ports of an element before anything was posted or delivered
abbrev pub empty_ports : List Queues
empty_ports = replicate 8 no_queues

-- the queues of one port
abbrev pub port_queues : List Queues → ℕ → Queues
port_queues ports port = slice_index_or ports port no_queues

-- ---- what they show

-- what a port with an input of that limit shows of its queues
abbrev pub shown_entry : ℕ → Queues → Entry
shown_entry limit q = record {
  not_empty = is_some (head_of q);
  not_full = has_in_room limit q;
  desc = unwrap_or (option_map (λ posted. posted.0) (head_of q)) no_descriptor;
}

-- what the eight ports of an element show
abbrev pub column_of : TableValue → ℕ → List Queues → List Entry
column_of table ne ports = map (λ port. shown_entry (in_limit table (record { ne = ne; port = port })) (port_queues ports port)) eight

-- ---- acts of its processors

-- the ports after an act
abbrev pub own_act : TableValue → List Queues → Act → List Queues
own_act table ports (Post proc desc packet) = change_at (after_post (out_limit table proc) (desc, packet)) ports proc.port
own_act table ports (Read proc) = change_at after_read ports proc.port

-- what a read is answered
abbrev pub read_answer : Option Delivered → ActAnswer
read_answer None = Nothing
read_answer (Some d) = Got d

-- what an act is answered
abbrev pub own_answer : TableValue → List Queues → Act → ActAnswer
own_answer table ports (Post proc desc packet) = if has_out_room (out_limit table proc) (port_queues ports proc.port) then Accepted else PostFull
own_answer table ports (Read proc) = read_answer (first (port_queues ports proc.port).input)

-- ---- an exchange or a discard

-- the ports with the queues of one processor, if it is there, changed
abbrev pub with_port : (Queues → Queues) → List Queues → Option Proc → List Queues
with_port change ports None = ports
with_port change ports (Some proc) = change_at change ports proc.port

-- the packet of a group's live member here, if its head carries the request
abbrev pub member_row : TableValue → ℕ → ℕ → Descriptor → List Queues → Option (List ℕ)
member_row table me vid desc ports =
    unwrap_or (option_map (λ proc. packet_of_head desc (head_of (port_queues ports proc.port))) (member_at (senders table vid) me)) None

-- the ports after the head of the admitted member here went
abbrev pub served_ports : TableValue → ℕ → Decision → List Queues → List Queues
served_ports table me Idle ports = ports
served_ports table me (Discard vid desc number admitted waited) ports = with_port (after_pop desc) ports (member_at (admitted_members table vid admitted) me)
served_ports table me (Exchange service) ports = with_port (after_pop service.desc) ports (member_at (admitted_members table service.vid service.admitted) me)

-- a packet as it is delivered
abbrev pub delivered_by : ℕ → Service → Packet → Delivered
delivered_by cycle service packet = record {
  cycle = cycle;
  from = service.vid;
  class = service.desc.class;
  dest = service.desc.dest;
  packet = packet;
}

-- the queues of a processor after it was handed an entry, if there is one
abbrev pub after_entry : ℕ → ℕ → Service → Option Packet → Queues → Queues
after_entry limit cycle service None q = q
after_entry limit cycle service (Some packet) q = after_delivery limit (delivered_by cycle service packet) q

-- the ports after a receiver, if there is one here, was handed the entry
abbrev pub delivered_to : TableValue → ℕ → Service → Option Packet → List Queues → Option Proc → List Queues
delivered_to table cycle service entry ports None = ports
delivered_to table cycle service entry ports (Some proc) = change_at (after_entry (in_limit table proc) cycle service entry) ports proc.port

-- the ports after the receiver here was handed the entry of a cycle
abbrev pub delivered_ports : TableValue → ℕ → ℕ → Decision → Option Packet → List Queues → List Queues
delivered_ports table me cycle Idle entry ports = ports
delivered_ports table me cycle (Discard vid desc number admitted waited) entry ports = ports
delivered_ports table me cycle (Exchange service) entry ports = delivered_to table cycle service entry ports (member_at (receivers table service) me)

-- what became of a delivery to a receiver, if there is one here and there is an entry
abbrev pub handed_by_own : TableValue → List Queues → Option Packet → Option Proc → Option (Proc × Handed)
handed_by_own table ports entry None = None
handed_by_own table ports None (Some proc) = None
handed_by_own table ports (Some packet) (Some proc) = Some (proc, handed_by (in_limit table proc) (port_queues ports proc.port))

-- what became of the delivery here
abbrev pub handed_here : TableValue → ℕ → Decision → Option Packet → List Queues → Option (Proc × Handed)
handed_here table me Idle entry ports = None
handed_here table me (Discard vid desc number admitted waited) entry ports = None
handed_here table me (Exchange service) entry ports = handed_by_own table ports entry (member_at (receivers table service) me)

-- ---- an update

-- the ports with those of some processors emptied
abbrev pub own_cleared : ℕ → List Proc → List Queues → List Queues
own_cleared me procs ports = fold (λ kept proc. change_at (λ q. no_queues) kept proc.port) ports (filter (λ proc. proc.ne == me) procs)
