-- One element by itself: what it keeps between cycles, what it hears in a cycle, and what it makes of it.
use Rattle.std.specs.Prelude.{ℕ, ◌+◌, ◌==◌, List, slice_set, Option, Some, None, if◌then◌else◌}
use Rattle.ftpp_base.specs.Lists.{cell_at}
use Rattle.ftpp_base.specs.declared.element.Proc.{Proc}
use Rattle.packet_format.specs.declared.Packet.{Packet}
use Rattle.bit_vote.specs.Vote.{Cell}
use Rattle.two_round.specs.Echoes.{Echoes, result_for}
use Rattle.local_pattern.specs.Pattern.{column_bytes}
pub use Rattle.pattern_exchange.specs.Settled.{settled}
use Rattle.config_table.specs.declared.decisions.Decision.{Decision}
use Rattle.config_table.specs.declared.decisions.Decision.TheVariants.{Idle, Discard, Exchange}
use Rattle.config_table.specs.Table.{TableValue}
use Rattle.flag_vote.specs.Flags.{Pattern, voted_flags}
use Rattle.scoreboard.specs.Board.{Scoreboard, after_update}
use Rattle.scoreboard.specs.Choice.{scoreboard_decision, scoreboard_after}
use Rattle.processor_buffers.specs.Queues.{Queues, head_of}
use Rattle.processor_buffers.specs.declared.Handed.{Handed}
use Rattle.table_update.specs.declared.Update.{Update}
use Rattle.table_update.specs.declared.Applied.{Applied}
use Rattle.table_update.specs.declared.Applied.TheVariants as applied_variant
use Rattle.table_update.specs.Updates.{applied, table_after, named_group}
use Rattle.data_exchange.specs.Entries.{members_vote, entry_by, own_row, packet_in}
pub use Rattle.element_ports.specs.PortQueues.{with_port, served_ports, delivered_to, delivered_ports, handed_by_own, handed_here, own_cleared}
use Rattle.element_core.specs.declared.Outcome3.{Outcome3}
use Rattle.element_core.specs.Processors.{port_queues, column_of}
use Rattle.element_core.specs.Cycle.{update_outcome, update_in}

-- What an element keeps from cycle to cycle.
pub record Kept : Type 0 where
  pub me : ℕ
  pub cycle : ℕ
  pub table : TableValue
  pub scoreboard : Scoreboard
  pub ports : List Queues

-- What an element heard in the four rounds: the cells of A1 and of B1 by sender, and those of A2 and of B2 by relay and sender.
pub record Heard : Type 0 where
  pub patterns : List Cell
  pub relayed_patterns : List (List Cell)
  pub packets : List Cell
  pub relayed_packets : List (List Cell)

-- What an element makes of a cycle.
pub record Made : Type 0 where
  pub patterns : Echoes
  pub pattern : Pattern
  pub decision : Decision
  pub packets : Echoes
  pub entry : Option Packet
  pub handed : Option (Proc × Handed)
  pub update : Option Outcome3

-- the echoes of a round: what was heard, with its own cell in its own place
abbrev pub echoes_of : ℕ → Cell → List Cell → List (List Cell) → Echoes
echoes_of me own heard relayed = record { me = me; copies = slice_set heard me own; relayed = relayed }

-- what an element sends in B1
abbrev pub own_packet : Kept → Decision → Cell
own_packet kept Idle = None
own_packet kept (Discard vid desc number admitted waited) = None
own_packet kept (Exchange service) = own_row kept.table (λ proc. head_of (port_queues kept.ports proc.port)) service kept.me

-- the entry of a cycle, over its own copies and results
abbrev pub own_entry : TableValue → Decision → Echoes → Option Packet
own_entry table Idle echoes = None
own_entry table (Discard vid desc number admitted waited) echoes = None
own_entry table (Exchange service) echoes = packet_in (entry_by service.kind table service (cell_at echoes.copies) (result_for echoes))

-- the ports after the head of its admitted member went
abbrev pub own_service : Kept → Decision → List Queues
own_service kept decision = served_ports kept.table kept.me decision kept.ports

-- the ports after its receiver was handed the entry
abbrev pub own_delivery : Kept → Decision → Option Packet → List Queues → List Queues
own_delivery kept decision entry ports = delivered_ports kept.table kept.me kept.cycle decision entry ports

-- what became of its delivery
abbrev pub own_handed : Kept → Decision → Option Packet → List Queues → Option (Proc × Handed)
own_handed kept decision entry ports = handed_here kept.table kept.me decision entry ports

-- the packet of an exchange of class 3, by its own results
abbrev pub own_update : TableValue → Decision → Echoes → Option (Option Packet)
own_update table Idle echoes = None
own_update table (Discard vid desc number admitted waited) echoes = None
own_update table (Exchange service) echoes =
    if service.desc.class == 3 then Some (packet_in (members_vote table service (result_for echoes))) else None

-- what it keeps after an applied update
abbrev pub kept_by : Applied → Update → Kept → Kept
kept_by (applied_variant.Done procs) update kept = record {
  me = kept.me;
  cycle = kept.cycle;
  table = table_after kept.table update;
  scoreboard = after_update (table_after kept.table update) (named_group update) kept.scoreboard;
  ports = own_cleared kept.me procs.items kept.ports;
}
kept_by (applied_variant.Refused error) update kept = kept
kept_by applied_variant.Absent update kept = kept

abbrev pub kept_with : Option Update → Kept → Kept
kept_with None kept = kept
kept_with (Some update) kept = kept_by (applied kept.table update) update kept

-- what an element makes of a cycle, after the acts of its processors
unfoldable pub made : Kept → Heard → Made
made kept heard =
    let patterns = echoes_of kept.me (Some (column_bytes (column_of kept.table kept.me kept.ports))) heard.patterns heard.relayed_patterns in
    let pattern = settled kept.table.n patterns in
    let decision = scoreboard_decision kept.table kept.cycle (voted_flags kept.table pattern) kept.scoreboard in
    let packets = echoes_of kept.me (own_packet kept decision) heard.packets heard.relayed_packets in
    let entry = own_entry kept.table decision packets in
    record {
      patterns = patterns;
      pattern = pattern;
      decision = decision;
      packets = packets;
      entry = entry;
      handed = own_handed kept decision entry (own_service kept decision);
      update = update_outcome kept.table (own_update kept.table decision packets);
    }

-- what it keeps after the cycle
unfoldable pub kept_after : Kept → Made → Kept
kept_after kept m = kept_with (update_in (own_update kept.table m.decision m.packets)) (record {
  me = kept.me;
  cycle = kept.cycle + 1;
  table = kept.table;
  scoreboard = scoreboard_after kept.table kept.cycle (voted_flags kept.table m.pattern) kept.scoreboard;
  ports = own_delivery kept m.decision m.entry (own_service kept m.decision);
})
