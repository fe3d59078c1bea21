-- One cycle of all elements: the state before it, what comes from outside, the state after it and what it showed.
use Rattle.std.specs.Prelude.{ℕ, ◌+◌, ◌==◌, List, Option, Some, None, if◌then◌else◌}
use Rattle.std.specs.List.{fold}
use Rattle.ftpp_base.specs.Lists.{each_below, cell_at}
use Rattle.ftpp_base.specs.declared.element.Proc.{Proc}
use Rattle.packet_format.specs.declared.Packet.{Packet}
use Rattle.packet_format.specs.declared.acts.Act.{Act}
use Rattle.packet_format.specs.declared.acts.ActAnswer.{ActAnswer}
use Rattle.bit_vote.specs.Vote.{Cell}
use Rattle.bit_vote.specs.Agreed.{FirstRound, agreed}
use Rattle.local_pattern.specs.declared.Entry.{Entry}
use Rattle.local_pattern.specs.Pattern.{column_bytes, read_column}
use Rattle.config_table.specs.declared.decisions.Decision.{Decision}
use Rattle.config_table.specs.declared.decisions.Decision.TheVariants.{Idle, Discard, Exchange}
use Rattle.config_table.specs.declared.decisions.Service.{Service}
use Rattle.config_table.specs.Table.{TableValue, in_limit, error_code}
use Rattle.flag_vote.specs.Flags.{Pattern, voted_flags}
use Rattle.scoreboard.specs.Board.{Scoreboard, empty_scoreboard, after_update}
use Rattle.scoreboard.specs.Choice.{scoreboard_decision, scoreboard_after}
use Rattle.processor_buffers.specs.declared.Handed.{Handed}
use Rattle.processor_buffers.specs.Queues.{handed_by}
use Rattle.table_update.specs.declared.Update.{Update}
use Rattle.table_update.specs.declared.Applied.{Applied}
use Rattle.table_update.specs.declared.Applied.TheVariants as applied_variant
use Rattle.table_update.specs.Updates.{read_update, applied, table_after, named_group}
use Rattle.data_exchange.specs.Entries.{members_vote, entry_at, own_row, packet_in, member_at}
pub use Rattle.config_table.specs.Members.{is_admitted, admitted_members, is_delivered, receivers}
pub use Rattle.element_ports.specs.PortQueues.{delivered_by, after_entry}
use Rattle.element_core.specs.declared.Outcome3.{Outcome3}
use Rattle.element_core.specs.declared.Outcome3.TheVariants as outcome
use Rattle.element_core.specs.Processors.{AllQueues, empty_queues, queues_of, head_at, with_queues, emptied_at, cleared, after_acts, answers_to, column_shown, after_pops}

-- What stands at the beginning of a cycle.
pub record State : Type 0 where
  pub cycle : ℕ
  pub table : TableValue
  pub scoreboard : Scoreboard
  pub queues : AllQueues

-- What comes from outside in a cycle: which element rejoined just before it, which one is faulty in it,
-- the acts of the processors, and what the faulty element's frames of A1 and of B1 to each element read as.
pub record Input : Type 0 where
  pub rejoined : Option ℕ
  pub faulty : Option ℕ
  pub acts : List Act
  pub patterns : List Cell
  pub packets : List Cell

-- What a cycle showed: its number and its table, the answers to the acts and the queues after them, the first round
-- of patterns and the agreed pattern, the decision, the first round of packets, the entry and the delivery at each
-- element, and for an exchange of class 3 what became of the update and the group that an applied one named.
pub record Shown : Type 0 where
  pub cycle : ℕ
  pub table : TableValue
  pub answers : List ActAnswer
  pub queues : AllQueues
  pub patterns : FirstRound
  pub pattern : Pattern
  pub decision : Decision
  pub packets : FirstRound
  pub entries : List (Option Packet)
  pub handed : List (Option (Proc × Handed))
  pub update : Option Outcome3
  pub changed : Option ℕ

-- A cycle: the state that it leaves, and what it showed.
pub record Cycle : Type 0 where
  pub state : State
  pub shown : Shown

-- before the first cycle: no requests, and empty queues
abbrev pub start : TableValue → State
start table = record { cycle = 0; table = table; scoreboard = empty_scoreboard table; queues = empty_queues table.n }

-- ---- the four rounds

-- what an element sends in the first round of patterns: it shows its ports
abbrev pub pattern_sent : TableValue → AllQueues → ℕ → Cell
pattern_sent table queues ne = Some (column_bytes (column_shown table queues ne))

-- the first round of patterns
abbrev pub pattern_round : TableValue → AllQueues → Input → FirstRound
pattern_round table queues input = record {
  faulty = input.faulty;
  own = each_below table.n (pattern_sent table queues);
  heard = input.patterns;
}

-- what is agreed of an element's ports
abbrev pub agreed_column : FirstRound → ℕ → List Entry
agreed_column round ne = read_column (agreed round ne)

-- the agreed pattern
abbrev pub agreed_pattern : TableValue → FirstRound → Pattern
agreed_pattern table round = each_below table.n (agreed_column round)

-- what an element sends in the first round of packets
abbrev pub row_sent : TableValue → AllQueues → Decision → ℕ → Cell
row_sent table queues Idle ne = None
row_sent table queues (Discard vid desc number admitted waited) ne = None
row_sent table queues (Exchange service) ne = own_row table (head_at queues) service ne

-- the first round of packets
abbrev pub packet_round : TableValue → AllQueues → Decision → Input → FirstRound
packet_round table queues decision input = record {
  faulty = input.faulty;
  own = each_below table.n (row_sent table queues decision);
  heard = input.packets;
}

-- the entry of a cycle at an element
abbrev pub entry_in : TableValue → Decision → FirstRound → ℕ → Option Packet
entry_in table Idle round ne = None
entry_in table (Discard vid desc number admitted waited) round ne = None
entry_in table (Exchange service) round ne = packet_in (entry_at table service round ne)

-- ---- heads that go, and deliveries

-- the queues without the heads that were served or discarded
abbrev pub after_service : TableValue → Decision → AllQueues → AllQueues
after_service table Idle queues = queues
after_service table (Discard vid desc number admitted waited) queues = after_pops desc queues (admitted_members table vid admitted)
after_service table (Exchange service) queues = after_pops service.desc queues (admitted_members table service.vid service.admitted)

-- the queues after a receiver was handed the entry at its element
abbrev pub after_handing : TableValue → ℕ → Service → List (Option Packet) → AllQueues → Proc → AllQueues
after_handing table cycle service entries queues proc =
    with_queues (after_entry (in_limit table proc) cycle service (cell_at entries proc.ne)) queues proc

-- the queues after all receivers were handed their entries
abbrev pub after_deliveries : TableValue → ℕ → Decision → List (Option Packet) → AllQueues → AllQueues
after_deliveries table cycle Idle entries queues = queues
after_deliveries table cycle (Discard vid desc number admitted waited) entries queues = queues
after_deliveries table cycle (Exchange service) entries queues =
    fold (after_handing table cycle service entries) queues (receivers table service)

-- what became of a delivery to a processor, if there is an entry
abbrev pub handed_to : TableValue → AllQueues → Option Proc → Option Packet → Option (Proc × Handed)
handed_to table queues None entry = None
handed_to table queues (Some proc) None = None
handed_to table queues (Some proc) (Some packet) = Some (proc, handed_by (in_limit table proc) (queues_of queues proc))

-- the delivery at an element
abbrev pub handed_at : TableValue → AllQueues → Decision → List (Option Packet) → ℕ → Option (Proc × Handed)
handed_at table queues Idle entries ne = None
handed_at table queues (Discard vid desc number admitted waited) entries ne = None
handed_at table queues (Exchange service) entries ne =
    handed_to table queues (member_at (receivers table service) ne) (cell_at entries ne)

-- ---- updates

-- the agreed packet of an exchange of class 3: none where there is no such exchange, and None where its vote is
abbrev pub update_packet : TableValue → Decision → FirstRound → Option (Option Packet)
update_packet table Idle round = None
update_packet table (Discard vid desc number admitted waited) round = None
update_packet table (Exchange service) round =
    if service.desc.class == 3 then Some (packet_in (members_vote table service (agreed round))) else None

-- the update that an agreed packet is
abbrev pub update_in : Option (Option Packet) → Option Update
update_in None = None
update_in (Some None) = None
update_in (Some (Some packet)) = read_update packet

-- what an answer of the table is called in the report
abbrev pub outcome_of : Applied → Outcome3
outcome_of (applied_variant.Done ports) = outcome.Done
outcome_of (applied_variant.Refused error) = outcome.Refused (error_code error)
outcome_of applied_variant.Absent = outcome.Absent

abbrev pub read_outcome : TableValue → Option Update → Outcome3
read_outcome table None = outcome.Unread
read_outcome table (Some update) = outcome_of (applied table update)

-- what became of an exchange of class 3
abbrev pub update_outcome : TableValue → Option (Option Packet) → Option Outcome3
update_outcome table None = None
update_outcome table (Some None) = Some outcome.Missing
update_outcome table (Some (Some packet)) = Some (read_outcome table (read_update packet))

-- the group that an applied update names
abbrev pub if_done : Applied → ℕ → Option ℕ
if_done (applied_variant.Done ports) vid = Some vid
if_done (applied_variant.Refused error) vid = None
if_done applied_variant.Absent vid = None

abbrev pub group_changed : TableValue → Option Update → Option ℕ
group_changed table None = None
group_changed table (Some update) = if_done (applied table update) (named_group update)

-- the state with an applied update: the new table, a blank line for its group, and its ports cleared
abbrev pub changed_by : Applied → Update → State → State
changed_by (applied_variant.Done ports) update s = record {
  cycle = s.cycle;
  table = table_after s.table update;
  scoreboard = after_update (table_after s.table update) (named_group update) s.scoreboard;
  queues = cleared s.queues ports.items;
}
changed_by (applied_variant.Refused error) update s = s
changed_by applied_variant.Absent update s = s

abbrev pub with_update : Option Update → State → State
with_update None s = s
with_update (Some update) s = changed_by (applied s.table update) update s

-- ---- the cycle

-- the state after a rejoin that was taken just before the cycle
abbrev pub after_rejoin : State → Option ℕ → State
after_rejoin s rejoined = record { cycle = s.cycle; table = s.table; scoreboard = s.scoreboard; queues = emptied_at s.queues rejoined }

-- what a cycle shows
unfoldable pub shown_by : State → Input → Shown
shown_by s input =
    let queues = after_acts s.table s.queues input.acts in
    let patterns = pattern_round s.table queues input in
    let pattern = agreed_pattern s.table patterns in
    let decision = scoreboard_decision s.table s.cycle (voted_flags s.table pattern) s.scoreboard in
    let packets = packet_round s.table queues decision input in
    let entries = each_below s.table.n (entry_in s.table decision packets) in
    let agreed_update = update_packet s.table decision packets in
    record {
      cycle = s.cycle;
      table = s.table;
      answers = answers_to s.table s.queues input.acts;
      queues = queues;
      patterns = patterns;
      pattern = pattern;
      decision = decision;
      packets = packets;
      entries = entries;
      handed = each_below s.table.n (handed_at s.table (after_service s.table decision queues) decision entries);
      update = update_outcome s.table agreed_update;
      changed = group_changed s.table (update_in agreed_update);
    }

-- the state after the heads were popped and the packets delivered, and before an update
unfoldable pub served : State → Shown → State
served s shown = record {
  cycle = s.cycle + 1;
  table = s.table;
  scoreboard = scoreboard_after s.table s.cycle (voted_flags s.table shown.pattern) s.scoreboard;
  queues = after_deliveries s.table s.cycle shown.decision shown.entries (after_service s.table shown.decision shown.queues);
}

-- the state after a cycle
abbrev pub state_after : State → Shown → State
state_after s shown = with_update (update_in (update_packet s.table shown.decision shown.packets)) (served s shown)

-- one cycle
unfoldable pub step : State → Input → Cycle
step s input =
    let shown = shown_by (after_rejoin s input.rejoined) input in
    record { state = state_after (after_rejoin s input.rejoined) shown; shown = shown }
