-- What one who sees only frames makes of a cycle: what each frame is expected to be, given the earlier ones, and what is known after it.
use Rattle.std.specs.Prelude.{◌≡◌, ◌≢◌, ℕ, ◌+◌, ◌<◌, Bool, true, false, ◌&&◌, ◌==◌, List, [], map, replicate, slice_range, ◌*◌, Option, Some, None, is_some, is_none, if◌then◌else◌}
use Rattle.std.specs.List.{list_all, list_any}
use Rattle.ftpp_base.specs.Bits.{eight}
use Rattle.ftpp_base.specs.Lists.{each_below, is_this}
use Rattle.ftpp_base.specs.declared.element.Proc.{Proc}
use Rattle.ftpp_base.specs.declared.element.Round.{Round}
use Rattle.ftpp_base.specs.declared.element.Round.TheVariants.{A1, A2, B1, B2}
use Rattle.ftpp_base.specs.declared.element.Slot.{Slot}
use Rattle.packet_format.specs.Packets.{same_bytes, same_descriptor}
use Rattle.bit_vote.specs.Vote.{Cell}
use Rattle.bit_vote.specs.Agreed.{FirstRound, copy_at}
use Rattle.local_pattern.specs.declared.Entry.{Entry}
use Rattle.local_pattern.specs.Pattern.{quiet, quiet_column, entry_bytes, entry_from, entry_of, read_entry}
use Rattle.config_table.specs.declared.decisions.Decision.{Decision}
use Rattle.config_table.specs.declared.decisions.Decision.TheVariants.{Idle, Discard, Exchange}
use Rattle.config_table.specs.Groups.{same_proc}
use Rattle.config_table.specs.Table.{TableValue}
use Rattle.flag_vote.specs.Flags.{Pattern, voted_flags}
use Rattle.scoreboard.specs.Board.{Scoreboard, empty_scoreboard, after_update}
use Rattle.scoreboard.specs.Choice.{scoreboard_decision, scoreboard_after}
use Rattle.frame_format.specs.Frames.{decoded, reads_as, first_cell, frame_bytes}
use Rattle.table_update.specs.declared.Update.{Update}
use Rattle.table_update.specs.declared.Applied.{Applied}
use Rattle.table_update.specs.declared.Applied.TheVariants as applied_variant
use Rattle.table_update.specs.Updates.{applied, table_after, named_group}
use Rattle.data_exchange.specs.Entries.{contributes}
use Rattle.element_core.specs.Cycle.{agreed_pattern, admitted_members, update_in, update_packet}
use Rattle.config_table.specs.Kinds.{is_relayed}

-- What is known at the beginning of a cycle: its number, the table, the scoreboard, and of each port what it showed in the
-- cycle before, where the head that it showed still stands; a port whose head went counts as quiet.
pub record Known : Type 0 where
  pub cycle : ℕ
  pub table : TableValue
  pub scoreboard : Scoreboard
  pub standing : Pattern

-- before the first cycle: no requests, and nothing was shown
abbrev pub known_first : TableValue → Known
known_first table = record { cycle = 0; table = table; scoreboard = empty_scoreboard table; standing = replicate table.n quiet_column }

-- The frames of a cycle: the bytes of a round, from one element to another.
abbrev pub Frames : Type 0
Frames = Round → ℕ → ℕ → List ℕ

-- the round of a cycle
abbrev pub slot_of : Known → Round → Slot
slot_of known round = record { cycle = known.cycle; round = round }

-- the least element that another sends to
abbrev pub least_receiver : ℕ → ℕ
least_receiver sender = if sender == 0 then 1 else 0

-- ---- first rounds, as their frames tell them

-- the cell that a frame of A1 or of B1 reads as
abbrev pub cell_told : Known → Frames → Round → ℕ → ℕ → Cell
cell_told known frames round sender receiver = first_cell (reads_as known.table.n (slot_of known round) sender (frames round sender receiver))

-- an element's own value: what its frame to its least receiver reads as
abbrev pub own_told : Known → Frames → Round → ℕ → Cell
own_told known frames round sender = cell_told known frames round sender (least_receiver sender)

-- what the named element's frame to a receiver reads as
abbrev pub heard_told : Known → Option ℕ → Frames → Round → ℕ → Cell
heard_told known None frames round receiver = None
heard_told known (Some named) frames round receiver = cell_told known frames round named receiver

-- a first round: only the named element may tell each receiver something else
unfoldable pub round_told : Known → Option ℕ → Frames → Round → FirstRound
round_told known named frames round = record {
  faulty = named;
  own = each_below known.table.n (own_told known frames round);
  heard = each_below known.table.n (heard_told known named frames round);
}

-- the agreed pattern
unfoldable pub pattern_told : Known → Option ℕ → Frames → Pattern
pattern_told known named frames = agreed_pattern known.table (round_told known named frames A1)

-- the decision
unfoldable pub decision_told : Known → Option ℕ → Frames → Decision
decision_told known named frames =
    scoreboard_decision known.table known.cycle (voted_flags known.table (pattern_told known named frames)) known.scoreboard

-- ---- what a frame of A1 has to show

-- the four bytes of a port
abbrev pub port_bytes : List ℕ → ℕ → List ℕ
port_bytes row port = slice_range row (4 * port) (4 * port + 4)

-- whether four bytes are in the grammar of an entry
abbrev pub is_entry : List ℕ → Bool
is_entry bytes = same_bytes bytes (entry_bytes (entry_from bytes))

-- whether an entry still shows the head that stands, if there is one
abbrev pub keeps_head : Entry → Entry → Bool
keeps_head before entry = if before.not_empty then entry.not_empty && same_descriptor entry.desc before.desc else true

-- whether the four bytes of a port are an entry that does
unfoldable pub shows_port : Pattern → ℕ → List ℕ → ℕ → Bool
shows_port standing ne row port =
    is_entry (port_bytes row port) && keeps_head (entry_of standing (record { ne = ne; port = port })) (read_entry (port_bytes row port))

-- whether a cell shows all eight ports
abbrev pub shows_ports : Pattern → ℕ → Cell → Bool
shows_ports standing ne None = false
shows_ports standing ne (Some row) = list_all (shows_port standing ne row) eight

-- ---- what a frame of B1 has to carry

-- whether an element contributes to what is decided
abbrev pub sends_packet : Decision → ℕ → Bool
sends_packet Idle ne = false
sends_packet (Discard vid desc number admitted waited) ne = false
sends_packet (Exchange service) ne = contributes service ne

-- whether what was decoded is a frame whose cell is there, or one whose cell is absent
abbrev pub is_frame_with : Bool → Option (List Cell) → Bool
is_frame_with there None = false
is_frame_with there (Some cells) = if there then is_some (first_cell cells) else is_none (first_cell cells)

-- the copy that is relayed in B2, if one is
abbrev pub copy_relayed : Decision → FirstRound → ℕ → ℕ → Cell
copy_relayed decision round ne sender = if is_relayed decision sender then copy_at round ne sender else None

-- ---- each frame

-- the cells that an element relays in A2 and in B2
abbrev pub patterns_relayed : Known → Option ℕ → Frames → ℕ → List Cell
patterns_relayed known named frames sender = each_below known.table.n (copy_at (round_told known named frames A1) sender)

abbrev pub packets_relayed : Known → Option ℕ → Frames → ℕ → List Cell
packets_relayed known named frames sender =
    each_below known.table.n (copy_relayed (decision_told known named frames) (round_told known named frames B1) sender)

-- whether a frame is the one of those cells
abbrev pub is_frame_of : Known → Frames → Round → ℕ → ℕ → List Cell → Bool
is_frame_of known frames round sender receiver cells = same_bytes (frames round sender receiver) (frame_bytes (slot_of known round) sender cells)

-- whether a frame passes: to the least receiver by a test, and to the others as the same bytes
abbrev pub is_first_frame : Frames → Round → ℕ → ℕ → Bool → Bool
is_first_frame frames round sender receiver passes =
    if receiver == least_receiver sender then passes else same_bytes (frames round sender receiver) (frames round sender (least_receiver sender))

-- Whether the frame of a round, from one element to another, is expected. A1 shows ports in which what stands is kept; B1 has
-- a cell exactly where the element contributes; A2 and B2 are what the element relays of what it was told.
unfoldable pub is_expected : Known → Option ℕ → Frames → Round → ℕ → ℕ → Bool
is_expected known named frames A1 sender receiver =
    is_first_frame frames A1 sender receiver (shows_ports known.standing sender (own_told known frames A1 sender))
is_expected known named frames A2 sender receiver = is_frame_of known frames A2 sender receiver (patterns_relayed known named frames sender)
is_expected known named frames B1 sender receiver =
    is_first_frame frames B1 sender receiver
    (is_frame_with (sends_packet (decision_told known named frames) sender)
    (decoded known.table.n (slot_of known B1) sender (frames B1 sender (least_receiver sender))))
is_expected known named frames B2 sender receiver = is_frame_of known frames B2 sender receiver (packets_relayed known named frames sender)

-- each frame of every element but the named one is expected
abbrev pub AreExpected : Known → Option ℕ → Frames → Type 0
AreExpected known named frames =
    (round : Round) (sender receiver : ℕ) → sender < known.table.n → receiver < known.table.n → sender ≢ receiver → is_this named sender ≡ false
    → is_expected known named frames round sender receiver ≡ true

-- ---- what is known after the cycle

-- whether a processor is one of some
abbrev pub is_among : List Proc → Proc → Bool
is_among procs proc = list_any (same_proc proc) procs

-- what a port showed, where its head still stands
abbrev pub still_entry : Pattern → List Proc → ℕ → ℕ → Entry
still_entry pattern gone ne port =
    if is_among gone (record { ne = ne; port = port }) then quiet else entry_of pattern (record { ne = ne; port = port })

-- the column of an element, without the heads that went
unfoldable pub still_column : Pattern → List Proc → ℕ → List Entry
still_column pattern gone ne = map (still_entry pattern gone ne) eight

-- what all ports showed, without the heads that went
unfoldable pub still_standing : ℕ → Pattern → List Proc → Pattern
still_standing n pattern gone = each_below n (still_column pattern gone)

-- the processors whose heads are popped: the admitted members of what is served or discarded
abbrev pub popped : TableValue → Decision → List Proc
popped table Idle = []
popped table (Discard vid desc number admitted waited) = admitted_members table vid admitted
popped table (Exchange service) = admitted_members table service.vid service.admitted

-- what is known with an applied update: the new table, a blank line for its group, and its ports cleared
abbrev pub known_by : Applied → Update → Known → Known
known_by (applied_variant.Done ports) update known = record {
  cycle = known.cycle;
  table = table_after known.table update;
  scoreboard = after_update (table_after known.table update) (named_group update) known.scoreboard;
  standing = still_standing known.table.n known.standing ports.items;
}
known_by (applied_variant.Refused error) update known = known
known_by applied_variant.Absent update known = known

abbrev pub known_with : Option Update → Known → Known
known_with None known = known
known_with (Some update) known = known_by (applied known.table update) update known

-- the update that the frames of B1 tell
unfoldable pub update_told : Known → Option ℕ → Frames → Option Update
update_told known named frames = update_in (update_packet known.table (decision_told known named frames) (round_told known named frames B1))

-- what is known after the heads were popped, and before an update
unfoldable pub known_served : Known → Option ℕ → Frames → Known
known_served known named frames = record {
  cycle = known.cycle + 1;
  table = known.table;
  scoreboard = scoreboard_after known.table known.cycle (voted_flags known.table (pattern_told known named frames)) known.scoreboard;
  standing = still_standing known.table.n (pattern_told known named frames) (popped known.table (decision_told known named frames));
}

-- what is known after a cycle
unfoldable pub known_after : Known → Option ℕ → Frames → Known
known_after known named frames = known_with (update_told known named frames) (known_served known named frames)
