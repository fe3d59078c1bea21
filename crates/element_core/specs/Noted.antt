-- What an element sends and notes by what it keeps and hears itself.
use Rattle.std.specs.Prelude.{ℕ, List, [], ◌∷◌, slice_set, Some, None, if◌then◌else◌}
use Rattle.ftpp_base.specs.Lists.{each_below, cell_at}
use Rattle.ftpp_base.specs.declared.element.Round.{Round}
use Rattle.ftpp_base.specs.declared.element.Round.TheVariants.{A1, A2, B1, B2}
use Rattle.bit_vote.specs.Vote.{Cell}
use Rattle.two_round.specs.Echoes.{Echoes, result_for}
use Rattle.local_pattern.specs.Pattern.{column_bytes}
use Rattle.config_table.specs.declared.decisions.Decision.{Decision}
use Rattle.config_table.specs.declared.decisions.Decision.TheVariants.{Idle, Discard, Exchange}
use Rattle.config_table.specs.Table.{TableValue}
use Rattle.flag_vote.specs.Flags.{voted_flags}
use Rattle.scoreboard.specs.Choice.{scoreboard_decision}
use Rattle.data_exchange.specs.Entries.{entry_by}
use Rattle.syndrome_log.specs.declared.Syndrome.{Syndrome}
pub use Rattle.element_notes.specs.Notes.{is_off_copy, is_off_relay, off_copies, off_by, off_relays, absent_ones, says_full_at, full_ones, own_compared, is_off_value, off_values, notes_of}
use Rattle.element_core.specs.Processors.{column_of}
use Rattle.element_core.specs.Sent.{is_relayed}
use Rattle.element_core.specs.Element.{Kept, Heard, Made, echoes_of, settled, own_packet}

-- ---- what it sends

-- its own cell of A1: it shows its ports
abbrev pub own_pattern : Kept → Cell
own_pattern kept = Some (column_bytes (column_of kept.table kept.me kept.ports))

-- its decision, by what it heard in A1 and A2
abbrev pub decided_by : Kept → List Cell → List (List Cell) → Decision
decided_by kept patterns relayed =
    scoreboard_decision kept.table kept.cycle (voted_flags kept.table (settled kept.table.n (echoes_of kept.me (own_pattern kept) patterns relayed))) kept.scoreboard

-- the copies that it relays after a first round: its own cell in its own place
abbrev pub echo_of : ℕ → Cell → List Cell → List Cell
echo_of me own heard = slice_set heard me own

-- a copy, where its sender counts
abbrev pub where_relayed : Decision → List Cell → ℕ → Cell
where_relayed decision copies sender = if is_relayed decision sender then cell_at copies sender else None

-- the cells of its frame of a round: what it heard in that round and later ones is not looked at
abbrev pub cells_made : Kept → Heard → Round → List Cell
cells_made kept heard A1 = own_pattern kept ∷ []
cells_made kept heard A2 = echo_of kept.me (own_pattern kept) heard.patterns
cells_made kept heard B1 = own_packet kept (decided_by kept heard.patterns heard.relayed_patterns) ∷ []
cells_made kept heard B2 =
    let decision = decided_by kept heard.patterns heard.relayed_patterns in
    each_below kept.table.n (where_relayed decision (echo_of kept.me (own_packet kept decision) heard.packets))

-- ---- what it notes

-- the row of the entry that it came to
abbrev pub own_entry_row : TableValue → Decision → Echoes → Cell
own_entry_row table Idle echoes = None
own_entry_row table (Discard vid desc number admitted waited) echoes = None
own_entry_row table (Exchange service) echoes = entry_by service.kind table service (cell_at echoes.copies) (result_for echoes)

-- all that it notes in a cycle, in order
abbrev pub noted_by : Kept → Made → List Syndrome
noted_by kept m =
    notes_of kept.cycle kept.table m.pattern m.decision m.patterns m.packets (own_entry_row kept.table m.decision m.packets)
