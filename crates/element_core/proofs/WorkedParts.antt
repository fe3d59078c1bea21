-- What worked runs are made of: a table, cycles as a script plans them, what they are played to, and what is told of them.
use Rattle.std.proofs.Common.{◌≡◌, ℕ, List, [], ◌∷◌, replicate, map, length, refl}
use Rattle.std.specs.Prelude.{Option, Some, None, true, false, not, ◌+◌, ◌==◌, option_map, filter, if◌then◌else◌}
use Rattle.std.specs.List.{fold, flat_map}
use Rattle.std.specs.Int.Bits.{bit_xor}
use Rattle.ftpp_base.specs.Bits.{byte_where}
use Rattle.ftpp_base.specs.Lists.{below, each_below, cell_at, change_at, is_this}
use Rattle.ftpp_base.specs.Sets.{set_of}
use Rattle.ftpp_base.specs.declared.element.Proc.{Proc}
use Rattle.ftpp_base.specs.declared.element.Round.TheVariants.{A2, B2}
use Rattle.packet_format.specs.declared.Packet.{Packet}
use Rattle.packet_format.specs.declared.Descriptor.{Descriptor}
use Rattle.packet_format.specs.declared.acts.Act.{Act}
use Rattle.packet_format.specs.declared.acts.Act.TheVariants.{Post}
use Rattle.packet_format.specs.declared.acts.ActAnswer.{ActAnswer}
use Rattle.packet_format.specs.Packets.{filled_up, no_descriptor}
use Rattle.bit_vote.specs.Vote.{Cell, row_vote, vote}
use Rattle.bit_vote.specs.Agreed.{agreed, copy_at}
use Rattle.local_pattern.specs.declared.Entry.{Entry}
use Rattle.local_pattern.specs.Pattern.{read_entry, read_column}
use Rattle.config_table.specs.declared.groups.Group.{Group}
use Rattle.config_table.specs.declared.decisions.Kind.{Kind}
use Rattle.config_table.specs.declared.decisions.Decision.{Decision}
use Rattle.config_table.specs.declared.decisions.Decision.TheVariants.{Idle, Discard, Exchange}
use Rattle.config_table.specs.Table.{TableValue, group_error, table_error}
use Rattle.flag_vote.specs.Flags.{Pattern, voted_descriptor, flags_of}
use Rattle.scoreboard.specs.Board.{marked}
use Rattle.scoreboard.specs.Choice.{reason, is_eligible, kind_of, decision_of}
use Rattle.processor_buffers.specs.declared.Handed.{Handed}
use Rattle.processor_buffers.specs.declared.Handed.TheVariants.{Stored, Overrun}
use Rattle.table_update.specs.Updates.{updated, update_from}
use Rattle.data_exchange.specs.Entries.{members_vote, entry_at, held_alike}
use Rattle.syndrome_log.specs.declared.Syndrome.{Syndrome}
use Rattle.element_core.specs.declared.Outcome3.{Outcome3}
use Rattle.element_core.specs.Processors.{emptied_at, after_acts}
use Rattle.element_core.specs.Cycle.{State, Input, Shown, start, pattern_sent, step, shown_by, served}
use Rattle.element_core.specs.Run.{run, history}
use Rattle.element_core.specs.Sent.{cells_sent}
use Rattle.element_core.specs.Syndromes.{Relays, syndromes_at}

-- what a worked run computes with
unfoldable pub worked : Unit {0}
unfolding run history step shown_by served decision_of marked flags_of voted_descriptor read_column read_entry agreed copy_at is_eligible reason kind_of vote row_vote byte_where entry_at members_vote syndromes_at held_alike updated update_from table_error group_error
worked = tt

-- ---- the table of four elements

abbrev pub proc : ℕ → ℕ → Proc
proc ne port = record { ne = ne; port = port }

-- a group with the usual timeouts and limits
abbrev pub group : ℕ → List Proc → Group
group vid procs = record { vid = vid; members = record { items = procs }; masked = record { bits = 0 }; ts = 3; tr = 2; tx = 0; outs = 16; ins = 32 }

-- four elements; group 1 is the manager
abbrev pub first_group : Group
first_group = group 1 (proc 0 0 ∷ proc 1 0 ∷ proc 2 0 ∷ proc 3 0 ∷ [])

abbrev pub second_group : Group
second_group = group 2 (proc 0 1 ∷ proc 1 1 ∷ proc 2 1 ∷ [])

abbrev pub third_group : Group
third_group = group 3 (proc 1 2 ∷ proc 2 2 ∷ proc 3 2 ∷ [])

abbrev pub fourth_group : Group
fourth_group = group 4 (proc 3 1 ∷ [])

abbrev pub fifth_group : Group
fifth_group = group 5 (proc 0 3 ∷ [])

abbrev pub table_of : List Group → TableValue
table_of groups = record { n = 4; manager = 1; groups = groups }

abbrev pub four_elements : TableValue
four_elements = table_of (first_group ∷ second_group ∷ third_group ∷ fourth_group ∷ fifth_group ∷ [])

-- the same with another group 3
abbrev pub with_third : Group → TableValue
with_third g = table_of (first_group ∷ second_group ∷ g ∷ fourth_group ∷ fifth_group ∷ [])

-- it is valid
pub four_elements_valid : table_error four_elements ≡ None
unfolding worked
four_elements_valid = refl

-- five elements; group 1 is the manager, and no group has a member at each
abbrev pub five_elements : TableValue
five_elements = record {
  n = 5;
  manager = 1;
  groups =
      first_group
      ∷ group 2 (proc 1 1 ∷ proc 2 1 ∷ proc 3 1 ∷ [])
      ∷ group 3 (proc 2 2 ∷ proc 3 2 ∷ proc 4 2 ∷ [])
      ∷ group 4 (proc 0 3 ∷ proc 1 3 ∷ proc 3 3 ∷ proc 4 3 ∷ [])
      ∷ group 5 (proc 4 4 ∷ [])
      ∷ group 6 (proc 0 5 ∷ [])
      ∷ [];
}

pub five_elements_valid : table_error five_elements ≡ None
unfolding worked
five_elements_valid = refl

-- ---- packets, requests and acts

-- a packet that begins with these bytes
abbrev pub packet : List ℕ → Packet
packet bytes = record { bytes = filled_up 64 bytes }

-- a request of these three parts
abbrev pub to : ℕ → ℕ → ℕ → Descriptor
to dest class source = record { dest = dest; class = class; source = source }

abbrev pub to_three : Descriptor
to_three = to 3 1 0

abbrev pub packet_41 : Packet
packet_41 = packet (0x41 ∷ [])

-- a post of a packet that begins with these bytes
abbrev pub post : ℕ → ℕ → Descriptor → List ℕ → Act
post ne port desc bytes = Post (proc ne port) desc (packet bytes)

-- the same post at several elements
abbrev pub posts_at : List ℕ → ℕ → Descriptor → List ℕ → List Act
posts_at nes port desc bytes = map (λ ne. post ne port desc bytes) nes

-- the manager's members post an update of these bytes
abbrev pub updates_by : List ℕ → List ℕ → List Act
updates_by nes bytes = posts_at nes 0 (to 0 3 0) bytes

-- ---- cycles as a script plans them

-- A cycle of a script: who rejoined just before it, who is faulty in it, the acts, and what becomes of the faulty element's
-- cells of each round on their way to a receiver.
pub record Planned : Type 0 where
  pub rejoined : Option ℕ
  pub faulty : Option ℕ
  pub acts : List Act
  pub patterns : ℕ → Cell → Cell
  pub pattern_echoes : ℕ → List Cell → List Cell
  pub packets : ℕ → Cell → Cell
  pub packet_echoes : ℕ → List Cell → List Cell

-- a cycle with these acts in which that element is faulty, but sends what it should
abbrev pub obeyed : Option ℕ → List Act → Planned
obeyed faulty acts = record {
  rejoined = None;
  faulty = faulty;
  acts = acts;
  patterns = λ to cell. cell;
  pattern_echoes = λ to cells. cells;
  packets = λ to cell. cell;
  packet_echoes = λ to cells. cells;
}

-- a cycle without a fault
abbrev pub plain : List Act → Planned
plain acts = obeyed None acts

-- a cycle in which that element sends nothing
abbrev pub silent : ℕ → List Act → Planned
silent ne acts = record (obeyed (Some ne) acts) {
  patterns = λ to cell. None;
  pattern_echoes = λ to cells. [];
  packets = λ to cell. None;
  packet_echoes = λ to cells. [];
}

-- the cell with some bits of one byte flipped
abbrev pub flipped : ℕ → ℕ → Cell → Cell
flipped place bits cell = option_map (λ row. change_at (λ byte. bit_xor byte bits) row place) cell

-- what goes to one receiver changed so, and to another otherwise
abbrev pub to_two : ℕ → (Cell → Cell) → ℕ → (Cell → Cell) → ℕ → Cell → Cell
to_two one change other change_other to cell = if to == one then change cell else if to == other then change_other cell else cell

-- what comes from outside: what the frames of the faulty element read as, if there is one
abbrev pub input_if : State → Planned → Option ℕ → Input
input_if s c None = record { rejoined = c.rejoined; faulty = None; acts = c.acts; patterns = []; packets = [] }
input_if s c (Some f) =
    let queues = after_acts s.table (emptied_at s.queues c.rejoined) c.acts in
    let shows : Input = record {
      rejoined = c.rejoined;
      faulty = Some f;
      acts = c.acts;
      patterns = each_below s.table.n (λ to. c.patterns to (pattern_sent s.table queues f));
      packets = [];
    } in
    record shows { packets = each_below s.table.n (λ to. c.packets to (cell_at (step s shows).shown.packets.own f)) }

abbrev pub input_by : State → Planned → Input
input_by s c = input_if s c c.faulty

-- what the faulty element relays to each
abbrev pub said_if : Planned → Shown → Option ℕ → ℕ → Relays
said_if c shown None me = record { patterns = []; packets = [] }
said_if c shown (Some f) me = record { patterns = c.pattern_echoes me (cells_sent shown A2 f); packets = c.packet_echoes me (cells_sent shown B2 f) }

-- A cycle as it was played: what it showed, and what the faulty element relayed to each.
pub record Played : Type 0 where
  pub shown : Shown
  pub said : ℕ → Relays

abbrev pub played_from : State → List Planned → List Played
played_from s [] = []
played_from s (c ∷ cs) =
    let cycle = step s (input_by s c) in
    record { shown = cycle.shown; said = said_if c cycle.shown c.faulty } ∷ played_from cycle.state cs

abbrev pub played : TableValue → List Planned → List Played
played table script = played_from (start table) script

-- the state at the end
abbrev pub end_from : State → List Planned → State
end_from s [] = s
end_from s (c ∷ cs) = end_from (step s (input_by s c)).state cs

abbrev pub end_of : TableValue → List Planned → State
end_of table script = end_from (start table) script

-- ---- what is told

-- an exchange, and a discard, of members at these elements
abbrev pub serves : ℕ → Descriptor → Kind → ℕ → List ℕ → Decision
serves vid desc kind waited nes = Exchange (record { vid = vid; desc = desc; kind = kind; admitted = set_of nes; waited = waited })

abbrev pub discards : ℕ → Descriptor → ℕ → ℕ → List ℕ → Decision
discards vid desc number waited nes = Discard vid desc number (set_of nes) waited

abbrev pub decisions : List Played → List Decision
decisions cycles = map (λ (c : Played). c.shown.decision) cycles

abbrev pub answers : List Played → List (List ActAnswer)
answers cycles = map (λ (c : Played). c.shown.answers) cycles

abbrev pub updates : List Played → List (Option Outcome3)
updates cycles = map (λ (c : Played). c.shown.update) cycles

-- the entries and the deliveries of each cycle at some elements
abbrev pub results_at : List ℕ → List Played → List (List (Option Packet))
results_at nes cycles = map (λ (c : Played). map (cell_at c.shown.entries) nes) cycles

abbrev pub handed_at : List ℕ → List Played → List (List (Option (Proc × Handed)))
handed_at nes cycles = map (λ (c : Played). map (cell_at c.shown.handed) nes) cycles

-- what an element notes in each cycle
abbrev pub notes_at : ℕ → List Played → List (List Syndrome)
notes_at me cycles = map (λ (c : Played). syndromes_at c.shown (c.said me) me) cycles

-- what some elements note in the cycle of a script of one cycle
abbrev pub notes_of : List ℕ → List Played → List (List Syndrome)
notes_of nes cycles = flat_map (λ (c : Played). map (λ me. syndromes_at c.shown (c.said me) me) nes) cycles

-- the agreed pattern of each cycle
abbrev pub patterns : List Played → List Pattern
patterns cycles = map (λ (c : Played). c.shown.pattern) cycles

-- a port with room and no request, and one with a request
abbrev pub has_room : Entry
has_room = record { not_empty = false; not_full = true; desc = no_descriptor }

abbrev pub asks : Descriptor → Entry
asks desc = record { not_empty = true; not_full = true; desc = desc }

-- a column with room at all ports, and one with another entry at a port
abbrev pub roomy : List Entry
roomy = replicate 8 has_room

abbrev pub with_entry : ℕ → Entry → List Entry
with_entry port entry = change_at (λ e. entry) roomy port

-- How many exchanges, discards and idle cycles a run has, and how many deliveries were stored, how many were overruns and how
-- many entries were noted at fault-free elements.
pub record Totals : Type 0 where
  pub served : ℕ
  pub discarded : ℕ
  pub idle : ℕ
  pub stored : ℕ
  pub overrun : ℕ
  pub noted : ℕ

abbrev pub add_decision : Decision → Totals → Totals
add_decision Idle t = record t { idle = t.idle + 1 }
add_decision (Discard vid desc number admitted waited) t = record t { discarded = t.discarded + 1 }
add_decision (Exchange service) t = record t { served = t.served + 1 }

abbrev pub add_handed : Option (Proc × Handed) → Totals → Totals
add_handed None t = t
add_handed (Some (proc, Stored)) t = record t { stored = t.stored + 1 }
add_handed (Some (proc, Overrun)) t = record t { overrun = t.overrun + 1 }

abbrev pub add_element : Played → Totals → ℕ → Totals
add_element c t me = add_handed (cell_at c.shown.handed me) (record t { noted = t.noted + length (syndromes_at c.shown (c.said me) me) })

abbrev pub add_cycle : Totals → Played → Totals
add_cycle t c =
    add_decision c.shown.decision (fold (add_element c) t (filter (λ me. not (is_this c.shown.patterns.faulty me)) (below c.shown.table.n)))

abbrev pub totals : List Played → Totals
totals cycles = fold add_cycle (record { served = 0; discarded = 0; idle = 0; stored = 0; overrun = 0; noted = 0 }) cycles
