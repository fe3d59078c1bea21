-- One element among the others: its part of a state, what it takes in a cycle, and that by itself it holds its part of the run.
use Rattle.std.specs.Prelude.{◌≡◌, ◌≢◌, ℕ, ◌<◌, ◌≤◌, Bool, true, List, [], length, slice_index_or, Some}
use Rattle.std.specs.List.{AllByRecursion}
use Rattle.ftpp_base.specs.Lists.{each_below, cell_at}
use Rattle.ftpp_base.specs.declared.element.Proc.{Proc}
use Rattle.ftpp_base.specs.declared.element.Round.{Round}
use Rattle.packet_format.specs.declared.acts.Act.{Act}
use Rattle.packet_format.specs.declared.acts.Act.TheVariants.{Post, Read}
use Rattle.bit_vote.specs.Vote.{Cell, IsCell, IsRow}
use Rattle.bit_vote.specs.Agreed.{FirstRound, agreed, copy_at}
use Rattle.two_round.specs.Echoes.{result_for}
use Rattle.config_table.specs.Table.{TableValue, IsValid, in_limit}
use Rattle.processor_buffers.specs.Queues.{Queues, Posted}
use Rattle.element_core.specs.Processors.{AllQueues, ports_of, queues_of, emptied_at, after_acts}
use Rattle.element_core.specs.Cycle.{State, Input, Shown, Cycle, start, step}
use Rattle.element_core.specs.Run.{Journal, run}
use Rattle.element_core.specs.Sent.{is_relayed, cells_sent}
use Rattle.element_core.specs.Syndromes.{Relays, relayed_cell, syndromes_at}
use Rattle.element_core.specs.Element.{Kept, Heard, Made, made, kept_after}
use Rattle.element_core.specs.Noted.{cells_made, noted_by}

-- ---- states and inputs as they come

-- A packet that waits: its request is three bytes, and it has 64 bytes.
pub record IsPosted (posted : Posted) : Type 0 where
  pub dest : posted.0.dest < 256
  pub class : posted.0.class < 256
  pub source : posted.0.source < 256
  pub row : IsRow 64 posted.1.bytes

-- all that waits in an output, at one element, and at all
abbrev pub AreQueues : Queues → Type 0
AreQueues q = AllByRecursion IsPosted q.output

abbrev pub ArePorts : List Queues → Type 0
ArePorts ports = AllByRecursion AreQueues ports

abbrev pub AreAllQueues : AllQueues → Type 0
AreAllQueues all = AllByRecursion ArePorts all

-- the eight ports of each of n elements
abbrev pub HasEight : List Queues → Type 0
HasEight ports = length ports ≡ 8

abbrev pub HasPorts : ℕ → AllQueues → Type 0
HasPorts n all = (length all ≡ n) × AllByRecursion HasEight all

-- no input holds more than its limit
abbrev pub IsWithin : TableValue → AllQueues → Type 0
IsWithin table all = (proc : Proc) → length (queues_of all proc).input ≤ in_limit table proc

-- A state as a run reaches it: a valid table, whole packets that wait, eight ports at each element, and inputs within their limits.
pub record IsSound (s : State) : Type 0 where
  pub valid : IsValid s.table
  pub waiting : AreAllQueues s.queues
  pub ports : HasPorts s.table.n s.queues
  pub within : IsWithin s.table s.queues

-- an act posts a packet as it is
abbrev pub IsAct : Act → Type 0
IsAct (Post proc desc packet) = IsPosted (desc, packet)
IsAct (Read proc) = Unit {0}

-- What comes from outside a cycle among n elements, as it is.
pub record IsInput (n : ℕ) (input : Input) : Type 0 where
  pub faulty : (ne : ℕ) → input.faulty ≡ Some ne → ne < n
  pub acts : AllByRecursion IsAct input.acts
  pub patterns : length input.patterns ≡ n
  pub packets : length input.packets ≡ n
  pub pattern_cells : (s : ℕ) → IsCell 32 (cell_at input.patterns s)
  pub packet_cells : (s : ℕ) → IsCell 64 (cell_at input.packets s)

-- What the faulty element's frames of A2 and of B2 read as has cells of their widths.
pub record AreRelays (said : Relays) : Type 0 where
  pub patterns : (s : ℕ) → IsCell 32 (cell_at said.patterns s)
  pub packets : (s : ℕ) → IsCell 64 (cell_at said.packets s)

-- ---- what one element keeps and takes

-- an element's part of a state
abbrev pub part_of : State → ℕ → Kept
part_of s ne = record { me = ne; cycle = s.cycle; table = s.table; scoreboard = s.scoreboard; ports = ports_of s.queues ne }

-- the state just before the rounds of a cycle: after a rejoin, and the acts
abbrev pub before_rounds : State → Input → State
before_rounds s input = record {
  cycle = s.cycle;
  table = s.table;
  scoreboard = s.scoreboard;
  queues = after_acts s.table (emptied_at s.queues input.rejoined) input.acts;
}

-- What an element takes of a first round and of its echoes: of each other sender the copy, and of each other relay the cells
-- about the senders that count, which are the relay's copies, or anything where it is faulty.
pub record TakesRound (n : ℕ) (round : FirstRound) (said : List Cell) (counts : ℕ → Bool) (me : ℕ) (heard : List Cell) (relayed : List (List Cell)) : Type 0 where
  pub count : length heard ≡ n
  pub copy : (s : ℕ) → s < n → s ≢ me → cell_at heard s ≡ copy_at round me s
  pub cells : (relay : ℕ) → relay < n → relay ≢ me → length (slice_index_or relayed relay []) ≡ n
  pub relay : (relay s : ℕ) → relay < n → relay ≢ me → s < n → counts s ≡ true → cell_at (slice_index_or relayed relay []) s ≡ relayed_cell round said relay s

-- What it takes in a cycle.
pub record Takes (shown : Shown) (said : Relays) (me : ℕ) (heard : Heard) : Type 0 where
  pub patterns : TakesRound shown.table.n shown.patterns said.patterns (λ s. true) me heard.patterns heard.relayed_patterns
  pub packets : TakesRound shown.table.n shown.packets said.packets (is_relayed shown.decision) me heard.packets heard.relayed_packets

-- ---- what it holds

-- What an element makes of a cycle is its part of what the cycle shows; its copies are those of the run, and its results the agreed values.
pub record MakesItsPart (shown : Shown) (me : ℕ) (m : Made) : Type 0 where
  pub pattern : m.pattern ≡ shown.pattern
  pub decision : m.decision ≡ shown.decision
  pub entry : m.entry ≡ cell_at shown.entries me
  pub handed : m.handed ≡ cell_at shown.handed me
  pub update : m.update ≡ shown.update
  pub pattern_copies : m.patterns.copies ≡ each_below shown.table.n (copy_at shown.patterns me)
  pub packet_copies : m.packets.copies ≡ each_below shown.table.n (copy_at shown.packets me)
  pub pattern_results : (s : ℕ) → result_for m.patterns s ≡ agreed shown.patterns s
  pub packet_results : (s : ℕ) → is_relayed shown.decision s ≡ true → result_for m.packets s ≡ agreed shown.packets s

-- An element by itself makes its part of a cycle, keeps its part of the state after it, sends what the run says, and notes what the run says.
pub record HoldsItsPart (cycle : Cycle) (said : Relays) (me : ℕ) (kept : Kept) (heard : Heard) : Type 0 where
  pub makes : MakesItsPart cycle.shown me (made kept heard)
  pub keeps : kept_after kept (made kept heard) ≡ part_of cycle.state me
  pub sends : (round : Round) → cells_made kept heard round ≡ cells_sent cycle.shown round me
  pub notes : noted_by kept (made kept heard) ≡ syndromes_at cycle.shown said me

-- Each element alone holds its part of the one run, whichever one is faulty, and whatever that one sends.
abbrev pub EachElementAlone : Type 0
EachElementAlone = (s : State) (input : Input) (said : Relays) (me : ℕ) (heard : Heard)
    → IsSound s → IsInput s.table.n input → AreRelays said → me < s.table.n
    → Takes (step s input).shown said me heard
    → HoldsItsPart (step s input) said me (part_of (before_rounds s input) me) heard

-- What a state has to be, it is at the start.
abbrev pub StartsSound : Type 0
StartsSound = (table : TableValue) → IsValid table → IsSound (start table)

-- What a state has to be stays so.
abbrev pub StaysSound : Type 0
StaysSound = (s : State) (input : Input) → IsSound s → IsInput s.table.n input → IsSound (step s input).state

-- A run stays sound, among as many elements.
abbrev pub RunsStaySound : Type 0
RunsStaySound = (table : TableValue) (journal : Journal) → IsValid table → AllByRecursion (IsInput table.n) journal
    → IsSound (run table journal) × ((run table journal).table.n ≡ table.n)
