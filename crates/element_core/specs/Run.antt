-- A run: the cycles of a journal, one after another, from a table.
use Rattle.std.specs.Prelude.{◌≡◌, ℕ, List, [], ◌∷◌, take, slice_index_or, Option, Some, None, filter_map}
use Rattle.packet_format.specs.declared.Packet.{Packet}
use Rattle.config_table.specs.declared.decisions.Service.{Service}
use Rattle.config_table.specs.declared.decisions.Decision.{Decision}
use Rattle.config_table.specs.declared.decisions.Decision.TheVariants.{Idle, Discard, Exchange}
use Rattle.config_table.specs.Table.{TableValue}
use Rattle.scoreboard.specs.Board.{Scoreboard}
use Rattle.element_core.specs.Cycle.{State, Input, Shown, start, step}

-- What came from outside in each cycle, the oldest first.
abbrev pub Journal : Type 0
Journal = List Input

-- the state after the cycles of a journal
abbrev pub run_from : State → Journal → State
run_from s [] = s
run_from s (input ∷ journal) = run_from (step s input).state journal

-- what each cycle showed
abbrev pub history_from : State → Journal → List Shown
history_from s [] = []
history_from s (input ∷ journal) = (step s input).shown ∷ history_from (step s input).state journal

unfoldable pub run : TableValue → Journal → State
run table journal = run_from (start table) journal

unfoldable pub history : TableValue → Journal → List Shown
history table journal = history_from (start table) journal

-- ---- one cycle of a run, by its number

-- the state at the beginning of a cycle
abbrev pub state_at : TableValue → Journal → ℕ → State
state_at table journal k = run table (take k journal)

abbrev pub no_input : Input
no_input = record { rejoined = None; faulty = None; acts = []; patterns = []; packets = [] }

-- what came from outside in a cycle
abbrev pub input_at : Journal → ℕ → Input
input_at journal k = slice_index_or journal k no_input

-- what a cycle showed
abbrev pub shown_at : TableValue → Journal → ℕ → Shown
shown_at table journal k = (step (state_at table journal k) (input_at journal k)).shown

-- ---- what a run gives

-- What an exchange leaves in the log: its cycle, the request that was served, and the entry at each element.
pub record LogEntry : Type 0 where
  pub cycle : ℕ
  pub service : Service
  pub entries : List (Option Packet)

abbrev pub log_entry : ℕ → List (Option Packet) → Decision → Option LogEntry
log_entry cycle entries Idle = None
log_entry cycle entries (Discard vid desc number admitted waited) = None
log_entry cycle entries (Exchange service) = Some (record { cycle = cycle; service = service; entries = entries })

-- the log of a run: its exchanges, in order
abbrev pub log_of : TableValue → Journal → List LogEntry
log_of table journal = filter_map (λ shown. log_entry shown.cycle shown.entries shown.decision) (history table journal)

-- What the elements agree on at the beginning of a cycle.
pub record AgreedState : Type 0 where
  pub cycle : ℕ
  pub table : TableValue
  pub scoreboard : Scoreboard

abbrev pub agreed_state : State → AgreedState
agreed_state s = record { cycle = s.cycle; table = s.table; scoreboard = s.scoreboard }

-- The faulty element of a cycle follows that of the cycle before: the same, unless that one rejoined.
abbrev pub Follows : Option ℕ → Option ℕ → Option ℕ → Type 0
Follows before None faulty = faulty ≡ before
Follows before (Some ne) faulty = before ≡ Some ne

-- A journal whose faulty element changes only where it rejoins. The first argument is the one faulty before.
abbrev pub IsJournal : Option ℕ → Journal → Type 0
IsJournal before [] = Unit {0}
IsJournal before (input ∷ journal) = Follows before input.rejoined input.faulty × IsJournal input.faulty journal
