-- What is claimed: the frames of a run follow for its faulty element.
use Rattle.std.specs.Prelude.{◌≡◌, ◌≢◌, ℕ, ◌<◌, ◌≤◌, true, false, List, [], ◌∷◌, Option, Some, None, option_map, ◌*◌, ◌⊎◌, length}
use Rattle.std.specs.List.{AllByRecursion, flat_map}
use Rattle.ftpp_base.specs.Lists.{cell_at, is_this}
use Rattle.ftpp_base.specs.declared.element.Proc.{Proc}
use Rattle.ftpp_base.specs.declared.element.Round.{Round}
use Rattle.ftpp_base.specs.declared.element.Round.TheVariants.{A1, B1}
use Rattle.packet_format.specs.declared.Descriptor.{Descriptor}
use Rattle.frame_format.specs.Frames.{first_cell, reads_as}
use Rattle.local_pattern.specs.declared.Entry.{Entry}
use Rattle.local_pattern.specs.Pattern.{entry_of}
use Rattle.config_table.specs.Table.{TableValue, IsValid}
use Rattle.processor_buffers.specs.Queues.{Posted}
use Rattle.element_core.specs.Processors.{head_at}
use Rattle.element_core.specs.Cycle.{State, Input, Shown, start, step}
use Rattle.element_core.specs.Run.{Journal}
use Rattle.element_core.specs.Sent.{frame_sent}
use Rattle.element_core.specs.Alone.{IsSound, IsInput}
use Rattle.trace_audit.specs.Known.{Known, Frames, known_after, is_expected, AreExpected}
use Rattle.trace_audit.specs.Trace.{Follows, Breaks, listed, per_cycle, place_of}

-- The frames of a cycle of a run: each fault-free element's are those that it sends, and the faulty one's may be any, where
-- those of A1 and B1 read as what comes from outside.
pub record AreFramesOf (shown : Shown) (input : Input) (frames : Frames) : Type 0 where
  pub honest : (round : Round) (sender receiver : ℕ) → sender < shown.table.n → receiver < shown.table.n → sender ≢ receiver → is_this input.faulty sender ≡ false
      → frames round sender receiver ≡ frame_sent shown round sender
  pub patterns : (sender receiver : ℕ) → receiver < shown.table.n → sender ≢ receiver → is_this input.faulty sender ≡ true
      → first_cell (reads_as shown.table.n (record { cycle = shown.cycle; round = A1 }) sender (frames A1 sender receiver)) ≡ cell_at input.patterns receiver
  pub packets : (sender receiver : ℕ) → receiver < shown.table.n → sender ≢ receiver → is_this input.faulty sender ≡ true
      → first_cell (reads_as shown.table.n (record { cycle = shown.cycle; round = B1 }) sender (frames B1 sender receiver)) ≡ cell_at input.packets receiver

-- the request of a head, if there is one
abbrev pub request_of : Option Posted → Option Descriptor
request_of head = option_map (λ posted. posted.0) head

-- what was shown of a port is its head, where it showed one
abbrev pub Stands : Entry → Option Posted → Type 0
Stands before head = before.not_empty ≡ true → request_of head ≡ Some before.desc

-- What is known is a state's: its number, table and scoreboard, and heads that stand at each fault-free element.
pub record IsKnown (s : State) (faulty : Option ℕ) (known : Known) : Type 0 where
  pub cycle : known.cycle ≡ s.cycle
  pub table : known.table ≡ s.table
  pub scoreboard : known.scoreboard ≡ s.scoreboard
  pub standing : (proc : Proc) → proc.ne < s.table.n → proc.port < 8 → is_this faulty proc.ne ≡ false
      → Stands (entry_of known.standing proc) (head_at s.queues proc)

-- The frames of each cycle of a run are expected, and what is known stays that of the state.
abbrev pub CycleFollows : Type 0
CycleFollows = (s : State) (input : Input) (known : Known) (frames : Frames)
    → IsSound s → IsInput s.table.n input → input.rejoined ≡ None → IsKnown s input.faulty known → AreFramesOf (step s input).shown input frames
    → AreExpected known input.faulty frames × IsKnown (step s input).state input.faulty (known_after known input.faulty frames)

-- An input with no rejoin before it, and with this element faulty.
pub record IsCalm (faulty : Option ℕ) (input : Input) : Type 0 where
  pub rejoined : input.rejoined ≡ None
  pub same : input.faulty ≡ faulty

-- the frames of each cycle from a state on
abbrev pub AreRunFrames : State → Journal → List Frames → Type 0
AreRunFrames s [] [] = Unit {0}
AreRunFrames s [] (frames ∷ more) = ⊥
AreRunFrames s (input ∷ journal) [] = ⊥
AreRunFrames s (input ∷ journal) (frames ∷ more) = AreFramesOf (step s input).shown input frames × AreRunFrames (step s input).state journal more

-- The frames of every run without a rejoin, in the order of a trace, follow for its faulty element, or for none.
abbrev pub RunsFollow : Type 0
RunsFollow = (table : TableValue) (journal : Journal) (faulty : Option ℕ) (cycles : List Frames)
    → IsValid table → AllByRecursion (IsInput table.n) journal → AllByRecursion (IsCalm faulty) journal → AreRunFrames (start table) journal cycles
    → Follows table faulty (flat_map (listed table.n) cycles)

-- ---- what is expected depends on earlier frames

-- frames of two cycles are the same up to a place
abbrev pub AlikeUpTo : ℕ → Frames → Frames → ℕ → Type 0
AlikeUpTo n one other upto =
    (round : Round) (sender receiver : ℕ) → sender < n → receiver < n → sender ≢ receiver → place_of n round sender receiver ≤ upto
    → one round sender receiver ≡ other round sender receiver

-- Whether a frame is expected depends on that frame and on earlier ones alone.
abbrev pub LooksBack : Type 0
LooksBack = (known : Known) (named : Option ℕ) (one other : Frames) (round : Round) (sender receiver : ℕ)
    → (known.table.n ≡ 4) ⊎ (known.table.n ≡ 5) → ((ne : ℕ) → named ≡ Some ne → ne < known.table.n)
    → sender < known.table.n → receiver < known.table.n → sender ≢ receiver → is_this named sender ≡ false
    → AlikeUpTo known.table.n one other (place_of known.table.n round sender receiver)
    → is_expected known named one round sender receiver ≡ is_expected known named other round sender receiver

-- What is known after a cycle depends on its frames alone.
abbrev pub AlikeKnown : Type 0
AlikeKnown = (known : Known) (named : Option ℕ) (one other : Frames)
    → (known.table.n ≡ 4) ⊎ (known.table.n ≡ 5) → ((ne : ℕ) → named ≡ Some ne → ne < known.table.n)
    → ((round : Round) (sender receiver : ℕ) → sender < known.table.n → receiver < known.table.n → sender ≢ receiver → one round sender receiver ≡ other round sender receiver)
    → known_after known named one ≡ known_after known named other

-- ---- verdicts

-- A trace that follows does not break.
abbrev pub NeverBoth : Type 0
NeverBoth = (table : TableValue) (named : Option ℕ) (trace : List (List ℕ)) (cycle : ℕ) (round : Round) (sender receiver : ℕ)
    → Follows table named trace → Breaks table named trace cycle round sender receiver → ⊥

-- A trace of whole cycles follows, or breaks somewhere.
abbrev pub AlwaysOne : Type 0
AlwaysOne = (table : TableValue) (named : Option ℕ) (trace : List (List ℕ)) (cycles : ℕ)
    → IsValid table → ((ne : ℕ) → named ≡ Some ne → ne < table.n) → length trace ≡ cycles * per_cycle table.n
    → Follows table named trace ⊎ ((cycle : ℕ) × (round : Round) × (sender : ℕ) × (receiver : ℕ) × Breaks table named trace cycle round sender receiver)
