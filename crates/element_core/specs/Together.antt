-- All elements together: each takes what was carried of the frames that the others made by themselves.
use Rattle.std.specs.Prelude.{◌≡◌, ◌≢◌, ℕ, ◌<◌, true, false, List, [], ◌∷◌, length, Option, Some, None}
use Rattle.std.specs.List.{AllByRecursion}
use Rattle.ftpp_base.specs.Lists.{each_below, cell_at, is_this}
use Rattle.ftpp_base.specs.declared.element.Round.{Round}
use Rattle.ftpp_base.specs.declared.element.Round.TheVariants.{A1, A2, B1, B2}
use Rattle.bit_vote.specs.Vote.{Cell, IsCell}
use Rattle.frame_format.specs.Frames.{width_in, cells_in}
use Rattle.config_table.specs.Table.{TableValue, IsValid}
use Rattle.element_core.specs.Cycle.{State, Input, start, step}
use Rattle.element_core.specs.Run.{Journal, AgreedState, run}
use Rattle.element_core.specs.Sent.{cells_sent}
use Rattle.element_core.specs.Syndromes.{Relays}
use Rattle.element_core.specs.Element.{Kept, Heard}
use Rattle.element_core.specs.Noted.{cells_made}
use Rattle.element_core.specs.Alone.{IsSound, IsInput, AreRelays, Takes, part_of, before_rounds, HoldsItsPart}
use Rattle.element_core.specs.AloneRun.{OwnInput, acts_at, kept_before, kept_next}

-- What was carried in a cycle: the cells that the frame of a round, from one element to another, reads as.
abbrev pub Carried : Type 0
Carried = Round → ℕ → ℕ → List Cell

-- what an element among n hears of it
abbrev pub heard_of : Carried → ℕ → ℕ → Heard
heard_of carried n me = record {
  patterns = each_below n (λ sender. cell_at (carried A1 sender me) 0);
  relayed_patterns = each_below n (λ relay. carried A2 relay me);
  packets = each_below n (λ sender. cell_at (carried B1 sender me) 0);
  relayed_packets = each_below n (λ relay. carried B2 relay me);
}

-- what the faulty element's frames of A2 and of B2 to it read as
abbrev pub said_to : Carried → Option ℕ → ℕ → Relays
said_to carried None me = record { patterns = []; packets = [] }
said_to carried (Some ne) me = record { patterns = carried A2 ne me; packets = carried B2 ne me }

-- What an honest fabric carries among n elements whose frames are these: those of each fault-free one, and from the faulty one
-- anything of the right shape, where A1 and B1 are what comes from outside.
pub record IsCarried (n : ℕ) (frames : Round → ℕ → List Cell) (input : Input) (carried : Carried) : Type 0 where
  pub honest : (round : Round) (sender me : ℕ) → sender < n → me < n → sender ≢ me → is_this input.faulty sender ≡ false
      → carried round sender me ≡ frames round sender
  pub count : (round : Round) (sender me : ℕ) → sender < n → me < n → is_this input.faulty sender ≡ true
      → length (carried round sender me) ≡ cells_in n round
  pub cells : (round : Round) (sender me s : ℕ) → is_this input.faulty sender ≡ true → IsCell (width_in round) (cell_at (carried round sender me) s)
  pub patterns : (sender me : ℕ) → sender < n → me < n → sender ≢ me → is_this input.faulty sender ≡ true
      → cell_at (carried A1 sender me) 0 ≡ cell_at input.patterns me
  pub packets : (sender me : ℕ) → sender < n → me < n → sender ≢ me → is_this input.faulty sender ≡ true
      → cell_at (carried B1 sender me) 0 ≡ cell_at input.packets me

-- the frames that each makes of what it keeps and hears
abbrev pub frames_by : (ℕ → Kept) → ℕ → Carried → Round → ℕ → List Cell
frames_by kept n carried round sender = cells_made (kept sender) (heard_of carried n sender) round

-- Where an honest fabric carries the frames that the run says, each element takes its part of them.
abbrev pub SentIsTaken : Type 0
SentIsTaken = (s : State) (input : Input) (carried : Carried) (me : ℕ)
    → IsCarried s.table.n (cells_sent (step s input).shown) input carried → me < s.table.n
    → Takes (step s input).shown (said_to carried input.faulty me) me (heard_of carried s.table.n me) × AreRelays (said_to carried input.faulty me)

-- There is such a fabric for each input.
abbrev pub SomeIsCarried : Type 0
SomeIsCarried = (s : State) (input : Input) → IsSound s → IsInput s.table.n input
    → (carried : Carried) × IsCarried s.table.n (frames_by (part_of (before_rounds s input)) s.table.n carried) input carried

-- The elements together: where each keeps its part of a state, and an honest fabric carries what they make, each holds its part of the cycle.
abbrev pub ElementsTogether : Type 0
ElementsTogether = (s : State) (input : Input) (carried : Carried) (me : ℕ)
    → IsSound s → IsInput s.table.n input → IsCarried s.table.n (frames_by (part_of (before_rounds s input)) s.table.n carried) input carried → me < s.table.n
    → HoldsItsPart (step s input) (said_to carried input.faulty me) me (part_of (before_rounds s input) me) (heard_of carried s.table.n me)

-- ---- over whole runs, with no state but what the elements keep

-- what each of n elements takes in a cycle
abbrev pub own_input : ℕ → Input → Carried → ℕ → OwnInput
own_input n input carried me = record {
  rejoined = is_this input.rejoined me;
  acts = acts_at me input.acts;
  heard = heard_of carried n me;
}

-- what each keeps just before the rounds, and after them
abbrev pub elements_before : (ℕ → Kept) → ℕ → Input → Carried → ℕ → Kept
elements_before kept n input carried me = kept_before (kept me) (own_input n input carried me)

abbrev pub elements_next : (ℕ → Kept) → ℕ → Input → Carried → ℕ → Kept
elements_next kept n input carried me = kept_next (kept me) (own_input n input carried me)

-- what each keeps after the cycles
abbrev pub elements_after : (ℕ → Kept) → ℕ → Journal → List Carried → ℕ → Kept
elements_after kept n [] carrieds = kept
elements_after kept n (input ∷ journal) [] = kept
elements_after kept n (input ∷ journal) (carried ∷ carrieds) = elements_after (elements_next kept n input carried) n journal carrieds

-- an honest fabric carries what they make, in each cycle
abbrev pub AreCarried : (ℕ → Kept) → ℕ → Journal → List Carried → Type 0
AreCarried kept n [] [] = Unit {0}
AreCarried kept n [] (carried ∷ carrieds) = ⊥
AreCarried kept n (input ∷ journal) [] = ⊥
AreCarried kept n (input ∷ journal) (carried ∷ carrieds) =
    IsCarried n (frames_by (elements_before kept n input carried) n carried) input carried × AreCarried (elements_next kept n input carried) n journal carrieds

-- each holds its part of each cycle
abbrev pub HoldTogether : State → (ℕ → Kept) → ℕ → Journal → List Carried → Type 0
HoldTogether s kept n [] carrieds = (me : ℕ) → me < n → kept me ≡ part_of s me
HoldTogether s kept n (input ∷ journal) [] = ⊥
HoldTogether s kept n (input ∷ journal) (carried ∷ carrieds) =
    ((me : ℕ) → me < n → HoldsItsPart (step s input) (said_to carried input.faulty me) me (elements_before kept n input carried me) (heard_of carried n me))
    × HoldTogether (step s input).state (elements_next kept n input carried) n journal carrieds

-- From their parts of a table on, with an honest fabric among them, the elements hold their parts of each cycle of the one run.
abbrev pub RunsTogether : Type 0
RunsTogether = (table : TableValue) (journal : Journal) (carrieds : List Carried)
    → IsValid table → AllByRecursion (IsInput table.n) journal → AreCarried (part_of (start table)) table.n journal carrieds
    → HoldTogether (start table) (part_of (start table)) table.n journal carrieds

-- So in the end each keeps its part of the run.
abbrev pub EndTogether : Type 0
EndTogether = (table : TableValue) (journal : Journal) (carrieds : List Carried) (me : ℕ)
    → IsValid table → AllByRecursion (IsInput table.n) journal → AreCarried (part_of (start table)) table.n journal carrieds → me < table.n
    → elements_after (part_of (start table)) table.n journal carrieds me ≡ part_of (run table journal) me

-- what an element has of the agreed state
abbrev pub agreed_by : Kept → AgreedState
agreed_by kept = record { cycle = kept.cycle; table = kept.table; scoreboard = kept.scoreboard }

-- So the tables and scoreboards of two elements never differ.
abbrev pub NeverDiffer : Type 0
NeverDiffer = (table : TableValue) (journal : Journal) (carrieds : List Carried) (one other : ℕ)
    → IsValid table → AllByRecursion (IsInput table.n) journal → AreCarried (part_of (start table)) table.n journal carrieds → one < table.n → other < table.n
    → agreed_by (elements_after (part_of (start table)) table.n journal carrieds one) ≡ agreed_by (elements_after (part_of (start table)) table.n journal carrieds other)
