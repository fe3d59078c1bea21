-- What holds of each cycle from a sound state, whatever comes from outside, and so of each cycle of a run.
use Rattle.std.specs.Prelude.{◌≡◌, ℕ, ◌+◌, ◌<◌, ◌≤◌, List, length}
use Rattle.std.specs.List.{AllByRecursion}
use Rattle.config_table.specs.Table.{TableValue, IsValid}
use Rattle.element_core.specs.Cycle.{State, Input, start, step}
use Rattle.element_core.specs.Run.{Journal, run, state_at, shown_at, agreed_state}
use Rattle.element_core.specs.Claims.{IsAccurate, IsAccurateAlike, EqualEntries, IsWholeEverywhere, IsUnchanged, IsSourced, OnlyFullOverruns}
use Rattle.element_core.specs.Alone.{IsSound, IsInput, part_of}
use Rattle.element_core.specs.Together.{Carried, AreCarried, elements_after, agreed_by}

-- each entry on copies that a fault-free element notes names the faulty one
abbrev pub AlwaysAccurate : Type 0
AlwaysAccurate = (s : State) (input : Input) → IsAccurate (step s input).shown

-- the entries of an exchange that is not split are equal at all fault-free elements
abbrev pub AlwaysEqualEntries : Type 0
AlwaysEqualEntries = (s : State) (input : Input) → IsSound s → IsInput s.table.n input → EqualEntries (step s input).shown

-- an exchange of class 2 or 3, or of fewer than three live members, is never split
abbrev pub NeverSplit : Type 0
NeverSplit = (s : State) (input : Input) → IsSound s → IsInput s.table.n input → IsWholeEverywhere (step s input).shown

-- an overrun at a fault-free element comes only where the input was full, and the member lags by more than its timeout
abbrev pub OverrunsOnlyFull : Type 0
OverrunsOnlyFull = (s : State) (input : Input) → IsSound s → IsInput s.table.n input → OnlyFullOverruns (step s input).state (step s input).shown

-- an exchange that is held alike, and is not of one source, has the common packet as its entry at each element
abbrev pub AlwaysUnchanged : Type 0
AlwaysUnchanged = (s : State) (input : Input) → IsSound s → IsInput s.table.n input → IsUnchanged (step s input).shown

-- an exchange of one source that is fault-free and admitted has that source's head as its entry at each element
abbrev pub AlwaysSourced : Type 0
AlwaysSourced = (s : State) (input : Input) → IsSound s → IsInput s.table.n input → IsSourced (step s input).shown

-- where the request that is taken is held alike, each entry on members at any element accuses the faulty one
abbrev pub AlwaysAccurateAlike : Type 0
AlwaysAccurateAlike = (s : State) (input : Input) → IsSound s → IsInput s.table.n input → IsAccurateAlike (step s input).shown

-- ---- runs

-- What is claimed of each cycle of a run.
pub record IsLawfulCycle (table : TableValue) (journal : Journal) (k : ℕ) : Type 0 where
  pub accurate : IsAccurate (shown_at table journal k)
  pub alike : IsAccurateAlike (shown_at table journal k)
  pub equal : EqualEntries (shown_at table journal k)
  pub whole : IsWholeEverywhere (shown_at table journal k)
  pub unchanged : IsUnchanged (shown_at table journal k)
  pub sourced : IsSourced (shown_at table journal k)
  pub overruns : OnlyFullOverruns (state_at table journal (k + 1)) (shown_at table journal k)

-- so it is in each cycle of a run from a valid table
abbrev pub EachCycleLawful : Type 0
EachCycleLawful = (table : TableValue) (journal : Journal) (k : ℕ) → IsValid table → AllByRecursion (IsInput table.n) journal → k < length journal → IsLawfulCycle table journal k

-- The number of a cycle is the number of cycles so far.
abbrev pub CyclesAreCounted : Type 0
CyclesAreCounted = (table : TableValue) (journal : Journal) (k : ℕ) → k ≤ length journal → (state_at table journal k).cycle ≡ k

-- With an honest fabric among them, each element has the agreed state of the run, whatever the faulty one sent.
abbrev pub AgreedStateKept : Type 0
AgreedStateKept = (table : TableValue) (journal : Journal) (carrieds : List Carried) (me : ℕ)
    → IsValid table → AllByRecursion (IsInput table.n) journal → AreCarried (part_of (start table)) table.n journal carrieds → me < table.n
    → agreed_by (elements_after (part_of (start table)) table.n journal carrieds me) ≡ agreed_state (run table journal)
