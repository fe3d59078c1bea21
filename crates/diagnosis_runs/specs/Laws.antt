-- What the suspects are in every run, from every table and over every journal whose faulty element changes only where it rejoins.
use Rattle.std.specs.Prelude.{◌≡◌, ◌≢◌, ℕ, ◌<◌, true, Option, Some, None}
use Rattle.ftpp_base.specs.Lists.{others, is_in}
use Rattle.config_table.specs.Table.{TableValue}
use Rattle.element_core.specs.Run.{Journal, IsJournal}
use Rattle.element_core.specs.Syndromes.{Relays}
use Rattle.diagnosis.specs.Suspects.{only_one}
use Rattle.diagnosis.specs.Runs.{suspects_after, last_faulty}

-- The element that was faulty in the last cycle is among the suspects of each other one, whatever it sent.
abbrev pub FaultyIsSuspect : Type 0
FaultyIsSuspect = (table : TableValue) (first : Option ℕ) (journal : Journal) (said : ℕ → Relays) (me faulty : ℕ)
    → IsJournal first journal → last_faulty first journal ≡ Some faulty → faulty < table.n → faulty ≢ me
    → is_in (suspects_after table journal said me) faulty ≡ true

-- So the only suspect of a fault-free element is the faulty one, where there is one.
abbrev pub OnlyOneIsFaulty : Type 0
OnlyOneIsFaulty = (table : TableValue) (first : Option ℕ) (journal : Journal) (said : ℕ → Relays) (me faulty ne : ℕ)
    → IsJournal first journal → last_faulty first journal ≡ Some faulty → faulty < table.n → faulty ≢ me
    → only_one (suspects_after table journal said me) ≡ Some ne → ne ≡ faulty

-- Where none was faulty in the last cycle, all others are left.
abbrev pub AllLeftWithoutFault : Type 0
AllLeftWithoutFault = (table : TableValue) (first : Option ℕ) (journal : Journal) (said : ℕ → Relays) (me : ℕ)
    → IsJournal first journal → last_faulty first journal ≡ None
    → suspects_after table journal said me ≡ others table.n me
