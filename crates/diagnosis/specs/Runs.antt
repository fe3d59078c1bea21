-- The suspects of an element in a run.
use Rattle.std.specs.Prelude.{ℕ, zero, suc, List, [], ◌++◌, length, Option, Some, None}
use Rattle.syndrome_log.specs.declared.Syndrome.{Syndrome}
use Rattle.config_table.specs.Table.{TableValue}
use Rattle.element_core.specs.Run.{Journal, input_at, shown_at}
use Rattle.element_core.specs.Syndromes.{Relays, syndromes_at}
use Rattle.diagnosis.specs.Suspects.{suspects_of}

-- what counts in a cycle of what was noted before it: all of it, and nothing where an element rejoined just before the cycle
abbrev pub still_counts : Option ℕ → List Syndrome → List Syndrome
still_counts None noted = noted
still_counts (Some ne) noted = []

-- What an element noted in the cycles below a number, from the last of them before which an element rejoined. `said` has, by
-- cycle, what the faulty element's frames of A2 and of B2 to it read as.
abbrev pub noted_since : TableValue → Journal → (ℕ → Relays) → ℕ → ℕ → List Syndrome
noted_since table journal said me zero = []
noted_since table journal said me (suc k) =
    still_counts (input_at journal k).rejoined (noted_since table journal said me k) ++ syndromes_at (shown_at table journal k) (said k) me

-- **The suspects of an element after a run.**
unfoldable pub suspects_after : TableValue → Journal → (ℕ → Relays) → ℕ → List ℕ
suspects_after table journal said me = suspects_of table.n me (noted_since table journal said me (length journal))

-- the element that was faulty before a cycle: in the cycle before it, and before the first cycle the first one
abbrev pub faulty_before : Option ℕ → Journal → ℕ → Option ℕ
faulty_before first journal zero = first
faulty_before first journal (suc k) = (input_at journal k).faulty

-- the one that was faulty in the last cycle of a run
abbrev pub last_faulty : Option ℕ → Journal → Option ℕ
last_faulty first journal = faulty_before first journal (length journal)
