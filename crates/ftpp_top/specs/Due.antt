-- What is due in each cycle of a script.
use Rattle.std.specs.Prelude.{ℕ, ◌+◌, ◌≤◌, List, [], ◌∷◌, map, filter, Option}
use Rattle.packet_format.specs.declared.acts.Act.{Act}
use Rattle.report_text.specs.PlayedCycle.{is_of_cycle, first_next}

-- the acts of a cycle among some with their cycles, in order
abbrev pub acts_in : List (ℕ × Act) → ℕ → List Act
acts_in acts c = map (λ (entry : ℕ × Act). entry.1) (filter (is_of_cycle c) acts)

-- who is faulty after the rejoin just before a cycle, where there is one there
abbrev pub next_in : List (ℕ × Option ℕ) → ℕ → Option (Option ℕ)
next_in rejoins c = first_next (filter (is_of_cycle c) rejoins)

-- no cycle is below the one before, nor the first below a number
abbrev pub IsOrdered : ℕ → List (ℕ × Act) → Type 0
IsOrdered low [] = Unit {0}
IsOrdered low (entry ∷ acts) = (low ≤ entry.0) × IsOrdered entry.0 acts

-- each is of a later cycle than the one before, and the first not below a number
abbrev pub IsApart : ℕ → List (ℕ × Option ℕ) → Type 0
IsApart low [] = Unit {0}
IsApart low (entry ∷ rejoins) = (low ≤ entry.0) × IsApart (entry.0 + 1) rejoins
