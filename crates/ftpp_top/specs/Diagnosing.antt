-- The diagnosis of a played run: who can be the faulty element, and which members to mask.
use Rattle.std.specs.Prelude.{◌≡◌, ℕ, ◌<◌, false, List, [], slice_index_or, Option, Some, None}
use Rattle.ftpp_base.specs.Lists.{others, each_below, is_this}
use Rattle.link_fabric.specs.declared.fabrics.Carried.{Carried}
use Rattle.config_table.specs.Table.{TableValue}
use Rattle.fault_script.specs.Plays.{Told}
use Rattle.element_core.specs.Run.{run}
use Rattle.element_core.specs.Syndromes.{Relays}
use Rattle.element_core.specs.declared.Rejoined.{Rejoined}
use Rattle.element_core.specs.declared.Rejoined.TheVariants.{Taken, Refused}
use Rattle.cluster.specs.ClusterValue.{ClusterValue}
use Rattle.report_text.specs.PlayedCycle.{Standing, faulty_in, relays_by}
use Rattle.report_text.specs.PlayedRun.{standing_at, shown_in, journal_of}
use Rattle.diagnosis.specs.Suspects.{suspects_of}
use Rattle.diagnosis.specs.Runs.{noted_since, suspects_after, last_faulty}
use Rattle.diagnosis.specs.Lines.{diagnosis_lines}
use Rattle.command_steps.specs.Loading.{Run}
use Rattle.ftpp_top.specs.Loops.{IsAlong, no_lines}

-- what the faulty element's frames of A2 and of B2 to an element read as, by cycle
abbrev pub said_played : Run → ℕ → ℕ → Relays
said_played r me cycle = said_in (standing_at r.table r.plan cycle) where
  said_in : Standing → Relays
  said_in before = relays_by r.plan before (shown_in r.table r.plan cycle) (faulty_in r.plan before) me

-- **The suspects of an element on a played run.**
abbrev pub suspects_played : Run → ℕ → List ℕ
suspects_played r me = suspects_after r.table (journal_of r.table r.plan) (said_played r me) me

-- the element that is faulty in the last cycle, and the table after it
abbrev pub faulty_last : Run → Option ℕ
faulty_last r = last_faulty r.plan.faulty (journal_of r.table r.plan)

abbrev pub table_last : Run → TableValue
table_last r = (run r.table (journal_of r.table r.plan)).table

-- **The lines of `diagnose`**: those by the suspects on the played run, and by the proposals on its last table.
unfoldable pub diagnosis_text : Run → List ℕ
diagnosis_text r = diagnosis_lines (table_last r) (faulty_last r) (each_below r.table.n (suspects_played r))

-- ---- cycle by cycle

-- the suspects of an element by what it noted in the cycles below a number
abbrev pub suspects_below : Run → ℕ → ℕ → List ℕ
suspects_below r cycle me = suspects_of r.table.n me (noted_since r.table (journal_of r.table r.plan) (said_played r me) me cycle)

-- all suspects once an element was asked to rejoin: where that was taken, each of n elements suspects all others
abbrev pub anew_at : ℕ → Option (ℕ × Rejoined) → List (List ℕ) → List (List ℕ)
anew_at n None suspects = suspects
anew_at n (Some asked) suspects = by asked.1 where
  by : Rejoined → List (List ℕ)
  by Taken = each_below n (others n)
  by Refused = suspects

-- The cluster stands where the played run stands before a cycle, the frames of the cycles before it were carried, and each element
-- that was not faulty in the one before it has its suspects by what it noted.
pub record IsDiagnosing (r : Run) (cycle : ℕ) (c : ClusterValue) (told : Told) (suspects : List (List ℕ)) (before after : Option (List Carried)) : Type 0 where
  pub along : IsAlong r no_lines cycle c told None None before after
  pub elements : r.table.n ≡ c.first.n
  pub left : (me : ℕ) → me < r.table.n → is_this c.faulty me ≡ false → slice_index_or suspects me [] ≡ suspects_below r cycle me
