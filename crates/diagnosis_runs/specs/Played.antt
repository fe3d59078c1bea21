-- What holds of the suspects and of the masks that `diagnose` writes.
use Rattle.std.specs.Prelude.{◌≡◌, ◌≢◌, ℕ, ◌<◌, true, Option, Some, None, slice_get, Contains}
use Rattle.ftpp_base.specs.Lists.{others, is_in}
use Rattle.ftpp_base.specs.declared.element.Proc.{Proc}
use Rattle.config_table.specs.declared.groups.Group.{Group}
use Rattle.config_table.specs.Groups.{is_live, members_of}
use Rattle.config_table.specs.Table.{IsValid}
use Rattle.script_text.specs.Playable.{IsPlayable}
use Rattle.element_core.specs.Run.{IsJournal}
use Rattle.report_text.specs.PlayedRun.{journal_of}
use Rattle.diagnosis.specs.Suspects.{only_one}
use Rattle.diagnosis.specs.Proposals.{proposals}
use Rattle.diagnosis.specs.Laws.{AreDone, CannotBeMasked, table_masked}
use Rattle.command_steps.specs.Loading.{Run}
use Rattle.ftpp_top.specs.Diagnosing.{suspects_played, faulty_last, table_last}

-- On a played run: the element that is faulty in the last cycle is among the suspects of each other one, so that it is the only one
-- where one is left; where none is faulty, all others are left. Each proposal, applied in order to the last table, is done, and
-- afterwards no group has a live member at the element but one that cannot be masked.
pub record IsRightDiagnosis (r : Run) : Type 0 where
  pub suspect : (faulty me : ℕ) → faulty_last r ≡ Some faulty → faulty ≢ me → is_in (suspects_played r me) faulty ≡ true
  pub only : (faulty me ne : ℕ) → faulty_last r ≡ Some faulty → faulty ≢ me → only_one (suspects_played r me) ≡ Some ne → ne ≡ faulty
  pub calm : (me : ℕ) → faulty_last r ≡ None → suspects_played r me ≡ others r.table.n me
  pub done : (ne : ℕ) → AreDone (table_last r) (proposals (table_last r) ne)
  pub left : (ne : ℕ) (g : Group) (index : ℕ) (p : Proc)
      → Contains (table_masked (table_last r) ne).groups g → is_live g index ≡ true → slice_get (members_of g) index ≡ Some p → p.ne ≡ ne
      → CannotBeMasked (table_masked (table_last r) ne) g.vid index

-- **So it is on the run of every script that can be played**, on a valid table.
abbrev pub DiagnosesRight : Type 0
DiagnosesRight = (r : Run) → IsValid r.table → IsPlayable r.table.n r.plan → IsRightDiagnosis r

-- The faulty element of a played run changes only where it rejoins, as the laws over whole runs ask.
abbrev pub PlaysJournal : Type 0
PlaysJournal = (r : Run) → IsPlayable r.table.n r.plan → IsJournal r.plan.faulty (journal_of r.table r.plan)
