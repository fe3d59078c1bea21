-- What is promised of suspects and of proposals, over the definitions.
use Rattle.std.specs.Prelude.{◌≡◌, ℕ, Bool, true, false, ◌⊎◌, List, [], ◌∷◌, ◌++◌, slice_get, Contains, filter, Some}
use Rattle.ftpp_base.specs.declared.element.Proc.{Proc}
use Rattle.syndrome_log.specs.declared.Syndrome.{Syndrome}
use Rattle.config_table.specs.declared.groups.Group.{Group}
use Rattle.config_table.specs.declared.errors.ConfigError.{ConfigError}
use Rattle.config_table.specs.Groups.{is_live, members_of}
use Rattle.config_table.specs.Table.{TableValue, IsValid, error_code}
use Rattle.table_update.specs.declared.Update.{Update}
use Rattle.table_update.specs.declared.Update.TheVariants.{Mask}
use Rattle.table_update.specs.declared.Applied.{Applied}
use Rattle.table_update.specs.declared.Applied.TheVariants.{Done, Refused, Absent}
use Rattle.table_update.specs.Updates.{applied, table_after}
use Rattle.diagnosis.specs.Suspects.{is_suspect, suspects_of}
use Rattle.diagnosis.specs.Proposals.{proposals, after_all}

-- ---- suspects

-- The suspects that some entries leave are those that further entries leave fewer of.
abbrev pub NotedInTurn : Type 0
NotedInTurn = (n me : ℕ) (noted more : List Syndrome) → filter (is_suspect more) (suspects_of n me noted) ≡ suspects_of n me (noted ++ more)

-- ---- proposals

abbrev pub is_done : Applied → Bool
is_done (Done ports) = true
is_done (Refused error) = false
is_done Absent = false

-- each of some updates is done, on the table that the earlier ones left
abbrev pub AreDone : TableValue → List Update → Type 0
AreDone table [] = Unit {0}
AreDone table (update ∷ updates) = (is_done (applied table update) ≡ true) × AreDone (table_after table update) updates

-- Each proposal, applied in order, is done.
abbrev pub EachProposalDone : Type 0
EachProposalDone = (table : TableValue) (ne : ℕ) → AreDone table (proposals table ne)

-- The mask of a member would break the clause of the masked set (9) or that of the manager's live members (12).
pub record CannotBeMasked (table : TableValue) (vid member : ℕ) : Type 0 where
  pub error : ConfigError
  pub refused : applied table (Mask vid member) ≡ Refused error
  pub clause : (error_code error ≡ 9) ⊎ (error_code error ≡ 12)

-- the table after all proposals for an element
abbrev pub table_masked : TableValue → ℕ → TableValue
table_masked table ne = after_all table (proposals table ne)

-- Afterwards no group has a live member at the element but one that cannot be masked.
abbrev pub OnlyNeededLeft : Type 0
OnlyNeededLeft = (table : TableValue) (ne : ℕ) (g : Group) (index : ℕ) (p : Proc) → IsValid table
    → Contains (table_masked table ne).groups g → is_live g index ≡ true → slice_get (members_of g) index ≡ Some p → p.ne ≡ ne
    → CannotBeMasked (table_masked table ne) g.vid index
