-- Which members to mask where an element is faulty.
use Rattle.std.specs.Prelude.{ℕ, ◌+◌, not, ◌&&◌, ◌==◌, List, [], ◌∷◌, Option, Some, None, if◌then◌else◌}
use Rattle.std.specs.List.{cons_option, fold}
use Rattle.ftpp_base.specs.Sets.{has}
use Rattle.ftpp_base.specs.declared.element.Proc.{Proc}
use Rattle.ftpp_base.specs.declared.sets.Set8.{Set8}
use Rattle.config_table.specs.declared.groups.Group.{Group}
use Rattle.config_table.specs.Groups.{members_of}
use Rattle.config_table.specs.Table.{TableValue}
use Rattle.table_update.specs.declared.Update.{Update}
use Rattle.table_update.specs.declared.Update.TheVariants.{Mask}
use Rattle.table_update.specs.declared.Applied.{Applied}
use Rattle.table_update.specs.declared.Applied.TheVariants.{Done, Refused, Absent}
use Rattle.table_update.specs.Updates.{applied, table_after}

-- the index of the member at an element that is not masked, among members whose indices count from a number
abbrev pub live_index_from : Set8 → ℕ → ℕ → List Proc → Option ℕ
live_index_from masked ne i [] = None
live_index_from masked ne i (p ∷ ps) = if p.ne == ne && not (has masked i) then Some i else live_index_from masked ne (i + 1) ps

-- the index of a group's live member at an element
unfoldable pub live_index_at : Group → ℕ → Option ℕ
live_index_at g ne = live_index_from g.masked ne 0 (members_of g)

-- an update, where it was done
abbrev pub if_done : Applied → Update → Option Update
if_done (Done ports) update = Some update
if_done (Refused error) update = None
if_done Absent update = None

-- the mask of a group's member, where a table takes it
abbrev pub mask_on : TableValue → ℕ → Option ℕ → Option Update
mask_on table vid None = None
mask_on table vid (Some member) = if_done (applied table (Mask vid member)) (Mask vid member)

-- what is proposed of a group, on a table: the mask of its live member at the element, if that is done
unfoldable pub proposal_for : TableValue → ℕ → Group → Option Update
proposal_for table ne g = mask_on table g.vid (live_index_at g ne)

-- the table after a proposal, if there is one
abbrev pub left_by : TableValue → Option Update → TableValue
left_by table None = table
left_by table (Some update) = table_after table update

-- the proposals for some groups, in order, each on the table that the earlier ones left
abbrev pub proposals_for : TableValue → ℕ → List Group → List Update
proposals_for table ne [] = []
proposals_for table ne (g ∷ gs) = cons_option (proposal_for table ne g) (proposals_for (left_by table (proposal_for table ne g)) ne gs)

-- The proposals for all groups of a table.
abbrev pub proposals : TableValue → ℕ → List Update
proposals table ne = proposals_for table ne table.groups

-- the table after some updates, one after another
abbrev pub after_all : TableValue → List Update → TableValue
after_all table updates = fold table_after table updates
