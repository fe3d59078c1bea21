-- What a valid table says of its groups, of items of its lists.
use Rattle.std.proofs.Common.{◌≡◌, ◌<◌, ◌≤◌, length}
use Rattle.std.specs.Prelude.{Some}
use Rattle.ftpp_base.specs.declared.element.Proc.{Proc}
use Rattle.ftpp_base.proofs.Items.{IsItem, item_contains}
use Rattle.config_table.specs.declared.groups.Group.{Group}
use Rattle.config_table.specs.Groups.{members_of}
use Rattle.config_table.specs.Table.{TableValue, IsValid, group_named}
use Rattle.config_table.proofs.ValidTable.{named-itself, members-few, members-range}

-- each group of a valid table is the one of its number
pub valid_named : (table : TableValue) → IsValid table → (g : Group) → IsItem table.groups g → group_named table g.vid ≡ Some g
valid_named table e g i = named-itself table e g (item_contains table.groups g i)

-- each has at most four members
pub valid_few : (table : TableValue) → IsValid table → (g : Group) → IsItem table.groups g → length (members_of g) ≤ 4
valid_few table e g i = members-few table e g (item_contains table.groups g i)

-- and they stand at the table's elements and at eight ports
pub valid_range : (table : TableValue) → IsValid table → (g : Group) → IsItem table.groups g → (p : Proc) → IsItem (members_of g) p → (p.ne < table.n) × (p.port < 8)
valid_range table e g i p m = members-range table e g (item_contains table.groups g i) p (item_contains (members_of g) p m)
