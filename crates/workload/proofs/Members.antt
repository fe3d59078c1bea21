-- The members of the groups of the built-in table.
use Rattle.std.proofs.Common.{◌≡◌, ℕ, ◌<◌, ◌≤◌, List, length, refl, arith, Option, Some, None}
use Rattle.std.specs.List.{AllByRecursion}
use Rattle.ftpp_base.specs.declared.element.Proc.{Proc}
use Rattle.ftpp_base.proofs.Among.{each}
use Rattle.config_table.specs.declared.groups.Group.{Group}
use Rattle.config_table.specs.Groups.{members_of}
use Rattle.config_table.specs.Table.{group_named}
use Rattle.config_table.proofs.ValidTable.{named-there, members-few, members-range}
use Rattle.built_in_tables.specs.Tables.{c5}
use Rattle.built_in_tables.proofs.Valid.{five_valid}
use Rattle.workload.specs.Acts.{members_in, members}

-- a processor of five elements
abbrev pub IsThere : Proc → Type 0
IsThere p = (p.ne < 5) × (p.port < 8)

-- at most four, each of them there
pub record AreMembers (procs : List Proc) : Type 0 where
  pub few : length procs ≤ 4
  pub there : AllByRecursion IsThere procs

of_found : (vid : ℕ) (o : Option Group) → group_named c5 vid ≡ o → AreMembers (members_in o)
of_found vid None e = record { few = omega arith; there = tt }
of_found vid (Some g) e =
    let found = (named-there c5 vid g e).0 in
    record {
      few = members-few c5 five_valid g found;
      there = each IsThere (members_of g) (λ p m. members-range c5 five_valid g found p m);
    }

pub are_members : (vid : ℕ) → AreMembers (members c5 vid)
are_members vid = of_found vid (group_named c5 vid) refl
