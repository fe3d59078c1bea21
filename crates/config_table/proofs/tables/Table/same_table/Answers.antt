use Rattle.std.proofs.Common.{◌≡◌, refl, rules}
use Rattle.std.specs.Bool.{Decides}
use Rattle.std.proofs.lemmas.Slice.Eq.{slice_eq-Decides}
use Rattle.config_table.specs.declared.groups.Group.{Group}
use Rattle.ftpp_base.specs.declared.element.Proc.{Proc}
use Rattle.ftpp_base.specs.contracts.element.ProcPartialEq.TheImpl as proc
use lib.Pointwise.{pointwise}
use Rattle.config_table.specs.contracts.groups.GroupPartialEq.TheImpl as group
use Rattle.config_table.proofs.tables.Table.same_table.Goals as goal
use Rattle.config_table.proofs.tables.Table.same_table.Goals.{then-self-other, else-self-other}

each_proc : (a b : Proc) → Decides (proc.eq-value.it a b) (a ≡ b)
each_proc a b = search rules

each : (a b : Group) → Decides (group.eq-value.it a b) (a ≡ b)
each a b =
    let members : Decides (pointwise proc.eq-value.it a.members.items b.members.items) (a.members.items ≡ b.members.items) =
    slice_eq-Decides each_proc a.members.items b.members.items (pointwise proc.eq-value.it a.members.items b.members.items) refl in
    search (rules, members)

pub returns-then-self-other-2 : goal.returns-then-self-other-2
returns-then-self-other-2 c =
    let same : Decides c.eq.result (c.self.inside.groups.items ≡ c.other.inside.groups.items) = slice_eq-Decides each c.self.inside.groups.items c.other.inside.groups.items c.eq.result c.eq.ensures in
    elim c.if-self-other.branch [ then-self-other w ↦ search (rules, same, w) | else-self-other w ↦ search (rules, w) ]
