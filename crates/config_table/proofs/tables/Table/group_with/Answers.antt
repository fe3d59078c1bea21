use Rattle.std.proofs.Common.{subst, ap, ◌∙◌, find}
use Rattle.std.specs.Prelude.{IfSome}
use Rattle.config_table.specs.Bounds.{IsBounded}
use Rattle.config_table.specs.Groups.{is_member}
use Rattle.config_table.specs.Table.{TableValue}
use Rattle.config_table.proofs.Bounded.{bounded_with}
use Rattle.config_table.proofs.tables.Table.group_with.Goals as goal

pub returns-clause-bounded : goal.returns-clause-bounded
returns-clause-bounded c =
    subst (λ (t : TableValue). IfSome c.with_member.result (λ g. IsBounded t.n g.now)) c.self.view_is
    (bounded_with _ c.args.proc c.with_member.result c.self.invariant (c.with_member.ensures ∙ ap (find (λ g. is_member g c.args.proc)) c.as_slice.ensures.value))
