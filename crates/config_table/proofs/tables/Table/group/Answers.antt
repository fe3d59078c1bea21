use Rattle.std.proofs.Common.{subst, ap, ◌∙◌, find}
use Rattle.std.specs.Prelude.{IfSome}
use Rattle.config_table.specs.Bounds.{IsBounded}
use Rattle.config_table.specs.Table.{TableValue, is_named}
use Rattle.config_table.proofs.Bounded.{bounded_found}
use Rattle.config_table.proofs.tables.Table.group.Goals as goal

pub returns-clause-bounded : goal.returns-clause-bounded
returns-clause-bounded c =
    subst (λ (t : TableValue). IfSome c.named.result (λ g. IsBounded t.n g.now)) c.self.view_is
    (bounded_found _ c.args.vid c.named.result c.self.invariant (c.named.ensures ∙ ap (find (is_named c.args.vid)) c.as_slice.ensures.value))
