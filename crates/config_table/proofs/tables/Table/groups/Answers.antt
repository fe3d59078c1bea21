use Rattle.std.proofs.Common.{subst}
use Rattle.std.specs.Prelude.{All}
use Rattle.std.proofs.lemmas.List.Elements.{All-same}
use Rattle.config_table.specs.Bounds.{IsBounded}
use Rattle.config_table.specs.Table.{TableValue}
use Rattle.config_table.proofs.Bounded.{some_groups, bounded-valid}
use Rattle.config_table.proofs.tables.Table.groups.Goals as goal

pub returns-clause-some : goal.returns-clause-some
returns-clause-some c = rw c.as_slice.ensures.value (some_groups _ c.self.invariant)

pub returns-clause-bounded : goal.returns-clause-bounded
returns-clause-bounded c =
    subst (λ (t : TableValue). All (IsBounded t.n) c.as_slice.result.now) c.self.view_is
    (All-same (IsBounded c.self.inside.n) c.as_slice.result.now c.self.inside.groups.items c.as_slice.ensures.value (bounded-valid _ c.self.invariant))
