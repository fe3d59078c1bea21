use Rattle.std.proofs.Common.{◌∙◌, ◌++◌, ◌∷◌, [], ap}
use Rattle.ftpp_base.specs.Lists.{cell_at}
use Rattle.data_exchange.specs.Entries.{member_counts_as}
use Rattle.data_exchange.proofs.LiveCells.{counts-masked, counts-live}
use Rattle.data_exchange.proofs.results.live_cells.Goals as goal
use Rattle.data_exchange.proofs.results.live_cells.Goals.{then-not-is_masked, else-not-is_masked}

pub loop-i-preserved : goal.loop-i-preserved
loop-i-preserved g c =
    let counts_as = member_counts_as c.args.service.now (cell_at c.args.values.now) in
    let cells = c.loop-i.cells.items in
    elim c.if-not-is_masked.branch [
      | then-not-is_masked w ↦
          rw w.cells-is
          (counts-live counts_as c.args.masked.now c.args.members.now c.loop-i.i cells _ record { ne = 0; port = 0 } c.has-is_masked.result
          c.loop-i-test.true c.has-is_masked.ensures w.if-not-is_masked.true
          (w.push.ensures.items ∙ ap (λ x. cells ++ x ∷ []) w.contribution.ensures) c.loop-i.invariant)
      | else-not-is_masked w ↦
          rw w.cells-is
          (counts-masked counts_as c.args.masked.now c.args.members.now c.loop-i.i cells record { ne = 0; port = 0 } c.has-is_masked.result
          c.loop-i-test.true c.has-is_masked.ensures w.if-not-is_masked.false c.loop-i.invariant)
    ]
