use Rattle.std.proofs.Common.{refl, sym, ◌∙◌, subst}
use Rattle.std.specs.Prelude.{All}
use Rattle.rejoin.specs.State.{RowFits}
use Rattle.rejoin.proofs.Walks.{holds_at, holds_more, all_pairs}
use Rattle.rejoin.proofs.reading.rows_fit.Goals as goal

pub returns-then-not-row_fits : goal.returns-then-not-row_fits
returns-then-not-row_fits c = (
  λ wrong. cc,
  λ all.
      sym c.if-not-row_fits.true
      ∙ c.row_fits.ensures.1
      (holds_at (RowFits c.args.cycle) c.groups-groups.result.now c.args.table.now.groups c.args.rows.now c.groups-groups.ensures.groups c.requires
      c.loop-i.i c.index-groups-i.result c.loop-i-test.true c.index-groups-i.is all),
)

pub loop-i-preserved : goal.loop-i-preserved
loop-i-preserved c =
    holds_more (RowFits c.args.cycle) c.groups-groups.result.now c.args.table.now.groups c.args.rows.now c.groups-groups.ensures.groups c.requires
    c.loop-i.i c.index-groups-i.result c.loop-i-test.true c.index-groups-i.is c.loop-i.invariant (c.row_fits.ensures.0 c.if-not-row_fits.false)

pub returns : goal.returns
returns c = (
  λ yes.
      subst (All (RowFits c.args.cycle))
      (all_pairs c.groups-groups.result.now c.args.table.now.groups c.args.rows.now c.loop-i.i c.groups-groups.ensures.groups c.requires c.loop-i-test.false)
      c.loop-i.invariant,
  λ all. refl,
)
