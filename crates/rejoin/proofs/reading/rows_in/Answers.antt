use Rattle.std.proofs.Common.{[], ◌∷◌, ◌++◌, ◌∙◌, ap, arith}
use Rattle.rejoin.specs.Reading.{row_at}
use Rattle.rejoin.proofs.Walks.{made_more}
use Rattle.rejoin.proofs.reading.rows_in.Goals as goal

pub loop-i-preserved : goal.loop-i-preserved
loop-i-preserved c = record {
  all =
      made_more (row_at c.args.bytes.now) c.loop-i.i c.loop-i.rows.items c.push.new.self.items c.loop-i.invariant.all
      (c.push.ensures.items ∙ ap (λ x. c.loop-i.rows.items ++ x ∷ []) c.row_at.ensures);
  count = let before = c.loop-i.invariant.count in let after = c.push.ensures.len in omega arith;
}
