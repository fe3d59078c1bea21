use Rattle.std.proofs.Common.{[], ◌∷◌, ◌++◌, ◌∙◌, ap, arith}
use Rattle.rejoin.specs.Reading.{group_at}
use Rattle.rejoin.proofs.Walks.{made_more}
use Rattle.rejoin.proofs.reading.groups_in.Goals as goal

pub loop-i-preserved : goal.loop-i-preserved
loop-i-preserved c = record {
  all =
      made_more (group_at c.args.bytes.now) c.loop-i.i c.loop-i.groups.items c.push.new.self.items c.loop-i.invariant.all
      (c.push.ensures.items ∙ ap (λ x. c.loop-i.groups.items ++ x ∷ []) c.group_at.ensures);
  count = let before = c.loop-i.invariant.count in let after = c.push.ensures.len in omega arith;
}
