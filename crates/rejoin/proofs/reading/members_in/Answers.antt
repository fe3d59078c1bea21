use Rattle.std.proofs.Common.{arith}
use Rattle.rejoin.specs.Reading.{member_from}
use Rattle.rejoin.proofs.Walks.{made_more}
use Rattle.rejoin.proofs.reading.members_in.Goals as goal

pub loop-i-preserved : goal.loop-i-preserved
loop-i-preserved c = record {
  all = made_more (member_from c.args.bytes.now) c.loop-i.i c.loop-i.members.items c.push.new.self.items c.loop-i.invariant.all c.push.ensures.items;
  count = let before = c.loop-i.invariant.count in let after = c.push.ensures.len in omega arith;
}
