use Rattle.std.proofs.Common.{arith, ◌*◌}
use Rattle.bit_vote.proofs.Votes.{vote_none, vote_some, voted_block}
use Rattle.bit_vote.proofs.lanes.vote_lanes.Goals as goal

pub returns-then-list-count : goal.returns-then-list-count
returns-then-list-count g c = vote_none c.args.list.now (omega arith)

pub loop-block-preserved : goal.loop-block-preserved
loop-block-preserved g c =
    voted_block c.loop-block.invariant (c.loop-block.block * 32) _ c.put_block.new.row c.vote_block.result (omega arith) (omega arith)
    c.put_block.ensures.length c.put_block.ensures.below c.put_block.ensures.block c.vote_block.ensures.voted

pub returns : goal.returns
returns g c =
    let wide = c.count_present-count.ensures.width (omega arith) in
    vote_some c.args.list.now c.loop-at.row (omega arith) (omega (arith, wide, c.loop-at.invariant.long))
    (λ k h. c.loop-at.invariant.voted k (omega (arith, wide)))
