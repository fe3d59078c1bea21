use Rattle.std.proofs.Common.{arith}
use Rattle.bit_vote.proofs.Votes.{vote_none, vote_some, voted_more}
use Rattle.bit_vote.proofs.plain.vote.Goals as goal

pub returns-then-list-count : goal.returns-then-list-count
returns-then-list-count g c = vote_none c.args.list.now (omega arith)

pub loop-at-preserved : goal.loop-at-preserved
loop-at-preserved g c = voted_more c.loop-at.invariant c.vote_byte.result c.loop-at-test.true c.vote_byte.ensures

pub returns : goal.returns
returns g c =
    let wide = c.count_present-count.ensures.width (omega arith) in
    vote_some c.args.list.now c.loop-at.row (omega arith) (omega (arith, wide, c.loop-at.invariant.long))
    (λ k h. c.loop-at.invariant.voted k (omega (arith, wide)))
