use Rattle.std.proofs.Common.{◌<◌, arith}
use Rattle.campaign.proofs.Outcomes.{taken_more}
use Rattle.campaign.proofs.sweeping.sweep.Goals as goal

pub loop-answer-preserved : goal.loop-answer-preserved
loop-answer-preserved g c =
    let f = g.T.Trial.outcome c.args.trial.now in
    let k = c.loop-answer.answer-index in
    let below : k < c.args.count = omega (arith, c.loop-answer-test.true, c.deref-answer-items.ensures.len, c.in-Ok.ensures.length) in (
      omega arith,
      omega arith,
      taken_more f c.args.first k _ _ _ _ c.push_reserved.ensures.items c.loop-answer.invariant.2 c.in_ok-answer.was
          (rw c.deref-answer-items.ensures.value (c.in-Ok.ensures.each k _ below)),
    )
