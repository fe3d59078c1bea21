use Rattle.std.proofs.Common.{sym}
use Rattle.sender_choice.proofs.Driven.{next_may, one_more}
use Rattle.sender_choice.proofs.calls.drive.Goals as goal

pub answer-requires : goal.answer-requires
answer-requires g c = record {
  room = next_may _ _ _ _ _ _ c.loop-place.invariant c.loop-place-test.true (sym c.index-calls-place.is);
}

pub loop-place-preserved : goal.loop-place-preserved
loop-place-preserved g c =
    one_more _ _ _ _ _ _ _ _ c.loop-place.invariant c.loop-place-test.true (sym c.index-calls-place.is) c.answer.ensures.held c.answer.ensures.answer
