use Rattle.std.proofs.Common.{◌≡◌, map, vec_len, vec_capacity, length}
use Rattle.std.specs.List.{range_with_len}
use Rattle.campaign.proofs.sweeping.sweep.Given as goal

abbrev pub invariant-loop-answer : goal.invariant-loop-answer
invariant-loop-answer g l =
    (vec_capacity l.outcomes ≡ length l.answer-items)
    × (vec_len l.outcomes ≡ l.answer-index)
    × (l.outcomes.items ≡ map (g.T.Trial.outcome l.trial) (range_with_len l.fn.first l.answer-index))
