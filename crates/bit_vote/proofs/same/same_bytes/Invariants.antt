use Rattle.std.proofs.Common.{◌*◌}
use Rattle.bit_vote.proofs.EqualBytes.{AreSameBelow}
use Rattle.bit_vote.proofs.same.same_bytes.Given as goal

abbrev pub invariant-loop-block : goal.invariant-loop-block
invariant-loop-block l = AreSameBelow (l.block * 32) l.a l.b

abbrev pub invariant-loop-at : goal.invariant-loop-at
invariant-loop-at l = AreSameBelow l.at l.a l.b
