use Rattle.std.proofs.Common.{arith}
use Rattle.bit_vote.proofs.Majority.{length-present}
use Rattle.bit_vote.proofs.Counts.{width-present}
use Rattle.bit_vote.proofs.plain.count_present.Goals as goal

pub overflow_add-count : goal.overflow_add-count
overflow_add-count g c = omega (arith, length-present c.args.list.now)

pub returns-clause-few : goal.returns-clause-few
returns-clause-few g c = omega (arith, length-present c.args.list.now)

pub returns-clause-width : goal.returns-clause-width
returns-clause-width g c some = width-present g.row.B c.args.list.now (λ k l. c.loop-cell.invariant.wide k (omega arith)) (omega arith)
