use Rattle.std.proofs.Common.{sym, ◌∙◌}
use Rattle.scoreboard.specs.Steps.{flags_number}
use Rattle.scoreboard.proofs.Order.{one_more, none_more}
use Rattle.scoreboard.proofs.votes.are_ordered.Goals as goal

pub loop-one-preserved : goal.loop-one-preserved
loop-one-preserved c =
    one_more flags_number c.args.flags.now c.loop-one.least c.loop-one.one-index c.from-number.result _ c.loop-one-test.true c.from-number.ensures c.if-number-least.false
    ∙ c.loop-one.invariant

pub returns-then-number-least : goal.returns-then-number-least
returns-then-number-least c =
    sym (none_more flags_number c.args.flags.now c.loop-one.least c.loop-one.one-index c.from-number.result _ c.loop-one-test.true c.from-number.ensures c.if-number-least.true)
    ∙ c.loop-one.invariant
