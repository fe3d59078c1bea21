use Rattle.std.proofs.Common.{◌∙◌}
use Rattle.element_core.proofs.RejoinRows.{none_spelled, other_size}
use Rattle.element_core.proofs.rejoining.voted_state.Goals as goal

pub returns-in_err-state-clause-none : goal.returns-in_err-state-clause-none
returns-in_err-state-clause-none g c = λ e. none_spelled g.row.N c.args.me c.args.states.now c.in_ok-bytes.bytes c.in_ok-bytes.ensures c.in_err-state.ensures.only

pub returns-else-from-clause-none : goal.returns-else-from-clause-none
returns-else-from-clause-none g c = λ e.
    other_size g.row.N c.args.me c.args.states.now c.in_ok-bytes.bytes c.in_ok-state.state c.in_ok-bytes.ensures c.in_ok-state.ensures.only
    (λ same. c.if-from.false (c.from.ensures ∙ c.n.ensures.n ∙ same))
