use Rattle.std.proofs.Common.{◌≡◌, ap, arith, length, ◌-◌, ◌+◌, ◌++◌, ◌∷◌, []}
use Rattle.std.proofs.lemmas.List.Elements.{All-nil, All-push}
use Rattle.element_node.specs.Dialog.{ready}
use Rattle.element_node.specs.Input.{IsOwnAct, read_act, read_acts_from}
use Rattle.element_node.proofs.Dialogs.{stays, goes_on, stops_there, ends_as}
use Rattle.element_node.proofs.ActCases.{acts_step, acts_none}
use Rattle.element_node.proofs.acts.take_counted.Goals as goal

pub loop-init : goal.loop-init
loop-init g c =
    let z : c.args.count - 0 ≡ c.args.count = omega arith in (
      ap length c.clear.ensures,
      rw c.clear.ensures (All-nil (IsOwnAct c.args.me)),
      (λ w. rw (z, c.clear.ensures) (stays (read_acts_from c.args.me c.args.count []) _ w)),
      omega arith,
    )

pub loop-preserved : goal.loop-preserved
loop-preserved g c = (
  omega (arith, c.push.ensures.len, c.loop.invariant.0),
  rw c.push.ensures.items (All-push (IsOwnAct c.args.me) c.loop.acts.items c.in_ok-take_act.field-0 c.loop.invariant.1 c.in_ok-take_act.ensures.own),
  (λ w. rw c.push.ensures.items (goes_on (read_acts_from c.args.me c.args.count []) (read_acts_from c.args.me (c.args.count - c.loop.counter) c.loop.acts.items) (read_act c.args.me) c.in_ok-take_act.field-0
      (λ act. read_acts_from c.args.me (c.args.count - (c.loop.counter + 1)) (c.loop.acts.items ++ act ∷ [])) _ _ _
      (acts_step c.args.me (c.args.count - c.loop.counter) (c.args.count - (c.loop.counter + 1)) c.loop.acts.items (omega (arith, c.loop-test.true)))
      c.loop.invariant.2 c.in_ok-take_act.ensures.taken w)),
  omega (arith, c.loop.invariant.3, c.take_act.ensures.faults),
)

pub returns-in_err-take_act-clause-halted : goal.returns-in_err-take_act-clause-halted
returns-in_err-take_act-clause-halted g c = stops_there (read_acts_from c.args.me c.args.count []) (read_acts_from c.args.me (c.args.count - c.loop.counter) c.loop.acts.items) (read_act c.args.me)
    (λ act. read_acts_from c.args.me (c.args.count - (c.loop.counter + 1)) (c.loop.acts.items ++ act ∷ []))
    c.from_residual.result c.in_err-take_act.field-0.0 _ _ _
    (acts_step c.args.me (c.args.count - c.loop.counter) (c.args.count - (c.loop.counter + 1)) c.loop.acts.items (omega (arith, c.loop-test.true)))
    c.from_residual.ensures.1 c.loop.invariant.2 c.in_err-take_act.ensures.halted

pub returns-clause-taken : goal.returns-clause-taken
returns-clause-taken g c = λ w. ends_as (read_acts_from c.args.me c.args.count []) (read_acts_from c.args.me (c.args.count - c.loop.counter) c.loop.acts.items) (ready c.loop.acts.items) _ _ w w (acts_none c.args.me (c.args.count - c.loop.counter) c.loop.acts.items (omega (arith, c.loop-test.false))) (c.loop.invariant.2 w)
