use Rattle.std.proofs.Common.{◌≡◌, ap, sym}
use Rattle.element_node.specs.Input.{read_acts}
use Rattle.element_node.proofs.Dialogs.{passed_on, halts_as, between_as}
use Rattle.element_node.proofs.Rounds.{acts_halt, cycle_served_if, cycle_halts_if}
use Rattle.element_node.proofs.serving.serve_cycle.Goals as goal

pub returns-in_err-take_acts-clause-halted : goal.returns-in_err-take_acts-clause-halted
returns-in_err-take_acts-clause-halted g c = passed_on c.from_residual.result c.in_err-take_acts.field-0.0 _ c.from_residual.ensures.1
    (acts_halt c.args.element.now c.in_err-take_acts.field-0.0 _ _ _ (halts_as (read_acts c.args.element.now.kept.me) (read_acts c.me-me.result) c.in_err-take_acts.field-0.0 _ _ _ _ (ap read_acts (sym c.me-me.ensures.me)) (c.in_err-take_acts.ensures.halted _)))

pub returns-clause-served : goal.returns-clause-served
returns-clause-served g c =
    cycle_served_if c.args.element.now c.answer_acts.new.element c.serve_rounds.new.element c.take_acts.new.acts.items c.answer_acts.new.text.items c.serve_rounds.result _ _ _ _ _ c.answer_acts.ensures.text c.answer_acts.ensures.element
    (between_as (read_acts c.args.element.now.kept.me) (read_acts c.me-me.result) _ _ _ _ _ (ap read_acts (sym c.me-me.ensures.me)) (c.in_ok-take_acts.ensures.taken _))
    c.serve_rounds.ensures.served

pub returns-clause-halted : goal.returns-clause-halted
returns-clause-halted g c =
    cycle_halts_if c.args.element.now c.answer_acts.new.element c.take_acts.new.acts.items c.answer_acts.new.text.items c.serve_rounds.result _ _ _ _ _ c.answer_acts.ensures.text c.answer_acts.ensures.element
    (between_as (read_acts c.args.element.now.kept.me) (read_acts c.me-me.result) _ _ _ _ _ (ap read_acts (sym c.me-me.ensures.me)) (c.in_ok-take_acts.ensures.taken _))
    c.serve_rounds.ensures.halted
