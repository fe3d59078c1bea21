use Rattle.std.proofs.Common.{refl, []}
use Rattle.element_node.specs.Dialog.{byte, breaks}
use Rattle.element_node.specs.Input.{read_acts, read_counted, read_acts_from}
use Rattle.element_node.specs.declared.Halt.TheVariants.{Broken}
use Rattle.element_node.proofs.Dialogs.{tail_done, tail_halts, tail_halts_if, first_err, halts_here}
use Rattle.element_node.proofs.ActCases.{too_many, not_too_many}
use Rattle.element_node.proofs.acts.take_acts.Goals as goal

pub returns-in_err-count-clause-halted : goal.returns-in_err-count-clause-halted
unfolding read_acts
returns-in_err-count-clause-halted g c = first_err (read_acts c.args.me) (byte) (read_counted c.args.me) c.from_residual.result c.in_err-count.field-0.0 _ _ refl c.from_residual.ensures.1 c.in_err-count.ensures.halted

pub returns-then-count-gt-MOST_ACTS-clause-halted : goal.returns-then-count-gt-MOST_ACTS-clause-halted
unfolding read_acts
returns-then-count-gt-MOST_ACTS-clause-halted g c = tail_halts (read_acts c.args.me) (byte) c.in_ok-count.count (read_counted c.args.me) (breaks 2) (Broken 2) _ _ _ refl (too_many c.args.me c.in_ok-count.count c.if-count-gt-MOST_ACTS.true) c.in_ok-count.ensures.taken (λ w. halts_here 2 _ w)

pub returns-clause-taken : goal.returns-clause-taken
unfolding read_acts
returns-clause-taken g c = tail_done (read_acts c.args.me) (byte) c.in_ok-count.count (read_counted c.args.me) (read_acts_from c.args.me c.in_ok-count.count []) c.take_counted.new.acts.items c.take_counted.result _ _ _ refl (not_too_many c.args.me c.in_ok-count.count c.if-count-gt-MOST_ACTS.false) c.in_ok-count.ensures.taken c.take_counted.ensures.taken

pub returns-clause-halted : goal.returns-clause-halted
unfolding read_acts
returns-clause-halted g c = tail_halts_if (read_acts c.args.me) (byte) c.in_ok-count.count (read_counted c.args.me) (read_acts_from c.args.me c.in_ok-count.count []) c.take_counted.result _ _ _ refl (not_too_many c.args.me c.in_ok-count.count c.if-count-gt-MOST_ACTS.false) c.in_ok-count.ensures.taken c.take_counted.ensures.halted
