use Rattle.std.proofs.Common.{refl}
use Rattle.element_node.specs.Dialog.{byte}
use Rattle.element_node.specs.Input.{read_act, read_act_of}
use Rattle.element_node.proofs.Dialogs.{tail_ok, tail_err, first_err}
use Rattle.element_node.proofs.acts.take_act.Goals as goal

pub returns-in_err-kind-clause-halted : goal.returns-in_err-kind-clause-halted
unfolding read_act
returns-in_err-kind-clause-halted g c = first_err (read_act c.args.me) (byte) (read_act_of c.args.me) c.from_residual.result c.in_err-kind.field-0.0 _ _ refl c.from_residual.ensures.1 c.in_err-kind.ensures.halted

pub returns-clause-taken : goal.returns-clause-taken
unfolding read_act
returns-clause-taken g c = tail_ok (read_act c.args.me) (byte) c.in_ok-kind.kind (read_act_of c.args.me) c.take_act_of.result _ _ _ refl c.in_ok-kind.ensures.taken c.take_act_of.ensures.taken

pub returns-clause-halted : goal.returns-clause-halted
unfolding read_act
returns-clause-halted g c = tail_err (read_act c.args.me) (byte) c.in_ok-kind.kind (read_act_of c.args.me) c.take_act_of.result _ _ _ refl c.in_ok-kind.ensures.taken c.take_act_of.ensures.halted
