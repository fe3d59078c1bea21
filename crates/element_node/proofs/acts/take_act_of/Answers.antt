use Rattle.element_node.specs.Dialog.{byte}
use Rattle.element_node.specs.Input.{read_act_at, read_act_of}
use Rattle.element_node.proofs.Dialogs.{tail_ok, tail_err, first_err, halts_here, halts_as}
use Rattle.element_node.proofs.ActCases.{bad_kind, good_kind}
use Rattle.element_node.specs.declared.Halt.TheVariants.{Broken}
use Rattle.element_node.proofs.acts.take_act_of.Goals as goal

pub returns-then-not-is_kind-clause-halted : goal.returns-then-not-is_kind-clause-halted
returns-then-not-is_kind-clause-halted g c = λ w. halts_as _ _ (Broken 3) _ _ w w (bad_kind c.args.me c.args.kind _ c.is_kind.ensures c.if-not-is_kind.true) (halts_here 3 _ w)

pub returns-in_err-port-clause-halted : goal.returns-in_err-port-clause-halted
returns-in_err-port-clause-halted g c = first_err (read_act_of c.args.me c.args.kind) (byte) (read_act_at c.args.me c.args.kind) c.from_residual.result c.in_err-port.field-0.0 _ _ (good_kind _ _ _ c.is_kind.ensures c.if-not-is_kind.false) c.from_residual.ensures.1 c.in_err-port.ensures.halted

pub returns-clause-taken : goal.returns-clause-taken
returns-clause-taken g c = tail_ok (read_act_of c.args.me c.args.kind) (byte) c.in_ok-port.port (read_act_at c.args.me c.args.kind) c.take_act_at.result _ _ _ (good_kind _ _ _ c.is_kind.ensures c.if-not-is_kind.false) c.in_ok-port.ensures.taken c.take_act_at.ensures.taken

pub returns-clause-halted : goal.returns-clause-halted
returns-clause-halted g c = tail_err (read_act_of c.args.me c.args.kind) (byte) c.in_ok-port.port (read_act_at c.args.me c.args.kind) c.take_act_at.result _ _ _ (good_kind _ _ _ c.is_kind.ensures c.if-not-is_kind.false) c.in_ok-port.ensures.taken c.take_act_at.ensures.halted
