use Rattle.std.proofs.Common.{arith}
use Rattle.std.proofs.lemmas.Bool.{ne_eqb}
use Rattle.packet_format.specs.declared.acts.Act.TheVariants.{Read}
use Rattle.element_node.specs.Dialog.{piece, ready}
use Rattle.element_node.specs.Input.{own, posted, read_act_at}
use Rattle.element_node.specs.declared.Halt.TheVariants.{Broken}
use Rattle.element_node.proofs.Dialogs.{stays, called, first_err, halts_here, halts_as, between_as}
use Rattle.element_node.proofs.ActCases.{bad_port, read_here, post_here}
use Rattle.element_node.proofs.acts.take_act_at.Goals as goal

pub returns-then-port-ge8-clause-halted : goal.returns-then-port-ge8-clause-halted
returns-then-port-ge8-clause-halted g c = λ w. halts_as _ _ (Broken 4) _ _ w w (bad_port c.args.me c.args.kind c.args.port c.if-port-ge8.true) (halts_here 4 _ w)

pub returns-in_err-take_piece-clause-halted : goal.returns-in_err-take_piece-clause-halted
returns-in_err-take_piece-clause-halted g c = first_err (read_act_at c.args.me c.args.kind c.args.port) (piece 67) (posted c.args.me c.args.port) c.from_residual.result c.in_err-take_piece.field-0.0 _ _ (post_here c.args.me c.args.kind c.args.port c.if-port-ge8.false (omega (arith, c.if-kind-ne1.false))) c.from_residual.ensures.1 c.in_err-take_piece.ensures.halted

pub returns-clause-taken : goal.returns-clause-taken
returns-clause-taken g c = λ w. between_as _ _ _ _ _ w w (post_here c.args.me c.args.kind c.args.port c.if-port-ge8.false (omega (arith, c.if-kind-ne1.false))) (rw c.post_of.ensures (called (piece 67) c.take_piece.new.into (posted c.args.me c.args.port) _ _ w w (c.in_ok-take_piece.ensures.taken w)))

pub returns-then-kind-ne1-clause-taken : goal.returns-then-kind-ne1-clause-taken
returns-then-kind-ne1-clause-taken g c = λ w. rw c.byte-ne.ensures.number (between_as _ _ _ _ _ w w (read_here c.args.me c.args.kind c.args.port c.if-port-ge8.false (ne_eqb _ _ c.if-kind-ne1.true)) (stays (ready (Read (own c.args.me c.args.port))) _ w))
