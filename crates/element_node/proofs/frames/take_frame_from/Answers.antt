use Rattle.std.proofs.Common.{◌≡◌, arith}
use Rattle.link_fabric.specs.Rows.{rows_of}
use Rattle.element_node.specs.Input.{read_frame, read_frame_from}
use Rattle.element_node.specs.Dialog.{ready}
use Rattle.element_node.proofs.Dialogs.{stays, between_as, halts_as, passed_on}
use Rattle.element_node.proofs.FrameCases.{own_place, other_place, own_row, put_row, rows_wide}
use Rattle.element_node.proofs.frames.take_frame_from.Goals as goal

pub returns-then-eq-clause-taken : goal.returns-then-eq-clause-taken
returns-then-eq-clause-taken g c = λ w. between_as _ (ready _) _ _ _ w w (own_row c.args.link.now.owner c.args.sender _ (rows_of c.args.link.now.came.items) c.eq.ensures c.if-eq.true c.requires.own) (stays (ready _) _ w)

pub returns-in_err-take_frame-clause-halted : goal.returns-in_err-take_frame-clause-halted
returns-in_err-take_frame-clause-halted g c = passed_on c.from_residual.result c.in_err-take_frame.field-0.0 _ c.from_residual.ensures.1
    (λ w. halts_as (read_frame_from c.args.link.now.owner c.args.sender) read_frame c.in_err-take_frame.field-0.0 _ _ w w (other_place c.args.link.now.owner c.args.sender _ c.eq.ensures c.if-eq.false) (c.in_err-take_frame.ensures.halted w))

pub returns-clause-taken : goal.returns-clause-taken
returns-clause-taken g c = λ w. between_as (read_frame_from c.args.link.now.owner c.args.sender) read_frame _ _ _ w w (other_place c.args.link.now.owner c.args.sender _ c.eq.ensures c.if-eq.false) (rw (put_row c.args.sender (rows_of c.args.link.now.came.items) _ _ (omega (arith, c.requires.below, rows_wide c.args.link.now.came.items _ c.args.link.now.came_len)) c.arrive.ensures.frame) (c.in_ok-take_frame.ensures.taken w))
