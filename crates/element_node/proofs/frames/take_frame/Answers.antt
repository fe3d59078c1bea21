use Rattle.std.proofs.Common.{refl}
use Rattle.element_node.specs.Dialog.{piece, breaks}
use Rattle.element_node.specs.Input.{read_frame, read_frame_of}
use Rattle.element_node.specs.declared.Halt.TheVariants.{Broken}
use Rattle.element_node.proofs.Dialogs.{tail_done, tail_halts, tail_halts_if, first_err, halts_here}
use Rattle.element_node.proofs.FrameCases.{too_long, not_too_long}
use Rattle.element_node.proofs.frames.take_frame.Goals as goal

pub returns-in_err-take_piece-clause-halted : goal.returns-in_err-take_piece-clause-halted
unfolding read_frame
returns-in_err-take_piece-clause-halted g c = first_err (read_frame) (piece 2) (read_frame_of) c.from_residual.result c.in_err-take_piece.field-0.0 _ _ refl c.from_residual.ensures.1 c.in_err-take_piece.ensures.halted

pub returns-then-count-gt-FRAME_BYTES-clause-halted : goal.returns-then-count-gt-FRAME_BYTES-clause-halted
unfolding read_frame
returns-then-count-gt-FRAME_BYTES-clause-halted g c = tail_halts (read_frame) (piece 2) c.take_piece.new.into (read_frame_of) (breaks 5) (Broken 5) _ _ _ refl (too_long c.length_in-count.result c.take_piece.new.into c.length_in-count.ensures c.if-count-gt-FRAME_BYTES.true) c.in_ok-take_piece.ensures.taken (λ w. halts_here 5 _ w)

pub returns-clause-taken : goal.returns-clause-taken
unfolding read_frame
returns-clause-taken g c = tail_done (read_frame) (piece 2) c.take_piece.new.into (read_frame_of) (piece c.length_in-count.result) c.take_bytes.new.frame.items c.take_bytes.result _ _ _ refl (not_too_long c.length_in-count.result c.take_piece.new.into c.length_in-count.ensures c.if-count-gt-FRAME_BYTES.false) c.in_ok-take_piece.ensures.taken c.take_bytes.ensures.taken

pub returns-clause-halted : goal.returns-clause-halted
unfolding read_frame
returns-clause-halted g c = tail_halts_if (read_frame) (piece 2) c.take_piece.new.into (read_frame_of) (piece c.length_in-count.result) c.take_bytes.result _ _ _ refl (not_too_long c.length_in-count.result c.take_piece.new.into c.length_in-count.ensures c.if-count-gt-FRAME_BYTES.false) c.in_ok-take_piece.ensures.taken c.take_bytes.ensures.halted
