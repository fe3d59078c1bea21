use Rattle.element_node.specs.Dialog.{piece, first_of, byte}
use Rattle.element_node.proofs.Dialogs.{called, halts_first, passed_on}
use Rattle.element_node.proofs.reading.take_byte.Goals as goal

pub returns-in_err-take_piece-clause-halted : goal.returns-in_err-take_piece-clause-halted
unfolding byte
returns-in_err-take_piece-clause-halted g c = passed_on c.from_residual.result c.in_err-take_piece.field-0.0 _ c.from_residual.ensures.1 (λ w. halts_first (piece 1) first_of _ _ _ w w (c.in_err-take_piece.ensures.halted w))

pub returns-clause-taken : goal.returns-clause-taken
unfolding byte
returns-clause-taken g c = λ w. called (piece 1) _ first_of _ _ w w (c.in_ok-take_piece.ensures.taken w)
