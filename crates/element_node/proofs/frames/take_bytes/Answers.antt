use Rattle.std.proofs.Common.{ℕ, arith, length, take, replicate}
use Rattle.std.proofs.lemmas.List.{length-take-le, length-replicate}
use Rattle.element_node.proofs.Dialogs.{passed_on}
use Rattle.element_node.proofs.Pieces.{as_many}
use Rattle.element_node.proofs.frames.take_bytes.Goals as goal

pub returns-in_err-take_piece-clause-halted : goal.returns-in_err-take_piece-clause-halted
returns-in_err-take_piece-clause-halted g c = passed_on c.from_residual.result c.in_err-take_piece.field-0.0 _ c.from_residual.ensures.1
    (as_many (length (take c.args.count (replicate 331 0))) c.args.count c.in_err-take_piece.field-0.0 _ _ (length-take-le c.args.count (replicate 331 0) (omega (arith, c.requires, length-replicate {A = ℕ} 331 0))) c.in_err-take_piece.ensures.halted)
