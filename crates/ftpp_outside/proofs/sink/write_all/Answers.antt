use Rattle.std.proofs.Common.{arith}
use Rattle.std.proofs.lemmas.List.{take_rest}
use Rattle.std.proofs.Math.Seq.{take-add}
use Rattle.ftpp_outside.proofs.Told.{adds_both}
use Rattle.ftpp_outside.proofs.sink.write_all.Goals as goal

pub loop-done-preserved : goal.loop-done-preserved
loop-done-preserved g c = (
  omega (arith, c.in_ok-done.ensures.count),
  adds_both _ _ _ _ _ _ c.loop-done.invariant.1 c.in_ok-done.ensures.bytes (rw take_rest (take-add c.loop-done.done c.in_ok-done.field-0 c.args.piece.now)),
  omega arith,
)
