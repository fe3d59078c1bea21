use Rattle.std.proofs.Common.{ap, arith, length, take, Ok}
use Rattle.ftpp_outside.proofs.Told.{gives_both}
use Rattle.element_node.specs.Dialog.{piece}
use Rattle.element_node.proofs.Pieces.{partly, whole, short, so_far, same_gift, no_more, less_taken, room_behind, fits_behind, same_length, to_the_end}
use Rattle.element_node.proofs.reading.take_piece.Goals as goal

pub returns-in_default-clause-halted : goal.returns-in_default-clause-halted
returns-in_default-clause-halted g c = λ w. (
  _,
  so_far (piece (length c.args.into.now)) (take c.loop-done.done c.loop-done.into) _ _ w (same_gift _ _ _ _ c.in_default.ensures.same c.loop-done.invariant.1),
  short _ (take c.loop-done.done c.loop-done.into) (less_taken _ _ c.loop-done.into c.loop-done-test.true c.loop-done.auto.into),
)

pub returns-then-count-eq0-clause-halted : goal.returns-then-count-eq0-clause-halted
returns-then-count-eq0-clause-halted g c = λ w. (
  _,
  so_far (piece (length c.args.into.now)) (take c.loop-done.done c.loop-done.into) _ _ w (no_more _ _ _ _ c.read.new.into c.in-Ok.count c.if-count-eq0.true c.loop-done.invariant.1 c.in-Ok.ensures.bytes),
  (
    short _ (take c.loop-done.done c.loop-done.into) (less_taken _ _ c.loop-done.into c.loop-done-test.true c.loop-done.auto.into),
    c.in-Ok.ensures.end (ap Ok c.if-count-eq0.true) (room_behind _ c.loop-done.into c.loop-done-test.true),
  ),
)

pub loop-done-preserved : goal.loop-done-preserved
loop-done-preserved g c = (omega (arith, same_length c.loop-done.into c.read.new.into c.loop-done.done c.read.auto.into, fits_behind c.loop-done.done c.loop-done.into c.loop-done.invariant.0, c.in-Ok.ensures.count), gives_both _ _ _ _ _ _ c.loop-done.invariant.1 c.in-Ok.ensures.bytes (partly c.loop-done.into c.read.new.into c.loop-done.done _ c.in-Ok.count c.loop-done.invariant.0 (omega (arith, c.read.auto.into, c.in-Ok.ensures.count))), omega (arith, c.in-Ok.ensures.faults, c.loop-done.invariant.2))

pub returns-clause-taken : goal.returns-clause-taken
returns-clause-taken g c = λ w. whole _ c.loop-done.into _ _ w c.loop-done.auto.into (to_the_end _ _ c.loop-done.into c.loop-done.done c.loop-done-test.false c.loop-done.invariant.1)
