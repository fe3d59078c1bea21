use Rattle.std.proofs.Common.{◌-◌, ◌≤◌, length, take}
use Rattle.ftpp_outside.specs.Told.{Adds}
use Rattle.ftpp_outside.proofs.sink.write_all.Given as goal

abbrev pub invariant-loop-done : goal.invariant-loop-done
invariant-loop-done g l =
    (l.done ≤ length l.piece)
    × Adds (g.K.Sink.written l.fn.sink) (take l.done l.piece) (g.K.Sink.written l.sink)
    × (g.K.Sink.faults l.fn.sink ≤ g.K.Sink.faults l.sink)

abbrev pub decreases-loop-done : goal.decreases-loop-done
decreases-loop-done g l = length l.piece - l.done
