use Rattle.std.specs.Prelude.{All, take}
use Rattle.std.specs.List.{zip}
use Rattle.rejoin.specs.State.{RowFits}
use Rattle.rejoin.proofs.reading.rows_fit.Given as goal

abbrev pub invariant-loop-i : goal.invariant-loop-i
invariant-loop-i l = All (RowFits l.cycle) (take l.i (zip l.table.groups l.rows))
