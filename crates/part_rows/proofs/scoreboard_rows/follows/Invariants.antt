use Rattle.scoreboard.specs.Times.{AreBefore, AreLinesOf}
use Rattle.part_rows.proofs.scoreboard_rows.follows.Given as goal

-- the lines are those of the table's groups, and of earlier cycles
abbrev pub invariant-loop-now : goal.invariant-loop-now
invariant-loop-now l = AreBefore l.now l.board × AreLinesOf l.table l.board
