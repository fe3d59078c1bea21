use Rattle.std.proofs.Common.{◌≡◌, map, take}
use Rattle.scoreboard.specs.Board.{marked_line}
use Rattle.scoreboard.proofs.marks.mark_all.Given as goal

-- the lines of the groups so far
abbrev pub invariant-loop-place : goal.invariant-loop-place
invariant-loop-place l = l.after.items ≡ map (marked_line l.flags l.now l.lines) (take l.place l.group-items)
