use Rattle.std.proofs.Common.{◌≡◌, map, take}
use Rattle.scoreboard.specs.Steps.{group_line}
use Rattle.scoreboard.proofs.board.lines_in.Given as goal

-- the lines of the groups so far
abbrev pub invariant-loop-group : goal.invariant-loop-group
invariant-loop-group l = l.rows.items ≡ map (group_line l.lines l.updated) (take l.group-index l.group-items)
