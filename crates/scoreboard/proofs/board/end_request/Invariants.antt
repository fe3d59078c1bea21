use Rattle.scoreboard.proofs.Ending.{IsEnding}
use Rattle.scoreboard.proofs.board.end_request.Given as goal

-- the lines so far are without the request
abbrev pub invariant-loop-line : goal.invariant-loop-line
invariant-loop-line l = IsEnding l.vid l.initial.lines l.line-index l.lines
