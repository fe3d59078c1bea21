use Rattle.scoreboard.proofs.Kept.{held_lines}
use Rattle.scoreboard.proofs.laws.lines_are_held.Goals as goal

pub returns : goal.returns
returns c = held_lines
