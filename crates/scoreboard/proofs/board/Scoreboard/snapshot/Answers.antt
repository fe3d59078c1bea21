use Rattle.std.proofs.Common.{◌∙◌, ap}
use Rattle.std.specs.Prelude.{None}
use Rattle.scoreboard.specs.Board.{Scoreboard}
use Rattle.scoreboard.specs.Steps.{lines_but}
use Rattle.scoreboard.proofs.Kept.{lines_for-same}
use Rattle.scoreboard.proofs.board.Scoreboard.snapshot.Goals as goal

pub returns-clause-same : goal.returns-clause-same
returns-clause-same c = λ lines.
    c.lines_in.ensures.lines
    ∙ ap (λ (board : Scoreboard). lines_but c.args.table.now board None) (c.as_slice.ensures.value ∙ c.self.view_is)
    ∙ lines_for-same c.args.table.now c.args.self.now c.lines_in.ensures.valid lines
