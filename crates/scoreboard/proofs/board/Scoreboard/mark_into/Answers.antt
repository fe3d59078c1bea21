use Rattle.std.proofs.Common.{◌+◌, sym, ◌∙◌, subst}
use Rattle.scoreboard.specs.Board.{Scoreboard}
use Rattle.scoreboard.specs.Times.{AreBefore}
use Rattle.scoreboard.proofs.Kept.{before_marked}
use Rattle.scoreboard.proofs.board.Scoreboard.mark_into.Goals as goal

pub returns-clause-earlier : goal.returns-clause-earlier
returns-clause-earlier c =
    let Before : Scoreboard → Type 0 = λ board. AreBefore c.args.now board in
    let After : Scoreboard → Type 0 = λ board. AreBefore (c.args.now + 1) board in
    subst After (sym c.mark_all.ensures.lines)
    (before_marked c.args.table.now c.args.flags.now c.args.now c.as_slice.result.now (subst Before (sym (c.as_slice.ensures.value ∙ c.self.view_is)) c.requires.earlier))
