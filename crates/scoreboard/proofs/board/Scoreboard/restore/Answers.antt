use Rattle.std.proofs.Common.{◌≡◌, ◌++◌, ◌∙◌, ap, subst, sym}
use Rattle.std.specs.Prelude.{OnOk}
use Rattle.scoreboard.specs.Board.{Scoreboard}
use Rattle.scoreboard.specs.Times.{AreLinesOf}
use Rattle.scoreboard.proofs.Order.{lines_ascend}
use Rattle.scoreboard.proofs.board.Scoreboard.restore.Goals as goal

pub invariant_of-self : goal.invariant_of-self
invariant_of-self c =
    let P : Scoreboard → Type 0 = λ board. AreLinesOf c.args.table.now board in
    let lines : Scoreboard = c.try_extend_from_slice.new.self.items in
    let extended : Scoreboard = c.new-lines.result.items ++ c.as_slice.result.now in
    let all : lines ≡ extended = subst (λ r. OnOk r (lines ≡ extended)) c.unwrap.ensures c.try_extend_from_slice.ensures.ok in
    let same : lines ≡ c.args.rows.now.items = all ∙ ap (λ (front : Scoreboard). front ++ c.as_slice.result.now) c.new-lines.ensures ∙ c.as_slice.ensures.value in
    lines_ascend c.args.table.now lines c.groups_in-valid.ensures.valid (subst P (sym same) c.requires.lines)
