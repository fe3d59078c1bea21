use Rattle.std.proofs.Common.{sym, subst}
use Rattle.scoreboard.specs.Board.{Scoreboard}
use Rattle.scoreboard.specs.Times.{AreBefore, AreLinesOf, OnlyMembersLag}
use Rattle.scoreboard.proofs.Kept.{before_empty, lines_empty}
use Rattle.scoreboard.proofs.MemberLags.{members_empty}
use Rattle.scoreboard.proofs.Order.{lines_ascend}
use Rattle.scoreboard.proofs.board.Scoreboard.new.Goals as goal

pub invariant_of-result : goal.invariant_of-result
invariant_of-result c =
    let P : Scoreboard → Type 0 = λ board. AreLinesOf c.args.table.now board in
    lines_ascend c.args.table.now c.lines_in.result.items c.lines_in.ensures.valid (subst P (sym c.lines_in.ensures.lines) (lines_empty c.args.table.now))

pub returns-clause-lines : goal.returns-clause-lines
returns-clause-lines c = let P : Scoreboard → Type 0 = λ board. AreLinesOf c.args.table.now board in subst P (sym c.lines_in.ensures.lines) (lines_empty c.args.table.now)

pub returns-clause-earlier : goal.returns-clause-earlier
returns-clause-earlier c = let P : Scoreboard → Type 0 = λ board. AreBefore 0 board in subst P (sym c.lines_in.ensures.lines) (before_empty c.args.table.now)

pub returns-clause-members : goal.returns-clause-members
returns-clause-members c = let P : Scoreboard → Type 0 = λ board. OnlyMembersLag c.args.table.now board in subst P (sym c.lines_in.ensures.lines) (members_empty c.args.table.now)
