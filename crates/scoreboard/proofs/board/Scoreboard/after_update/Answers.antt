use Rattle.std.proofs.Common.{sym, ◌∙◌, subst}
use Rattle.scoreboard.specs.Board.{Scoreboard}
use Rattle.scoreboard.specs.Times.{AreBefore, AreLinesOf, OnlyMembersLag, OnlyOthersLag}
use Rattle.scoreboard.proofs.Kept.{before_update, lines_update}
use Rattle.scoreboard.proofs.MemberLags.{members_update}
use Rattle.scoreboard.proofs.Order.{lines_ascend}
use Rattle.scoreboard.proofs.board.Scoreboard.after_update.Goals as goal

pub invariant_of-self : goal.invariant_of-self
invariant_of-self c =
    let P : Scoreboard → Type 0 = λ board. AreLinesOf c.args.table.now board in
    lines_ascend c.args.table.now c.lines_in-lines.result.items c.lines_in-lines.ensures.valid
    (subst P (sym c.lines_in-lines.ensures.lines) (lines_update c.args.table.now c.args.vid c.as_slice.result.now))

pub returns-clause-lines : goal.returns-clause-lines
returns-clause-lines c =
    let P : Scoreboard → Type 0 = λ board. AreLinesOf c.args.table.now board in
    subst P (sym c.lines_in-lines.ensures.lines) (lines_update c.args.table.now c.args.vid c.as_slice.result.now)

pub returns-clause-earlier : goal.returns-clause-earlier
returns-clause-earlier c = λ now earlier.
    let P : Scoreboard → Type 0 = λ board. AreBefore now board in
    subst P (sym c.lines_in-lines.ensures.lines)
    (before_update c.args.table.now c.args.vid c.as_slice.result.now now (subst P (sym (c.as_slice.ensures.value ∙ c.self.view_is)) earlier))

pub returns-clause-members : goal.returns-clause-members
returns-clause-members c = λ others.
    let P : Scoreboard → Type 0 = λ board. OnlyMembersLag c.args.table.now board in
    let Q : Scoreboard → Type 0 = λ board. OnlyOthersLag c.args.table.now c.args.vid board in
    subst P (sym c.lines_in-lines.ensures.lines)
    (members_update c.args.table.now c.args.vid c.as_slice.result.now (subst Q (sym (c.as_slice.ensures.value ∙ c.self.view_is)) others))
