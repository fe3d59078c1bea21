use Rattle.std.proofs.Common.{◌≡◌, ◌+◌, List, sym, ap, ◌∙◌, subst}
use Rattle.config_table.specs.declared.decisions.GroupFlags.{GroupFlags}
use Rattle.scoreboard.specs.Board.{Scoreboard, marked}
use Rattle.scoreboard.specs.Choice.{decision_of, after_decision, scoreboard_decision}
use Rattle.scoreboard.specs.Times.{AreLinesOf, AreBefore, OnlyMembersLag}
use Rattle.scoreboard.proofs.Kept.{before_decision, lines_decision, lines_marked}
use Rattle.scoreboard.proofs.MemberLags.{members_step}
use Rattle.scoreboard.proofs.board.Scoreboard.step_into.Goals as goal

pub returns-clause-lines : goal.returns-clause-lines
returns-clause-lines c =
    let P : Scoreboard → Type 0 = λ board. AreLinesOf c.args.table.now board in
    subst P (sym c.end.ensures)
    (lines_decision c.args.table.now c.decide-decision.result c.mark_into.new.after
    (subst P (sym c.mark_into.ensures.after) (lines_marked c.args.table.now c.new-flags.result c.args.now c.args.self.now)))

pub returns-clause-earlier : goal.returns-clause-earlier
returns-clause-earlier c =
    let P : Scoreboard → Type 0 = λ board. AreBefore (c.args.now + 1) board in
    subst P (sym c.end.ensures) (before_decision (c.args.now + 1) c.decide-decision.result c.mark_into.new.after c.mark_into.ensures.earlier)

pub returns-clause-members : goal.returns-clause-members
returns-clause-members c =
    let table = c.args.table.now in
    let P : Scoreboard → Type 0 = λ board. OnlyMembersLag table board in
    let flags : c.new-flags.result ≡ c.args.flags.now.items = c.new-flags.ensures ∙ c.as_slice.ensures.value in
    let lines : c.mark_into.new.after ≡ marked table c.args.flags.now.items c.args.now c.args.self.now =
    c.mark_into.ensures.after ∙ ap (λ (given : List GroupFlags). marked table given c.args.now c.args.self.now) flags in
    let decision : c.decide-decision.result ≡ scoreboard_decision table c.args.now c.args.flags.now.items c.args.self.now =
    c.decide-decision.ensures ∙ (λ i. decision_of table (flags i) c.args.now (lines i)) in
    subst P (sym (c.end.ensures ∙ (λ i. after_decision (decision i) (lines i)))) (members_step table c.args.now c.args.flags.now.items c.args.self.now)
