use Rattle.std.proofs.Common.{ℕ, sym, ◌∙◌, ap, subst}
use Rattle.std.specs.Prelude.{Option, Some, None}
use Rattle.sender_choice.specs.Sinces.{IsChoice}
use Rattle.sender_choice.specs.Pairs.{sinces_of}
use Rattle.scoreboard.specs.Board.{Scoreboard}
use Rattle.scoreboard.specs.Choice.{decision_of}
use Rattle.scoreboard.specs.Steps.{sinces_in}
use Rattle.scoreboard.proofs.ChosenGroup.{choice_of_held, decision_of-none, decision_of-some}
use Rattle.scoreboard.proofs.board.Scoreboard.decide.Goals as goal

pub returns-in-Some : goal.returns-in-Some
returns-in-Some c =
    let board : Scoreboard = c.as_slice-lines.result.now in
    let eligible = c.put_choosable.new.eligible in
    let held = sinces_of c.put_choosable.new.chooser in
    let Chosen : Option (ℕ × ℕ) → Type 0 = λ choice. IsChoice held eligible choice in
    c.decided.ensures
    ∙ sym (decision_of-some eligible c.args.table.now c.args.flags.now c.args.now board (c.in-Some.vid, c.in-Some.field-0-1)
    c.put_choosable.ensures.valid c.put_choosable.ensures.eligible
    (choice_of_held eligible held (sinces_in board) (Some (c.in-Some.vid, c.in-Some.field-0-1)) c.put_choosable.ensures.held (subst Chosen c.in-Some.is c.oldest.ensures)))
    ∙ ap (decision_of c.args.table.now c.args.flags.now c.args.now) (c.as_slice-lines.ensures.value ∙ c.self.view_is)

pub returns-in-None : goal.returns-in-None
returns-in-None c =
    let board : Scoreboard = c.as_slice-lines.result.now in
    let eligible = c.put_choosable.new.eligible in
    let held = sinces_of c.put_choosable.new.chooser in
    let Chosen : Option (ℕ × ℕ) → Type 0 = λ choice. IsChoice held eligible choice in
    sym (decision_of-none eligible c.args.table.now c.args.flags.now c.args.now board c.put_choosable.ensures.valid c.put_choosable.ensures.eligible
    (choice_of_held eligible held (sinces_in board) None c.put_choosable.ensures.held (subst Chosen c.in-None.is c.oldest.ensures)))
    ∙ ap (decision_of c.args.table.now c.args.flags.now c.args.now) (c.as_slice-lines.ensures.value ∙ c.self.view_is)
