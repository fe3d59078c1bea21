use Rattle.std.proofs.Common.{List, sym, subst, ◌∙◌, ap}
use Rattle.config_table.specs.declared.decisions.StateRow.{StateRow}
use Rattle.config_table.specs.Table.{TableValue}
use Rattle.scoreboard.specs.Board.{Scoreboard}
use Rattle.scoreboard.specs.Times.{AreLinesOf, lines_for}
use Rattle.rejoin.specs.State.{IsInRange, IsState, state_bytes}
use Rattle.element_core.specs.Element.{Kept}
use Rattle.element_core.proofs.RejoinRows.{in_range, state_is}
use Rattle.element_core.proofs.kept_state.KeptState.state.Goals as goal

pub encode_state-requires : goal.encode_state-requires
encode_state-requires c =
    let h = c.self.invariant.0 in
    let P : TableValue × List StateRow → Type 0 = λ x. IsInRange c.self.inside.cycle x.0 x.1 in
    subst P (λ i. (sym c.copy.ensures.same i, sym c.snapshot.ensures.lines i))
    (subst (λ (board : Scoreboard). IsInRange c.self.inside.cycle c.self.inside.table (lines_for c.self.inside.table board)) (sym c.deref.ensures)
    (in_range c.self.inside.cycle c.self.inside.table c.self.inside.scoreboard.value h.cycle c.copy.ensures.valid h.earlier h.members))

pub returns : goal.returns
returns c =
    let h = c.self.invariant.0 in
    subst (λ (k : Kept). IsState c.encode_state.result k.cycle k.table k.scoreboard) c.self.view_is
    (state_is c.self.inside.cycle c.self.inside.table c.self.inside.scoreboard.value c.encode_state.result c.snapshot.result.items h.cycle c.copy.ensures.valid h.lines h.earlier h.members
    (c.snapshot.ensures.same (subst (AreLinesOf c.self.inside.table) (sym c.deref.ensures) h.lines) ∙ c.deref.ensures)
    (c.encode_state.ensures ∙ ap (λ (t : TableValue). state_bytes c.self.inside.cycle t c.snapshot.result.items) c.copy.ensures.same))
