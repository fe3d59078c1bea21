use Rattle.std.proofs.Common.{◌≡◌, true, sym, ap, ◌∙◌, arith}
use Rattle.ftpp_base.specs.Lists.{each_below}
use Rattle.ftpp_base.specs.declared.element.Round.TheVariants.{B2}
use Rattle.config_table.specs.declared.decisions.Decision.{Decision}
use Rattle.element_core.specs.ElementValue.{ElementValue, decision_now, cells_taken, heard_with, ended_with, frames_in}
use Rattle.element_core.specs.Quiet.{is_quiet}
use Rattle.element_core.proofs.Results.{ended_again}
use Rattle.element_core.proofs.Unheard.{ended_quiet}
use Rattle.element_core.proofs.element.Element.hear_last.Goals as goal

pub returns-then-is_quiet-clause-element : goal.returns-then-is_quiet-clause-element
returns-then-is_quiet-clause-element g c =
    let e = c.args.self.now in
    let frames = frames_in (g.L.Link.came c.args.link.now) in
    let due = ap (λ (v : ElementValue). v.due) c.self.view_is ∙ c.requires.due in
    let decision = (c.self.invariant.0.agreed (rw due (omega arith))).decision ∙ ap (λ (v : ElementValue). decision_now v) c.self.view_is in
    let quiet : is_quiet (decision_now e) ≡ true = sym (ap (λ (d : Decision). is_quiet d) decision) ∙ sym c.is_quiet.ensures ∙ c.if-is_quiet.true in
    c.end_cycle.ensures
    ∙ ended_quiet e (each_below e.kept.table.n (cells_taken e.kept e.heard B2 frames)) quiet

pub returns-else-is_quiet-clause-element : goal.returns-else-is_quiet-clause-element
returns-else-is_quiet-clause-element g c =
    let frames = frames_in (g.L.Link.came c.args.link.now) in
    let e = c.args.self.now in
    c.end_cycle-else-is_quiet.ensures
    ∙ ap (λ (v : ElementValue). ended_with v v.heard) c.hear_packet_echoes.ensures.element
    ∙ ended_again e (heard_with e B2 frames)
