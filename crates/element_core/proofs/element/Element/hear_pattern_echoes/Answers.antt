use Rattle.std.proofs.Common.{◌≡◌, ◌<◌, sym, ap, ◌∙◌, subst, arith}
use Rattle.std.specs.Prelude.{option_map}
use Rattle.ftpp_base.specs.declared.element.Round.TheVariants.{A2, B1}
use Rattle.two_round.specs.Echoes.{Echoes}
use Rattle.element_core.specs.ElementValue.{ElementValue, after_absorb, patterns_now, frames_in}
use Rattle.element_core.specs.declared.Due.TheVariants.{Emit}
use Rattle.element_core.specs.Pending.{element_with, IsElement}
use Rattle.element_core.specs.Told.{told_of}
use Rattle.element_core.proofs.StepLaws.{own_cells_stay}
use Rattle.element_core.proofs.Holding.{second_are, agreed_midst, holds_agreed}
use Rattle.element_core.proofs.element.Element.hear_pattern_echoes.Goals as goal

pub invariant_of-self : goal.invariant_of-self
invariant_of-self g c =
    let s = c.self.inside in
    let h = c.self.invariant.0 in
    let last = option_map (told_of {n = g.row.N}) s.last in
    let frames = frames_in (g.L.Link.came c.args.link.now) in
    let e = element_with s.kept s.patterns s.packets s.due last s.log in
    let after = after_absorb A2 frames e in
    let due = ap (λ (v : ElementValue). v.due) c.self.view_is ∙ c.requires.due in
    let relayed = second_are g.row.N s.kept.table.n c.slot-slot.result _ c.me.result s.kept.me frames h.elements c.slot-slot.ensures c.me.ensures.me in
    let is = c.hear_echoes.ensures.heard ∙ (λ i. record { me = s.patterns.me; copies = s.patterns.copies; relayed = relayed i }) in
    let cells = own_cells_stay e A2 frames due (subst (λ k. s.kept.me < k) (sym h.elements) h.below) h.cells in
    let now : c.hear_echoes.new.exchange ≡ patterns_now after = is ∙ (λ i. record { me = c.self.invariant.1 i; copies = s.patterns.copies; relayed = after.heard.relayed_patterns }) in
    let agreed = agreed_midst g.row.N after c.decide.new.self c.hear_echoes.new.exchange h.elements cells (omega arith) now
    c.decide.ensures.results c.decide.ensures.differing c.decide.ensures.pattern c.decide.ensures.decision c.decide.ensures.after c.decide.ensures.lines c.decide.ensures.earlier in (
      subst (λ (x : Echoes). IsElement g.row.N (element_with s.kept x s.packets (Emit B1) last s.log) c.decide.new.self) (sym is)
          (holds_agreed g.row.N e s.pending c.decide.new.self frames h due agreed),
      ap (λ (x : Echoes). x.me) is ∙ c.self.invariant.1,
      c.self.invariant.2,
    )
