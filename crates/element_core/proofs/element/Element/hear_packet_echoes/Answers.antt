use Rattle.std.proofs.Common.{sym, ap, ◌∙◌, subst}
use Rattle.std.specs.Prelude.{option_map}
use Rattle.two_round.specs.Echoes.{Echoes}
use Rattle.element_core.specs.ElementValue.{ElementValue, frames_in}
use Rattle.element_core.specs.Pending.{element_with, IsElement}
use Rattle.element_core.specs.Told.{told_of}
use Rattle.element_core.proofs.Holding.{second_are, holds_echoes}
use Rattle.element_core.proofs.element.Element.hear_packet_echoes.Goals as goal

pub invariant_of-self : goal.invariant_of-self
invariant_of-self g c =
    let s = c.self.inside in
    let h = c.self.invariant.0 in
    let last = option_map (told_of {n = g.row.N}) s.last in
    let frames = frames_in (g.L.Link.came c.args.link.now) in
    let relayed = second_are g.row.N s.kept.table.n c.slot-slot.result _ c.me.result s.kept.me frames h.elements c.slot-slot.ensures c.me.ensures.me in
    let is = c.hear_echoes.ensures.heard ∙ (λ i. record { me = s.packets.me; copies = s.packets.copies; relayed = relayed i }) in
    let due = ap (λ (e : ElementValue). e.due) c.self.view_is ∙ c.requires.due in (
      subst (λ (x : Echoes). IsElement g.row.N (element_with s.kept s.patterns x s.due last s.log) s.pending) (sym is)
          (holds_echoes g.row.N (element_with s.kept s.patterns s.packets s.due last s.log) s.pending frames h due),
      c.self.invariant.1,
      ap (λ (x : Echoes). x.me) is ∙ c.self.invariant.2,
    )
