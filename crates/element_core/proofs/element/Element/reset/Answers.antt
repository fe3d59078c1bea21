use Rattle.std.proofs.Common.{◌≡◌, ◌<◌, subst, sym, ap, ◌∙◌}
use Rattle.two_round.specs.Echoes.{no_echoes}
use Rattle.element_core.specs.Element.{Kept}
use Rattle.element_core.proofs.Holding.{holds_begun}
use Rattle.element_core.proofs.element.Element.reset.Goals as goal

pub invariant_of-self : goal.invariant_of-self
invariant_of-self g c =
    let h = c.self.invariant in
    let me : c.reset.new.self.me ≡ c.self.inside.kept.me = ap (λ (k : Kept). k.me) c.reset.ensures in
    let p = c.restart.ensures ∙ ap (no_echoes g.row.N) (h.1 ∙ sym me) in
    let q = c.restart-2.ensures ∙ ap (no_echoes g.row.N) (h.2 ∙ sym me) in (
      holds_begun g.row.N c.reset.new.self c.restart.new.self c.restart-2.new.self _ _ c.self.inside.pending h.0.size
          (ap (λ (k : Kept). k.table.n) c.reset.ensures ∙ c.requires)
          (subst (λ m. m < g.row.N) (sym me) h.0.below) p q,
      ap (λ x. x.me) p,
      ap (λ x. x.me) q,
    )
