use Rattle.std.proofs.Common.{◌≡◌, ◌<◌, subst, sym, ap, ◌∙◌}
use Rattle.two_round.specs.Echoes.{no_echoes}
use Rattle.element_core.specs.Element.{Kept}
use Rattle.element_core.proofs.Holding.{holds_begun, size_on}
use Rattle.element_core.proofs.element.Element.new.Goals as goal

pub invariant_of-result : goal.invariant_of-result
invariant_of-result g c =
    let me : c.in_ok-kept.kept.me ≡ c.args.me = ap (λ (k : Kept). k.me) c.in_ok-kept.ensures in
    let p = c.unheard-patterns.ensures.0 ∙ ap (no_echoes g.row.N) (sym me) in
    let q = c.unheard-patterns.ensures.1 ∙ ap (no_echoes g.row.N) (sym me) in (
      holds_begun g.row.N c.in_ok-kept.kept c.unheard-patterns.result.0 c.unheard-patterns.result.1 _ _ _
          (size_on c.n-elements.result g.row.N (c.n-elements.ensures.n ∙ c.requires.elements) c.n-elements.ensures.size)
          (ap (λ (k : Kept). k.table.n) c.in_ok-kept.ensures ∙ c.requires.elements)
          (subst (λ m. m < g.row.N) (sym me) c.requires.below) p q,
      ap (λ x. x.me) p,
      ap (λ x. x.me) q,
    )
