use Rattle.std.proofs.Common.{◌≡◌, ◌<◌, ◌∷◌, [], sym, ap, ◌∙◌, subst}
use Rattle.std.specs.Prelude.{option_map}
use Rattle.ftpp_base.specs.Lists.{cell_at, each_below}
use Rattle.ftpp_base.specs.declared.element.Round.TheVariants.{A1, A2}
use Rattle.two_round.specs.Echoes.{Echoes}
use Rattle.element_core.specs.Noted.{own_pattern}
use Rattle.element_core.specs.ElementValue.{ElementValue, after_absorb, copy_taken, taken_of, frames_in}
use Rattle.element_core.specs.declared.Due.TheVariants.{Emit}
use Rattle.element_core.specs.Pending.{element_with, IsElement}
use Rattle.element_core.specs.Told.{told_of}
use Rattle.element_core.proofs.Holding.{first_are, own_put, holds_patterns}
use Rattle.element_core.proofs.element.Element.hear_patterns.Goals as goal
use Rattle.element_core.proofs.element.Element.hear_patterns.Given.{Over}

-- what it holds of the patterns, in the words of its value
patterns_are : (g : Over) (c : goal.After-self-1 g) → c.hear_copies.new.exchange ≡ record {
  me = c.self.inside.patterns.me;
  copies = each_below c.self.inside.kept.table.n
      (λ s. cell_at (taken_of c.self.inside.kept.table.n (record { cycle = c.self.inside.kept.cycle; round = A1 }) c.self.inside.kept.me
      (own_pattern c.self.inside.kept ∷ []) (frames_in (g.L.Link.came c.args.link.now)) s) 0);
  relayed = c.self.inside.patterns.relayed;
}
patterns_are g c =
    let s = c.self.inside in
    let h = c.self.invariant.0 in
    let frames = frames_in (g.L.Link.came c.args.link.now) in
    let slot = c.slot-slot.result in
    let me = c.me.result in
    let own = own_put s.patterns.copies s.patterns.me me g.row.N _ (own_pattern s.kept) (c.self.invariant.1 ∙ sym c.me.ensures.me)
    (h.cells.pattern_count ∙ h.elements) (subst (λ k. k < g.row.N) (sym c.me.ensures.me) h.below) c.pattern.ensures in
    let copies = first_are g.row.N s.kept.table.n slot _ me s.kept.me _ (own_pattern s.kept) frames h.elements c.slot-slot.ensures c.me.ensures.me own in
    c.hear_copies.ensures.heard
    ∙ (λ i. record {
      me = (c.first.ensures i).me;
      copies = each_below g.row.N (copy_taken g.row.N slot me (cell_at (c.first.ensures i).copies me) frames);
      relayed = (c.first.ensures i).relayed;
    })
    ∙ (λ i. record { me = s.patterns.me; copies = copies i; relayed = s.patterns.relayed })

pub invariant_of-self : goal.invariant_of-self
invariant_of-self g c =
    let s = c.self.inside in
    let last = option_map (told_of {n = g.row.N}) s.last in
    let frames = frames_in (g.L.Link.came c.args.link.now) in
    let due = ap (λ (e : ElementValue). e.due) c.self.view_is ∙ c.requires.due in (
      subst (λ (x : Echoes). IsElement g.row.N (element_with s.kept x s.packets (Emit A2) last s.log) s.pending) (sym (patterns_are g c))
          (holds_patterns g.row.N (element_with s.kept s.patterns s.packets s.due last s.log) s.pending frames c.self.invariant.0 due),
      ap (λ (x : Echoes). x.me) (patterns_are g c) ∙ c.self.invariant.1,
      c.self.invariant.2,
    )

pub returns-clause-element : goal.returns-clause-element
returns-clause-element g c =
    let s = c.self.inside in
    ap (λ (x : Echoes). element_with s.kept x s.packets (Emit A2) (option_map (told_of {n = g.row.N}) s.last) s.log) (patterns_are g c)
    ∙ ap (after_absorb A1 (frames_in (g.L.Link.came c.args.link.now))) c.self.view_is
