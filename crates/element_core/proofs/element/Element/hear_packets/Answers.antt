use Rattle.std.proofs.Common.{◌≡◌, ◌<◌, ◌≤◌, ◌∷◌, [], sym, ap, ◌∙◌, subst, arith}
use Rattle.std.specs.Prelude.{option_map}
use Rattle.ftpp_base.specs.Lists.{cell_at, each_below}
use Rattle.ftpp_base.specs.declared.element.Round.TheVariants.{B1, B2}
use Rattle.two_round.specs.Echoes.{Echoes}
use Rattle.element_core.specs.Element.{own_packet}
use Rattle.element_core.specs.Noted.{decided_by}
use Rattle.element_core.specs.ElementValue.{ElementValue, rounds_heard, after_absorb, copy_taken, taken_of, frames_in}
use Rattle.element_core.specs.declared.Due.{Due}
use Rattle.element_core.specs.declared.Due.TheVariants.{Emit}
use Rattle.element_core.specs.Pending.{element_with, IsElement}
use Rattle.element_core.specs.Told.{told_of}
use Rattle.element_core.proofs.Holding.{first_are, own_put, holds_packets}
use Rattle.element_core.proofs.element.Element.hear_packets.Goals as goal
use Rattle.element_core.proofs.element.Element.hear_packets.Given.{Over}

-- what it holds of the packets, in the words of its value
packets_are : (g : Over) (c : goal.After-self-1 g) → c.hear_copies.new.exchange ≡ record {
  me = c.self.inside.packets.me;
  copies = each_below c.self.inside.kept.table.n
      (λ s. cell_at (taken_of c.self.inside.kept.table.n (record { cycle = c.self.inside.kept.cycle; round = B1 }) c.self.inside.kept.me
      (own_packet c.self.inside.kept (decided_by c.self.inside.kept c.self.inside.patterns.copies c.self.inside.patterns.relayed) ∷ [])
      (frames_in (g.L.Link.came c.args.link.now)) s) 0);
  relayed = c.self.inside.packets.relayed;
}
packets_are g c =
    let s = c.self.inside in
    let h = c.self.invariant.0 in
    let frames = frames_in (g.L.Link.came c.args.link.now) in
    let slot = c.slot-slot.result in
    let me = c.me.result in
    let due = ap (λ (e : ElementValue). e.due) c.self.view_is ∙ c.requires.due in
    let agreed = h.agreed (subst (λ (d : Due). 2 ≤ rounds_heard d) (sym due) (omega arith)) in
    let packet = own_packet s.kept (decided_by s.kept s.patterns.copies s.patterns.relayed) in
    let own = own_put s.packets.copies s.packets.me me g.row.N _ packet (c.self.invariant.2 ∙ sym c.me.ensures.me)
    (h.cells.packet_count ∙ h.elements) (subst (λ k. k < g.row.N) (sym c.me.ensures.me) h.below) (c.packet.ensures ∙ ap (own_packet s.kept) agreed.decision) in
    let copies = first_are g.row.N s.kept.table.n slot _ me s.kept.me _ packet frames h.elements c.slot-slot.ensures c.me.ensures.me own in
    c.hear_copies.ensures.heard
    ∙ (λ i. record {
      me = (c.first.ensures i).me;
      copies = each_below g.row.N (copy_taken g.row.N slot me (cell_at (c.first.ensures i).copies me) frames);
      relayed = (c.first.ensures i).relayed;
    })
    ∙ (λ i. record { me = s.packets.me; copies = copies i; relayed = s.packets.relayed })

pub invariant_of-self : goal.invariant_of-self
invariant_of-self g c =
    let s = c.self.inside in
    let last = option_map (told_of {n = g.row.N}) s.last in
    let frames = frames_in (g.L.Link.came c.args.link.now) in
    let due = ap (λ (e : ElementValue). e.due) c.self.view_is ∙ c.requires.due in (
      subst (λ (x : Echoes). IsElement g.row.N (element_with s.kept s.patterns x (Emit B2) last s.log) s.pending) (sym (packets_are g c))
          (holds_packets g.row.N (element_with s.kept s.patterns s.packets s.due last s.log) s.pending frames c.self.invariant.0 due),
      c.self.invariant.1,
      ap (λ (x : Echoes). x.me) (packets_are g c) ∙ c.self.invariant.2,
    )

pub returns-clause-element : goal.returns-clause-element
returns-clause-element g c =
    let s = c.self.inside in
    ap (λ (x : Echoes). element_with s.kept s.patterns x (Emit B2) (option_map (told_of {n = g.row.N}) s.last) s.log) (packets_are g c)
    ∙ ap (after_absorb B1 (frames_in (g.L.Link.came c.args.link.now))) c.self.view_is
