use Rattle.std.proofs.Common.{◌<◌, ◌==◌, cond, refl, sym, ap, ◌∙◌, subst}
use Rattle.frame_format.specs.Frames.{frame_bytes}
use Rattle.element_core.specs.ElementValue.{ElementValue, frame_of, frames_in}
use Rattle.element_core.proofs.Holding.{holds_sent, cells_sent_held}
use Rattle.element_core.proofs.element.Element.emit.Goals as goal

pub invariant_of-self : goal.invariant_of-self
invariant_of-self g c = (
  holds_sent g.row.N _ c.self.inside.pending c.args.round c.self.invariant.0
      (ap (λ (e : ElementValue). e.due) c.self.view_is ∙ c.requires.due)
      (subst (λ (e : ElementValue). e.kept.cycle < 100000) (sym c.self.view_is) c.requires.cycle),
  c.self.invariant.1,
  c.self.invariant.2,
)

pub returns-clause-frames : goal.returns-clause-frames
returns-clause-frames g c = λ to l.
    let due = ap (λ (e : ElementValue). e.due) c.self.view_is ∙ c.requires.due in
    let cells = cells_sent_held g.row.N _ c.self.inside.pending c.self.inside.patterns c.self.inside.packets c.args.round c.self.invariant.0 due refl refl in
    let me = c.me.ensures.me ∙ ap (λ (e : ElementValue). e.kept.me) c.self.view_is in
    let frame = c.write_frame.ensures ∙ ap (frame_bytes (record { cycle = c.self.inside.kept.cycle; round = c.args.round }) c.self.inside.kept.me) cells
    ∙ ap (λ (e : ElementValue). frame_of e c.args.round) c.self.view_is in
    c.put_all.ensures.frames to l ∙ (λ i. cond (to == me i) (frames_in (g.L.Link.leaves c.args.link.now) to) (frame i))
