use Rattle.std.proofs.Common.{◌∙◌, ap, arith}
use Rattle.ftpp_base.specs.Bits.{bit}
use Rattle.ftpp_base.specs.Lists.{below}
use Rattle.ftpp_base.specs.Sets.{has}
use Rattle.element_notes.specs.Words.{entry_about}
use Rattle.element_notes.proofs.Ascending.{appended_more, none_appended}
use Rattle.element_notes.proofs.RelaySets.{has_none}
use Rattle.element_notes.proofs.entries.note_each.Goals as goal

pub returns-then-nes-eq0-clause-items : goal.returns-then-nes-eq0-clause-items
returns-then-nes-eq0-clause-items c =
    none_appended (entry_about c.args.heading.now c.args.accused.now) (has c.args.nes.now) (below c.args.n) c.args.out.now.items
    (λ k. ap (λ bits. bit bits k) c.if-nes-eq0.true ∙ has_none k)

pub loop-k-preserved : goal.loop-k-preserved
loop-k-preserved c =
    let about = entry_about c.args.heading.now c.args.accused.now in
    let before = c.loop-k.invariant in record {
      items = appended_more about (has c.args.nes.now) c.loop-k.k c.args.out.now.items c.loop-k.out.items _ _ _ before.items c.push_if.ensures.items
          c.has.ensures
          (c.entry_about-entry.ensures ∙ ap about c.at.ensures);
      few = omega (arith, before.few, c.push_if.ensures.few);
    }
