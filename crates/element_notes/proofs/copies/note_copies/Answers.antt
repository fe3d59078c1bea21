use Rattle.std.proofs.Common.{◌∙◌, ◌++◌, ap, arith}
use Rattle.ftpp_base.specs.Sets.{has}
use Rattle.element_notes.specs.Notes.{off_copies}
use Rattle.element_notes.proofs.OffRows.{copies_off, copies_few, longer}
use Rattle.element_notes.proofs.copies.note_copies.Goals as goal

pub returns-clause-items : goal.returns-clause-items
returns-clause-items g c =
    c.note_each.ensures.items
    ∙ ap (λ l. c.args.out.now.items ++ l)
    (copies_off c.args.x.now c.args.looked_at.now c.off_words-off.result c.args.heading.now g.row.N c.args.me c.requires.whole.own c.off_words-off.ensures)

pub returns-clause-few : goal.returns-clause-few
returns-clause-few g c =
    let cycle = c.args.heading.now.cycle in
    let kind = c.args.heading.now.kind in
    let counts = has c.args.looked_at.now in
    longer c.args.out.now.items (off_copies cycle kind c.args.x.now g.row.N counts) _ 4 (returns-clause-items g c)
    (copies_few cycle kind c.args.x.now g.row.N counts c.requires.whole.few
    (let own = c.requires.whole.own in let among = c.requires.whole.among in omega arith))
