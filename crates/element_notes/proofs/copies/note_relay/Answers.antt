use Rattle.std.proofs.Common.{◌≢◌, ◌∙◌, ◌++◌, ap}
use Rattle.ftpp_base.specs.Sets.{has}
use Rattle.element_notes.specs.Notes.{off_by}
use Rattle.element_notes.proofs.OffRows.{relay_off, by_few, longer}
use Rattle.element_notes.proofs.copies.note_relay.Goals as goal

pub returns-clause-items : goal.returns-clause-items
returns-clause-items g c =
    let away : c.args.relay ≢ c.args.x.now.me = λ e. c.requires.other (e ∙ c.requires.whole.own) in
    c.note_each.ensures.items
    ∙ ap (λ l. c.args.out.now.items ++ l)
    (relay_off c.args.x.now c.args.looked_at.now c.off_words-off.result c.args.heading.now g.row.N c.args.relay away c.off_words-off.ensures)

pub returns-clause-few : goal.returns-clause-few
returns-clause-few g c =
    let cycle = c.args.heading.now.cycle in
    let kind = c.args.heading.now.kind in
    let counts = has c.args.looked_at.now in
    longer c.args.out.now.items (off_by cycle kind c.args.x.now g.row.N counts c.args.relay) _ 4 (returns-clause-items g c)
    (by_few cycle kind c.args.x.now g.row.N counts c.args.relay c.requires.whole.few c.requires.relay)
