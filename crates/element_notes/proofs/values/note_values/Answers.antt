use Rattle.std.proofs.Common.{◌∙◌, ◌++◌, ap, sym}
use Rattle.std.specs.Prelude.{option_copied}
use Rattle.ftpp_base.specs.Lists.{below}
use Rattle.syndrome_log.specs.declared.SyndromeKind.TheVariants as kind
use Rattle.element_notes.specs.Notes.{accused_where}
use Rattle.element_notes.specs.declared.entries.Heading.{Heading}
use Rattle.element_notes.specs.Words.{is_off, row_in}
use Rattle.element_notes.proofs.Accusing.{accused_same, off_entries}
use Rattle.element_notes.proofs.values.note_values.Goals as goal

pub returns-clause-items : goal.returns-clause-items
returns-clause-items g c =
    let table = c.args.table.now in
    let decision = c.args.decision.now in
    let x = c.args.x.now in
    let entry = row_in (option_copied c.args.entry) in
    let heading : Heading = record { cycle = c.args.cycle; kind = kind.V } in
    c.note_each.ensures.items
    ∙ ap (λ l. c.args.out.now.items ++ l)
    (accused_same heading g.row.N c.off-nes.result (is_off table x decision entry) c.off-nes.ensures
    ∙ ap (λ n. accused_where c.args.cycle kind.V (is_off table x decision entry) (below n)) (sym c.requires.elements)
    ∙ off_entries c.args.cycle table x decision entry)
