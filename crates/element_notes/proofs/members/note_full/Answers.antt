use Rattle.std.proofs.Common.{◌<◌, ◌≤◌, ◌∙◌, ◌++◌, ap, arith}
use Rattle.ftpp_base.specs.Lists.{below}
use Rattle.syndrome_log.specs.declared.SyndromeKind.TheVariants as kind
use Rattle.element_notes.specs.Notes.{accused_where}
use Rattle.element_notes.specs.declared.entries.Heading.{Heading}
use Rattle.element_notes.specs.Words.{is_full}
use Rattle.element_notes.proofs.Accusing.{accused_same, full_entries}
use Rattle.element_notes.proofs.members.note_full.Goals as goal

pub returns-clause-items : goal.returns-clause-items
returns-clause-items g c =
    let table = c.args.table.now in
    let decision = c.args.decision.now in
    let heading : Heading = record { cycle = c.args.cycle; kind = kind.O } in
    let few : c.n.result ≤ 8 = (let size = c.n.ensures.size in omega arith) in
    c.note_each.ensures.items
    ∙ ap (λ l. c.args.out.now.items ++ l)
    (accused_same heading c.n.result c.full-nes.result (is_full table c.args.pattern.now decision)
    (λ s l. c.full-nes.ensures s (let low : s < 8 = omega arith in low))
    ∙ ap (λ n. accused_where c.args.cycle kind.O (is_full table c.args.pattern.now decision) (below n)) c.n.ensures.n
    ∙ full_entries c.args.cycle table c.args.pattern.now decision)
