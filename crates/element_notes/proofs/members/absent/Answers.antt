use Rattle.std.proofs.Common.{◌∙◌, ap, sym}
use Rattle.config_table.specs.Members.{senders}
use Rattle.element_notes.specs.Words.{is_absent}
use Rattle.element_notes.proofs.Standing.{left_out}
use Rattle.element_notes.proofs.members.absent.Goals as goal

pub returns-in-Discard : goal.returns-in-Discard
returns-in-Discard g c ne l =
    let table = c.args.table.now in
    let d = c.in-Discard in
    c.lacking.ensures ne l ∙ left_out d.admitted ne (senders table d.vid) ∙ ap (λ decision. is_absent table decision ne) (sym d.is)

pub returns-in-Exchange : goal.returns-in-Exchange
returns-in-Exchange g c ne l =
    let table = c.args.table.now in
    let service = c.in-Exchange.service in
    c.lacking-in-Exchange.ensures ne l ∙ left_out service.admitted ne (senders table service.vid)
    ∙ ap (λ decision. is_absent table decision ne) (sym c.in-Exchange.is)
