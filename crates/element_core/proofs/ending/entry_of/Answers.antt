use Rattle.std.proofs.Common.{sym, ap, ◌∙◌, subst}
use Rattle.config_table.specs.declared.decisions.Decision.{Decision}
use Rattle.element_notes.specs.AtHand.{AreResults}
use Rattle.element_core.specs.Sent.{is_relayed}
use Rattle.element_core.specs.Element.{own_entry}
use Rattle.element_core.proofs.Exchanges.{entry_own}
use Rattle.element_core.proofs.ending.entry_of.Goals as goal

pub returns-in-Exchange : goal.returns-in-Exchange
returns-in-Exchange g c =
    let x = c.args.packets.now in
    let are = subst (λ (d : Decision). AreResults g.row.N x (is_relayed d) c.args.results.now) c.in-Exchange.is c.requires.results in
    entry_own g.row.N c.args.table.now c.in-Exchange.service x c.copies.result.now c.args.results.now c.entry.result c.copies.ensures are c.entry.ensures
    ∙ sym (ap (λ (d : Decision). own_entry c.args.table.now d x) c.in-Exchange.is)
