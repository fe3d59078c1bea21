use Rattle.std.proofs.Common.{ap, ◌∙◌}
use Rattle.config_table.specs.Table.{TableValue}
use Rattle.element_core.specs.Cycle.{update_packet}
use Rattle.trace_audit.specs.Told.{first_round}
use Rattle.trace_audit.proofs.Echoes.{cycle_ends}
use Rattle.trace_audit.proofs.told.Told.end_cycle.Goals as goal

pub returns : goal.returns
returns g c = λ frames h k.
    cycle_ends g.row.N c.args.watched.now c.serve.new.self c.update.new.self c.args.named.now frames c.args.self.now c.update-asked.result c.requires.elements h k
    (c.update-asked.ensures ∙ ap (λ (t : TableValue). update_packet t c.args.self.now.decision (first_round c.args.named.now c.args.self.now.packets)) c.table.ensures.table)
    c.serve.ensures c.update.ensures
