use Rattle.std.proofs.Common.{◌∙◌, ap, ℕ, arith}
use Rattle.std.proofs.lemmas.List.FromFn.{fill_by_all}
use Rattle.local_pattern.specs.Pattern.{quiet}
use Rattle.config_table.specs.Table.{in_limit}
use Rattle.element_ports.specs.PortQueues.{port_queues, shown_entry}
use Rattle.element_ports.specs.Ports.{proc_at}
use Rattle.element_ports.proofs.ports.Ports.column.Goals as goal

pub returns : goal.returns
returns c table limits =
    let ports = c.args.self.now in
    fill_by_all (λ port. shown_entry (in_limit table (proc_at ports.me port)) (port_queues ports.queues port))
    c.loop-port.pattern 8 quiet c.loop-port.invariant.long
    (λ k l. c.loop-port.invariant.shown k (omega arith) ∙ ap (λ (n : ℕ). shown_entry n (port_queues ports.queues k)) (limits k l).input)
