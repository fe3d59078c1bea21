use Rattle.std.proofs.Common.{◌∙◌, ap, arith}
use Rattle.std.specs.Prelude.{Option}
use Rattle.ftpp_base.specs.declared.element.Proc.{Proc}
use Rattle.processor_buffers.specs.Queues.{after_pop}
use Rattle.config_table.specs.Members.{member_at}
use Rattle.config_table.specs.Members.{admitted_members}
use Rattle.element_ports.specs.PortQueues.{with_port}
use Rattle.element_ports.specs.Ports.{PortsValue}
use Rattle.element_ports.proofs.PortChanges.{seen-changed}
use Rattle.element_ports.proofs.ports.Ports.pop_admitted.Goals as goal

pub returns-in-Some : goal.returns-in-Some
returns-in-Some c =
    let old = c.args.self.now in
    let pop = after_pop c.args.request.now in
    let admitted = admitted_members c.args.table.now c.args.vid c.args.admitted in
    let here = c.in-Some.ensures in
    let found = here.member ∙ ap (λ (v : PortsValue). member_at admitted v.me) c.self.view_is in
    seen-changed pop c.self.inside.me c.self.inside.buffers.items c.from.result c.in-Some.proc.port old
    c.index_mut-buffers.result.now c.pop_request.new.self
    c.self.view_is (omega (arith, here.there.1)) c.from.ensures c.index_mut-buffers.ensures.value c.pop_request.ensures
    ∙ ap (λ (o : Option Proc). record old { queues = with_port pop old.queues o }) found
