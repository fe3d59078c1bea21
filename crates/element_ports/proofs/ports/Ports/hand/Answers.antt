use Rattle.std.proofs.Common.{◌∙◌, ap, sym, ℕ, arith}
use Rattle.std.specs.Prelude.{Option, Some}
use Rattle.ftpp_base.specs.declared.element.Proc.{Proc}
use Rattle.packet_format.specs.declared.Packet.{Packet}
use Rattle.packet_format.specs.declared.Delivered.{Delivered}
use Rattle.config_table.specs.Table.{in_limit}
use Rattle.processor_buffers.specs.declared.Handed.{Handed}
use Rattle.processor_buffers.specs.Queues.{Queues, no_queues, after_delivery, handed_by}
use Rattle.processor_buffers.specs.Buffers.{buffers_after}
use Rattle.config_table.specs.Members.{member_at}
use Rattle.config_table.specs.Members.{receivers}
use Rattle.element_ports.specs.PortQueues.{after_entry}
use Rattle.element_ports.specs.PortQueues.{delivered_to, handed_by_own}
use Rattle.element_ports.specs.Ports.{PortsValue}
use Rattle.element_ports.proofs.PortChanges.{seen-changed, ins_by_table, queues_seen}
use Rattle.element_ports.proofs.ports.Ports.hand.Goals as goal

pub returns-in-Some-clause-ports : goal.returns-in-Some-clause-ports
returns-in-Some-clause-ports c =
    let old = c.args.self.now in
    let me = c.self.inside.me in
    let items = c.self.inside.buffers.items in
    let at = c.from.result in
    let proc = c.in-Some.proc in
    let here = c.in-Some.ensures in
    let buffers = c.index_mut-buffers.result.now in
    let is = c.index_mut-buffers.ensures.value in
    let table = c.args.table.now in
    let service = c.args.service.now in
    let entry : Option Packet = Some c.args.packet.now in
    let small = here.there.1 in
    let limit = ins_by_table table me items at proc old buffers c.requires c.self.view_is (omega arith) c.from.ensures is here.there.0 small in
    let found = here.member ∙ ap (λ (v : PortsValue). member_at (receivers table service) v.me) c.self.view_is in
    let stored =
    c.deliver.ensures.queues
    ∙ ap (λ (n : ℕ). buffers_after (after_delivery n c.delivered_by.result) buffers) limit
    ∙ ap (λ (d : Delivered). buffers_after (after_delivery (in_limit table proc) d) buffers) c.delivered_by.ensures in
    seen-changed (after_entry (in_limit table proc) c.args.cycle service entry) me items at proc.port old buffers c.deliver.new.self
    c.self.view_is (omega arith) c.from.ensures is stored
    ∙ ap (λ (o : Option Proc). record old { queues = delivered_to table c.args.cycle service entry old.queues o }) found

pub returns-in-Some-clause-handed : goal.returns-in-Some-clause-handed
returns-in-Some-clause-handed c =
    let old = c.args.self.now in
    let me = c.self.inside.me in
    let items = c.self.inside.buffers.items in
    let at = c.from.result in
    let proc = c.in-Some.proc in
    let here = c.in-Some.ensures in
    let buffers = c.index_mut-buffers.result.now in
    let is = c.index_mut-buffers.ensures.value in
    let table = c.args.table.now in
    let small = here.there.1 in
    let limit = ins_by_table table me items at proc old buffers c.requires c.self.view_is (omega arith) c.from.ensures is here.there.0 small in
    let queues = queues_seen me items at proc.port old buffers no_queues c.self.view_is (omega arith) c.from.ensures is in
    let found = here.member ∙ ap (λ (v : PortsValue). member_at (receivers table c.args.service.now) v.me) c.self.view_is in
    ap (λ (h : Handed). Some (proc, h))
    (c.deliver.ensures.handed ∙ ap (λ (n : ℕ). handed_by n buffers.queues) limit ∙ ap (λ (q : Queues). handed_by (in_limit table proc) q) (sym queues))
    ∙ ap (λ (o : Option Proc). handed_by_own table old.queues (Some c.args.packet.now) o) found
