use Rattle.std.proofs.Common.{◌∙◌, ap, sym}
use Rattle.ftpp_base.specs.declared.element.Proc.{Proc}
use Rattle.element_ports.specs.PortQueues.{own_cleared}
use Rattle.element_ports.specs.Ports.{PortsValue}
use Rattle.element_ports.proofs.GoesOver.{goes-past, goes-through}
use Rattle.element_ports.proofs.ports.Ports.update.Goals as goal
use Rattle.element_ports.proofs.ports.Ports.update.Goals.{then-proc-me, else-proc-me}

pub loop-proc-preserved : goal.loop-proc-preserved
loop-proc-preserved c =
    let old = c.args.self.now in
    let table = c.args.table.now in
    let cleared = c.args.cleared.now in
    let none : Proc = record { ne = 0; port = 0 } in
    let k = c.loop-proc.proc-index in
    let me = c.loop-proc.self-inside.me in
    let items = c.loop-proc.self-inside.buffers.items in
    let last = own_cleared old.me cleared old.queues in
    let number = c.byte-me.ensures.number ∙ ap (λ (v : PortsValue). v.me) c.self.view_is ∙ sym c.loop-proc.invariant.me in
    elim c.if-proc-me.branch [
      | then-proc-me w ↦
          rw w.self-inside-is record {
            me = c.loop-proc.invariant.me;
            goes =
                goes-through table me cleared k none last items w.from.result w.renew.new.buffers c.loop-proc-test.true (w.if-proc-me.true ∙ number)
                (c.requires.there k none c.loop-proc-test.true) w.from.ensures w.renew.ensures c.loop-proc.invariant.goes;
          }
      | else-proc-me w ↦
          rw w.self-inside-is record {
            me = c.loop-proc.invariant.me;
            goes = goes-past table me cleared k none last items c.loop-proc-test.true (λ e. w.if-proc-me.false (e ∙ sym number)) c.loop-proc.invariant.goes;
          }
    ]
