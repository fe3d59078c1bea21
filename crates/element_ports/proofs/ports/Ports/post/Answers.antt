use Rattle.std.proofs.Common.{◌≡◌, ◌∙◌, ap, sym, subst, ℕ, length, arith}
use Rattle.std.specs.Prelude.{◌↔◌, IsErr}
use Rattle.config_table.specs.Table.{out_limit}
use Rattle.processor_buffers.specs.Queues.{Posted, Queues, no_queues, after_post}
use Rattle.processor_buffers.specs.Buffers.{buffers_after}
use Rattle.element_ports.specs.Ports.{proc_at}
use Rattle.element_ports.proofs.PortChanges.{seen-changed, outs_seen, queues_seen, limits_stay}
use Rattle.element_ports.proofs.ports.Ports.post.Goals as goal

pub returns-clause-ports : goal.returns-clause-ports
returns-clause-ports c table limits =
    let old = c.args.self.now in
    let me = c.self.inside.me in
    let items = c.self.inside.buffers.items in
    let at = c.from.result in
    let port = c.args.port in
    let posted : Posted = (c.args.desc, c.args.packet) in
    let buffers = c.index_mut-buffers.result.now in
    let is = c.index_mut-buffers.ensures.value in
    let limit = sym (outs_seen me items at port old buffers c.self.view_is (omega arith) c.from.ensures is) ∙ (limits port c.requires).output in
    seen-changed (after_post (out_limit table (proc_at old.me port)) posted) me items at port old buffers c.post.new.self
    c.self.view_is (omega arith) c.from.ensures is
    (c.post.ensures.queues ∙ ap (λ (n : ℕ). buffers_after (after_post n posted) buffers) limit)

pub returns-clause-limits : goal.returns-clause-limits
returns-clause-limits c table limits = limits_stay table c.args.self.now _ _ limits (returns-clause-ports c table limits)

-- as many packets are held as the limit
pub returns-clause-full : goal.returns-clause-full
returns-clause-full c table limits =
    let old = c.args.self.now in
    let me = c.self.inside.me in
    let items = c.self.inside.buffers.items in
    let at = c.from.result in
    let port = c.args.port in
    let buffers = c.index_mut-buffers.result.now in
    let is = c.index_mut-buffers.ensures.value in
    let limit = sym (outs_seen me items at port old buffers c.self.view_is (omega arith) c.from.ensures is) ∙ (limits port c.requires).output in
    let queues = queues_seen me items at port old buffers no_queues c.self.view_is (omega arith) c.from.ensures is in
    let Holds : Queues × ℕ → Type 0 = λ held. IsErr c.post.result ↔ (length held.0.output ≡ held.1) in
    subst Holds (λ i. (sym queues i, limit i)) c.post.ensures.full
