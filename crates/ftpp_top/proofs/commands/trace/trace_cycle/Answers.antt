use Rattle.std.proofs.Common.{◌≡◌, ℕ, ◌<◌, List, ◌++◌, length, refl, sym, ◌∙◌, ap, subst, arith}
use Rattle.ftpp_outside.specs.Told.{Adds}
use Rattle.script_text.specs.Reading.{Plan}
use Rattle.cluster.specs.Delivered.{frame_at}
use Rattle.report_text.specs.Trace.{carried_lines, cycle_frames}
use Rattle.command_steps.specs.Ends.{AddsPrefix}
use Rattle.ftpp_top.specs.Playing.{IsCycleOf, told_by}
use Rattle.ftpp_top.proofs.Reporting.{on_ok, on_err, tracing_more, tracing_cut}
use Rattle.ftpp_top.proofs.commands.trace.trace_cycle.Goals as goal

pub returns-clause-ok : goal.returns-clause-ok
returns-clause-ok g c honest r first before e i =
    let s = c.args.playing.now in
    let asked = c.next-rejoin.result in
    let t = c.next-rejoin.new.self in
    let here : c.len-cycle.result ≡ length s.cluster.journal = c.len-cycle.ensures.length ∙ ap length c.journal.ensures in
    let lines : List ℕ = carried_lines (cycle_frames g.row.N (length s.cluster.journal) (frame_at t.cluster.delivered)) in
    let same : c.bytes.result.now ≡ lines =
    c.bytes.ensures ∙ (c.cycle_lines.ensures ∙ (ap (λ (xs : List ℕ). xs ++ carried_lines (cycle_frames g.row.N c.len-cycle.result (frame_at t.cluster.delivered))) c.clear.ensures ∙ ap (λ k. carried_lines (cycle_frames g.row.N k (frame_at t.cluster.delivered))) here)) in
    let cycle : IsCycleOf r.table r.plan s.cluster (told_by s.player) asked t.host.items t.cluster t.report (told_by t.player) =
    subst (λ (plan : Plan). IsCycleOf r.table plan s.cluster (told_by s.player) asked t.host.items t.cluster t.report (told_by t.player)) (sym e) (c.next-rejoin.ensures.run honest r.table) in
    let size : t.cluster.first.n ≡ g.row.N = ap (λ x. x.n) c.next-rejoin.ensures.first ∙ c.requires.ready.elements in
    on_ok c.write_all.result _ _ (λ w. tracing_more {n = g.row.N} r (length s.cluster.journal) s.cluster t.cluster (told_by s.player) (told_by t.player) first (g.K.Sink.written c.args.out.now) (g.K.Sink.written c.write_all.new.sink) before (g.F.Fabric.told c.args.fabric.now) (g.F.Fabric.told c.next-rejoin.new.fabric) asked t.host.items t.report i refl cycle size c.next-rejoin.ensures.told (subst (λ (xs : List ℕ). Adds (g.K.Sink.written c.args.out.now) xs (g.K.Sink.written c.write_all.new.sink)) same w)) c.write_all.ensures.ok

pub returns-clause-err : goal.returns-clause-err
returns-clause-err g c honest r first before e i =
    let s = c.args.playing.now in
    let asked = c.next-rejoin.result in
    let t = c.next-rejoin.new.self in
    let here : c.len-cycle.result ≡ length s.cluster.journal = c.len-cycle.ensures.length ∙ ap length c.journal.ensures in
    let lines : List ℕ = carried_lines (cycle_frames g.row.N (length s.cluster.journal) (frame_at t.cluster.delivered)) in
    let same : c.bytes.result.now ≡ lines =
    c.bytes.ensures ∙ (c.cycle_lines.ensures ∙ (ap (λ (xs : List ℕ). xs ++ carried_lines (cycle_frames g.row.N c.len-cycle.result (frame_at t.cluster.delivered))) c.clear.ensures ∙ ap (λ k. carried_lines (cycle_frames g.row.N k (frame_at t.cluster.delivered))) here)) in
    let cycle : IsCycleOf r.table r.plan s.cluster (told_by s.player) asked t.host.items t.cluster t.report (told_by t.player) =
    subst (λ (plan : Plan). IsCycleOf r.table plan s.cluster (told_by s.player) asked t.host.items t.cluster t.report (told_by t.player)) (sym e) (c.next-rejoin.ensures.run honest r.table) in
    let size : t.cluster.first.n ≡ g.row.N = ap (λ x. x.n) c.next-rejoin.ensures.first ∙ c.requires.ready.elements in
    let whole = c.requires.ready.cycles in
    let more = c.requires.more in
    let later : length s.cluster.journal < r.plan.cycles = omega (arith, whole, more, ap (λ x. x.cycles) e) in
    on_err c.write_all.result _ _ (λ w. tracing_cut {n = g.row.N} r (length s.cluster.journal) s.cluster t.cluster (told_by s.player) (told_by t.player) first (g.K.Sink.written c.args.out.now) (g.K.Sink.written c.write_all.new.sink) before (g.F.Fabric.told c.args.fabric.now) (g.F.Fabric.told c.next-rejoin.new.fabric) asked t.host.items t.report i refl cycle size c.next-rejoin.ensures.told later (subst (λ (xs : List ℕ). AddsPrefix (g.K.Sink.written c.args.out.now) xs (g.K.Sink.written c.write_all.new.sink)) same w)) c.write_all.ensures.prefix
