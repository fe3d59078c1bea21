use Rattle.std.proofs.Common.{◌≡◌, ◌∷◌, length, sym, ◌∙◌, ap}
use Rattle.script_text.specs.Reading.{plan_of}
use Rattle.ftpp_top.specs.Playing.{told_by}
use Rattle.ftpp_top.proofs.Begun.{run_calm, apart_later, same_first, same_journal, begun_rejoined, run_rejoined, rejoins_as}
use Rattle.ftpp_top.proofs.playing.Playing.rejoin_if_due.Goals as goal

pub returns-then-entry-len-clause-run : goal.returns-then-entry-len-clause-run
returns-then-entry-len-clause-run g c table =
    let s = c.args.self.now in
    let e = c.args.entry.now in
    let later = c.args.later.now in
    let here : c.len.result ≡ length s.cluster.journal = c.len.ensures.length ∙ ap length c.journal.ensures in
    run_calm g.row.N (plan_of s.script.now) s.cluster s.acts.now (e ∷ later) c.requires.ready table (told_by s.player) (apart_later (length s.cluster.journal) e later c.requires.ready.apart (λ same. c.if-entry-len.true (same ∙ sym here)))

pub returns-clause-first : goal.returns-clause-first
returns-clause-first g c =
    let s = c.args.self.now in
    same_first s.cluster c.rejoin.new.self c.in-Some.ne c.args.entry.now.1 c.rejoin.result (rejoins_as s.cluster c.rejoin.new.self c.in-Some.ne c.same_element.result c.args.entry.now.1 c.rejoin.result (sym c.in-Some.ensures) c.same_element.ensures c.rejoin.ensures.rejoins)

pub returns-clause-journal : goal.returns-clause-journal
returns-clause-journal g c =
    let s = c.args.self.now in
    same_journal s.cluster c.rejoin.new.self c.in-Some.ne c.args.entry.now.1 c.rejoin.result (rejoins_as s.cluster c.rejoin.new.self c.in-Some.ne c.same_element.result c.args.entry.now.1 c.rejoin.result (sym c.in-Some.ensures) c.same_element.ensures c.rejoin.ensures.rejoins)

pub returns-clause-begun : goal.returns-clause-begun
returns-clause-begun g c =
    let s = c.args.self.now in
    let here : c.len.result ≡ length s.cluster.journal = c.len.ensures.length ∙ ap length c.journal.ensures in
    begun_rejoined g.row.N (plan_of s.script.now) s.cluster c.rejoin.new.self s.acts.now c.args.entry.now c.args.later.now c.in-Some.ne c.rejoin.result c.requires.ready c.requires.more (c.if-entry-len.false ∙ here) (sym c.in-Some.ensures)
    (rejoins_as s.cluster c.rejoin.new.self c.in-Some.ne c.same_element.result c.args.entry.now.1 c.rejoin.result (sym c.in-Some.ensures) c.same_element.ensures c.rejoin.ensures.rejoins)

pub returns-clause-run : goal.returns-clause-run
returns-clause-run g c table =
    let s = c.args.self.now in
    let here : c.len.result ≡ length s.cluster.journal = c.len.ensures.length ∙ ap length c.journal.ensures in
    run_rejoined g.row.N (plan_of s.script.now) s.cluster c.rejoin.new.self s.acts.now c.args.entry.now c.args.later.now c.in-Some.ne c.rejoin.result table (told_by s.player) c.requires.ready (c.if-entry-len.false ∙ here) (sym c.in-Some.ensures)
    (rejoins_as s.cluster c.rejoin.new.self c.in-Some.ne c.same_element.result c.args.entry.now.1 c.rejoin.result (sym c.in-Some.ensures) c.same_element.ensures c.rejoin.ensures.rejoins) c.rejoin.ensures.taken c.rejoin.ensures.follows
