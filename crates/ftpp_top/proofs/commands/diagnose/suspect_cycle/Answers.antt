use Rattle.std.proofs.Common.{rules, ◌≡◌, ℕ, suc, List, ◌<◌, [], length, map, filter, get_or, refl, sym, ◌∙◌, ap, subst, arith}
use Rattle.element_core.specs.Told.{told_of}
use Rattle.report_text.specs.Report.{nothing_told}
use Rattle.diagnosis.specs.Suspects.{is_suspect}
use Rattle.ftpp_top.specs.Diagnosing.{anew_at, IsDiagnosing}
use Rattle.script_text.specs.Reading.{Plan}
use Rattle.ftpp_top.specs.Playing.{IsCycleOf, told_by}
use Rattle.ftpp_top.proofs.Diagnosed.{anew_long, diagnosing_more, refill_whole}
use Rattle.ftpp_top.proofs.commands.diagnose.suspect_cycle.Goals as goal

pub returns-clause-suspects : goal.returns-clause-suspects
returns-clause-suspects g c honest r before e i =
    let s = c.args.playing.now in
    let asked = c.next-rejoin.result in
    let t = c.next-rejoin.new.self in
    let cycle : IsCycleOf r.table r.plan s.cluster (told_by s.player) asked t.host.items t.cluster t.report (told_by t.player) =
    subst (λ (plan : Plan). IsCycleOf r.table plan s.cluster (told_by s.player) asked t.host.items t.cluster t.report (told_by t.player)) (sym e) (c.next-rejoin.ensures.run honest r.table) in
    let whole = c.requires.ready.cycles in
    let more = c.requires.more in
    let later : length s.cluster.journal < r.plan.cycles = omega (arith, whole, more, ap (λ x. x.cycles) e) in
    let begun : c.as_mut_slice.result.now ≡ anew_at g.row.N asked c.args.suspects.now.items = cc in
    let by_row : (me : ℕ) → me < length (anew_at g.row.N asked c.args.suspects.now.items) → get_or c.note_cycle.new.suspects me [] ≡ filter (is_suspect (get_or (map told_of t.report.rows.items) me nothing_told).syndromes) (get_or (anew_at g.row.N asked c.args.suspects.now.items) me []) =
    subst (λ (xs : List (List ℕ)). (me : ℕ) → me < length xs → get_or c.note_cycle.new.suspects me [] ≡ filter (is_suspect (get_or (map told_of t.report.rows.items) me nothing_told).syndromes) (get_or xs me [])) begun
    (λ me l. c.note_cycle.ensures me l ∙ (λ j. filter (is_suspect (get_or (map told_of (c.as_slice.ensures.value j)) me nothing_told).syndromes) (get_or c.as_mut_slice.result.now me []))) in
    let whole : length c.note_cycle.new.suspects ≡ length c.begin_anew.new.suspects.items = search rules in
    subst (λ (xs : List (List ℕ)). IsDiagnosing r (suc (length s.cluster.journal)) t.cluster (told_by t.player) xs before (g.F.Fabric.told c.next-rejoin.new.fabric))
    (sym (refill_whole (length c.begin_anew.new.suspects.items) c.begin_anew.new.suspects.items c.note_cycle.new.suspects whole))
    (diagnosing_more {n = g.row.N} r (length s.cluster.journal) s.cluster t.cluster (told_by s.player) (told_by t.player) c.args.suspects.now.items c.note_cycle.new.suspects before (g.F.Fabric.told c.args.fabric.now) (g.F.Fabric.told c.next-rejoin.new.fabric) asked t.host.items t.report
    i refl later cycle c.requires.ready.elements c.next-rejoin.ensures.first c.next-rejoin.ensures.told
    (record {
      many = c.next-rejoin.ensures.shown.rows;
      long = anew_long g.row.N asked c.args.suspects.now.items c.requires.count;
      noted = λ me l. by_row me l;
    }))
