use Rattle.std.proofs.Common.{◌≡◌, ◌<◌, ◌≤◌, None, arith, sym, refl, true, false}
use Rattle.std.proofs.lemmas.List.FromFn.{fill_by_all}
use Rattle.two_round.specs.Echoes.{result_of}
use Rattle.two_round.proofs.Settling.{more_left_out, more_alike, more_differs}
use Rattle.two_round.proofs.exchange.TwoRound.settle.Goals as goal
use Rattle.two_round.proofs.exchange.TwoRound.settle.Goals.{then-not-has, else-not-has+then-not-is_alike, else-not-has+else-not-is_alike}

pub loop-source-preserved : goal.loop-source-preserved
loop-source-preserved g c =
    let n = g.row.N in
    let x = c.args.self.now in
    let k = c.loop-source.source in
    let before = c.loop-source.invariant in
    let there : k < n = omega arith in
    let few : n ≤ 5 = c.self.invariant.1 in
    elim c.if-not-has.branch [
      | then-not-has w ↦
          rw (w.results-is, w.differing-is)
          (more_left_out n x c.args.sources k c.loop-source.results _ c.loop-source.differing there few before w.set.ensures.length (sym w.if-not-has.ensures) w.set.ensures.set)
      | else-not-has+then-not-is_alike w ↦
          rw (w.results-is, w.differing-is)
          (more_differs n x c.args.sources k c.loop-source.results _ c.loop-source.differing _ w.counted.result there few before w.set-then-not-is_alike.ensures.length (sym w.if-not-has.ensures)
          (λ alike. let never : false ≡ true = w.if-not-is_alike.ensures.alike.1 alike in cc) w.counted.ensures w.set-then-not-is_alike.ensures.set w.with-differing.ensures)
      | else-not-has+else-not-is_alike w ↦
          rw (w.results-is, w.differing-is)
          (more_alike n x c.args.sources k c.loop-source.results c.loop-source.differing there few before (sym w.if-not-has.ensures)
          (w.if-not-is_alike.ensures.alike.0 refl) (w.if-not-is_alike.ensures.voted refl))
    ]

pub returns-clause-results : goal.returns-clause-results
returns-clause-results g c =
    let before = c.loop-source.invariant in
    fill_by_all (result_of c.args.sources c.args.self.now) c.loop-source.results g.row.N None before.long
    (λ s l. (before.done s (omega arith)).result)
