use Rattle.std.proofs.Common.{◌≡◌, ◌≢◌, ◌∙◌, ap, sym, arith, length, map, ℕ, List}
use Rattle.ftpp_base.specs.Lists.{others}
use Rattle.bit_vote.specs.Vote.{Cell, vote}
use Rattle.two_round.specs.Echoes.{Echoes, word_of, result_for}
use Rattle.two_round.proofs.OthersMore.{others_same, others_more, few_more}
use Rattle.two_round.proofs.exchange.TwoRound.counted.Goals as goal
use Rattle.two_round.proofs.exchange.TwoRound.counted.Goals.{then-of-source, else-of-source}

counted : (x : Echoes) (source n k : ℕ) (words : List Cell) (result : Cell) → result ≡ vote words → words ≡ map (word_of x source) (others k source)
    → k ≡ n → length x.copies ≡ n → result ≡ result_for x source
unfolding result_for
counted x source n k words result e are all count =
    e ∙ ap vote (are ∙ ap (λ m. map (word_of x source) (others m source)) (all ∙ sym count))

pub loop-of-preserved : goal.loop-of-preserved
loop-of-preserved g c =
    let word = word_of c.args.self.now c.args.source in
    let before = c.loop-of.invariant in
    elim c.if-of-source.branch [
      | then-of-source w ↦
          let apart : c.loop-of.of ≢ c.args.source = omega arith in
          rw w.words-is (record {
            are = others_more word c.args.source c.loop-of.words.items _ w.word.result c.loop-of.of before.are w.push.ensures.items apart w.word.ensures;
            few = few_more c.loop-of.words.items _ w.word.result c.loop-of.of w.push.ensures.items before.few;
          })
      | else-of-source w ↦
          rw w.words-is (record {
            are = others_same word c.args.source c.loop-of.words.items c.loop-of.of before.are (omega arith);
            few = omega (arith, before.few);
          })
    ]

pub returns : goal.returns
returns g c =
    let count : length c.args.self.now.copies ≡ g.row.N = sym (ap (λ x. length x.copies) c.self.view_is) ∙ c.self.invariant.2 in
    counted c.args.self.now c.args.source g.row.N c.loop-of.of _ _ c.vote_lanes.ensures (c.as_slice.ensures.value ∙ c.loop-of.invariant.are) (omega arith) count
