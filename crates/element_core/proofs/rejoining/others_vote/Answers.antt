use Rattle.std.proofs.Common.{◌≢◌, arith}
use Rattle.ftpp_base.specs.Lists.{cell_at}
use Rattle.two_round.proofs.OthersMore.{others_same, others_more, few_more}
use Rattle.element_core.proofs.RejoinRows.{voted_by}
use Rattle.element_core.proofs.rejoining.others_vote.Goals as goal
use Rattle.element_core.proofs.rejoining.others_vote.Goals.{then-of-me, else-of-me}

pub loop-of-preserved : goal.loop-of-preserved
loop-of-preserved g c =
    let cell = cell_at c.args.states.now in
    let before = c.loop-of.invariant in
    elim c.if-of-me.branch [
      | then-of-me w ↦
          let apart : c.loop-of.of ≢ c.args.me = omega arith in
          rw w.cells-is (record {
            are = others_more cell c.args.me c.loop-of.cells.items _ w.get.result c.loop-of.of before.are w.push.ensures.items apart w.get.ensures.cell;
            few = few_more c.loop-of.cells.items _ w.get.result c.loop-of.of w.push.ensures.items before.few;
          })
      | else-of-me w ↦
          rw w.cells-is (record {
            are = others_same cell c.args.me c.loop-of.cells.items c.loop-of.of before.are (omega arith);
            few = omega (arith, before.few);
          })
    ]

pub returns : goal.returns
returns g c = voted_by g.row.N c.loop-of.of c.args.me c.args.states.now _ _ _ c.vote_lanes.ensures c.as_slice.ensures.value c.loop-of.invariant.are (omega arith)
