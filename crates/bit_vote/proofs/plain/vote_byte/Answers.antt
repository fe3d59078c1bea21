use Rattle.std.proofs.Common.{arith}
use Rattle.std.specs.Prelude.{slice_index}
use Rattle.std.proofs.lemmas.Nat.Bits.{bit_at-zero}
use Rattle.bit_vote.specs.Vote.{present}
use Rattle.bit_vote.proofs.Bits.{counted_more, byte_vote-bits, fours-voted}
use Rattle.bit_vote.proofs.Counts.{ones_le, ones-drop_some, ones-drop_none, drop_past}
use Rattle.bit_vote.proofs.plain.vote_byte.Goals as goal
use Rattle.bit_vote.proofs.plain.vote_byte.Goals.{in-Some, in_default}

pub loop-cell-init : goal.loop-cell-init
loop-cell-init g c bit h = omega (arith, c.start-ones.ensures bit h, bit_at-zero bit)

pub loop-cell-preserved : goal.loop-cell-preserved
loop-cell-preserved g c bit h =
    let before = c.loop-cell.invariant bit h in
    let list = c.args.list.now in
    let i = c.loop-cell.cell-index in
    elim c.match-cell.branch [
      | in-Some w ↦
          rw (w.ones-is, w.twos-is, w.fours-is)
          (let byte = slice_index w.in-Some.row c.args.at in
          let here = ones-drop_some list i c.cell-item.result w.in-Some.row c.args.at bit c.loop-cell-test.true c.cell-item.is w.in-Some.is in
          let most = ones_le (present list) c.args.at bit in
          omega (arith, before, here, counted_more c.loop-cell.ones c.loop-cell.twos c.loop-cell.fours byte bit (omega (arith, before, here, most))))
      | in_default w ↦
          rw (w.ones-is, w.twos-is, w.fours-is)
          (omega (arith, before, ones-drop_none list i c.cell-item.result c.args.at bit c.loop-cell-test.true c.cell-item.is w.in_default.is))
    ]

pub returns : goal.returns
returns g c =
    byte_vote-bits (present c.args.list.now) c.args.at c.loop-cell.fours (omega arith)
    (λ bit h. fours-voted (present c.args.list.now) c.args.at bit c.loop-cell.ones c.loop-cell.twos c.loop-cell.fours (omega arith) (omega arith)
    (omega (arith, c.loop-cell.invariant bit h, drop_past c.args.list.now c.loop-cell.cell-index c.args.at bit c.loop-cell-test.false)))
