use Rattle.std.proofs.Common.{◌≡◌, ℕ, ◌<◌, ◌*◌, List, get_or, ◌+◌, ◌/◌, arith, Fits, w8}
use Rattle.std.specs.Int.{bit_at}
use Rattle.std.specs.Prelude.{replicate}
use Rattle.std.proofs.lemmas.Nat.Bits.{bit_at-zero}
use Rattle.std.proofs.lemmas.Simd.{get_or-replicate, Each1-get_or}
use Rattle.bit_vote.specs.Vote.{present}
use Rattle.bit_vote.proofs.Vectors.{lanes_counted}
use Rattle.bit_vote.proofs.Bits.{byte_vote-bits, fours-voted}
use Rattle.bit_vote.proofs.Counts.{ones_at, ones_le, ones-drop_some, ones-drop_none, drop_past}
use Rattle.bit_vote.proofs.lanes.vote_block.Goals as goal
use Rattle.bit_vote.proofs.lanes.vote_block.Goals.{in-Some, in_default}

splat_at : (a k : ℕ) → k < 32 → get_or (replicate 32 a) k 0 ≡ a
splat_at a k h = get_or-replicate 32 k a 0 h

started : (a b k bit at : ℕ) (rows : List (List ℕ)) (half : ℕ) → k < 32 → bit_at a bit + 2 * bit_at b bit + half ≡ 3
    → bit_at (get_or (replicate 32 a) k 0) bit + 2 * bit_at (get_or (replicate 32 b) k 0) bit + 4 * bit_at (get_or (replicate 32 0) k 0) bit + ones_at rows (at + k) bit + half
    ≡ 3 + ones_at rows (at + k) bit
started a b k bit at rows half h e = rw (splat_at a k h, splat_at b k h, splat_at 0 k h) (omega (arith, e, bit_at-zero bit))

pub loop-cell-init : goal.loop-cell-init
loop-cell-init g c k bit hk h = started c.start-one.result.0 c.start-one.result.1 k bit c.args.at (present c.args.list.now) (c.args.count / 2) hk (c.start-one.ensures bit h)

pub loop-cell-preserved : goal.loop-cell-preserved
loop-cell-preserved g c k bit hk h =
    let before = c.loop-cell.invariant k bit hk h in
    let list = c.args.list.now in
    let i = c.loop-cell.cell-index in
    elim c.match-cell.branch [
      | in-Some w ↦
          let here = ones-drop_some list i c.cell-item.result w.in-Some.row (c.args.at + k) bit c.loop-cell-test.true c.cell-item.is w.in-Some.is in
          let most = ones_le (present list) (c.args.at + k) bit in
          let read = w.block_at-bytes.ensures in
          let byte : get_or w.block_at-bytes.result k 0 ≡ get_or w.in-Some.row (c.args.at + k) 0 = read.bytes k hk in
          let more = lanes_counted c.loop-cell.ones c.loop-cell.twos c.loop-cell.fours w.block_at-bytes.result c.match-cell.ones c.match-cell.twos c.match-cell.fours k bit
          c.loop-cell.auto.ones.0 c.loop-cell.auto.twos.0 c.loop-cell.auto.fours.0 read.length hk w.ones-is w.twos-is w.fours-is
          (rw byte (omega (arith, before, here, most))) in
          omega (arith, before, here, rw byte at more)
      | in_default w ↦
          rw (w.ones-is, w.twos-is, w.fours-is)
          (omega (arith, before, ones-drop_none list i c.cell-item.result (c.args.at + k) bit c.loop-cell-test.true c.cell-item.is w.in_default.is))
    ]

pub returns-clause-voted : goal.returns-clause-voted
returns-clause-voted g c k hk =
    byte_vote-bits (present c.args.list.now) (c.args.at + k) (get_or c.loop-cell.fours k 0)
    (let e = Each1-get_or (λ x. Fits w8 x) c.loop-cell.fours k 0 (omega (arith, c.loop-cell.auto.fours.0)) c.loop-cell.auto.fours.1 in e.fits)
    (λ bit h. fours-voted (present c.args.list.now) (c.args.at + k) bit (get_or c.loop-cell.ones k 0) (get_or c.loop-cell.twos k 0) (get_or c.loop-cell.fours k 0) (omega arith) (omega arith)
    (omega (arith, c.loop-cell.invariant k bit hk h, drop_past c.args.list.now c.loop-cell.cell-index (c.args.at + k) bit c.loop-cell-test.false)))
