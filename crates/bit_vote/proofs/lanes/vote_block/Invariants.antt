use Rattle.std.proofs.Common.{◌≡◌, ℕ, ◌<◌, ◌+◌, ◌*◌, ◌/◌, drop, get_or}
use Rattle.std.specs.Int.{bit_at}
use Rattle.bit_vote.specs.Vote.{present}
use Rattle.bit_vote.proofs.Counts.{ones_at}
use Rattle.bit_vote.proofs.lanes.vote_block.Given as goal

-- at each bit of each lane, what is counted so far and what is to come are the start and all
abbrev pub invariant-loop-cell : goal.invariant-loop-cell
invariant-loop-cell g l =
    (k bit : ℕ) → k < 32 → bit < 8
    → bit_at (get_or l.ones k 0) bit + 2 * bit_at (get_or l.twos k 0) bit + 4 * bit_at (get_or l.fours k 0) bit + ones_at (present (drop l.cell-index l.list)) (l.at + k) bit + l.count / 2
    ≡ 3 + ones_at (present l.list) (l.at + k) bit
