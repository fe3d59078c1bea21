use Rattle.std.proofs.Common.{◌≡◌, ℕ, ◌<◌, ◌+◌, ◌*◌, ◌/◌, drop}
use Rattle.std.specs.Int.{bit_at}
use Rattle.bit_vote.specs.Vote.{present}
use Rattle.bit_vote.proofs.Counts.{ones_at}
use Rattle.bit_vote.proofs.plain.vote_byte.Given as goal

-- at each bit, what is counted so far and what is to come are the start and all
abbrev pub invariant-loop-cell : goal.invariant-loop-cell
invariant-loop-cell g l =
    (bit : ℕ) → bit < 8
    → bit_at l.ones bit + 2 * bit_at l.twos bit + 4 * bit_at l.fours bit + ones_at (present (drop l.cell-index l.list)) l.at bit + l.count / 2
    ≡ 3 + ones_at (present l.list) l.at bit
