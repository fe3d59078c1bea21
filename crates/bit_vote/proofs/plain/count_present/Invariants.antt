use Rattle.std.proofs.Common.{◌≡◌, ◌+◌, ◌<◌, ℕ, length, drop, get_or, None}
use Rattle.bit_vote.specs.Vote.{present}
use Rattle.bit_vote.proofs.Counts.{IsWide}
use Rattle.bit_vote.proofs.plain.count_present.Given as goal

-- those so far and those to come are all, and those so far are as wide as the type says
abbrev pub invariant-loop-cell : goal.invariant-loop-cell
invariant-loop-cell g l = record {
  counted : l.count + length (present (drop l.cell-index l.list)) ≡ length (present l.list);
  wide : (k : ℕ) → k < l.cell-index → IsWide g.row.B (get_or l.list k None);
}
