use Rattle.std.proofs.Common.{◌≡◌, ◌≤◌, ◌++◌, drop, length}
use Rattle.flag_vote.specs.Words.{unmasked_from}
use Rattle.flag_vote.proofs.members.unmasked.Given as goal

abbrev pub invariant-loop-i : goal.invariant-loop-i
invariant-loop-i l = (length l.live.items ≤ l.i) × (l.live.items ++ unmasked_from l.masked l.i (drop l.i l.members) ≡ unmasked_from l.masked 0 l.members)
