use Rattle.std.proofs.Common.{◌≡◌, map, drop}
use Rattle.scoreboard.specs.Steps.{ascend, flags_number}
use Rattle.scoreboard.proofs.votes.are_ordered.Given as goal

-- the numbers ascend where those that are left do
abbrev pub invariant-loop-one : goal.invariant-loop-one
invariant-loop-one l = ascend l.least (map flags_number (drop l.one-index l.flags)) ≡ ascend 0 (map flags_number l.flags)
