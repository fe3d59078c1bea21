use Rattle.std.proofs.Common.{◌≡◌, take, map}
use Rattle.flag_vote.specs.Flags.{flags_of}
use Rattle.flag_vote.proofs.flags.add_flags.Given as goal

abbrev pub invariant-loop-g : goal.invariant-loop-g
invariant-loop-g g l = l.flags.items ≡ map (flags_of l.pattern) (take l.g-index l.groups)
