use Rattle.std.proofs.Common.{◌≡◌, drop, map}
use Rattle.std.specs.Prelude.{find}
use Rattle.flag_vote.specs.Flags.{descriptor_of}
use Rattle.flag_vote.specs.Words.{most_hold}
use Rattle.flag_vote.proofs.flags.first_held.Given as goal

abbrev pub invariant-loop-p : goal.invariant-loop-p
invariant-loop-p g l = find (most_hold l.pattern l.live) (map (descriptor_of l.pattern) (drop l.p-index l.live)) ≡ find (most_hold l.pattern l.live) (map (descriptor_of l.pattern) l.live)
