use Rattle.std.proofs.Common.{◌≡◌, drop}
use Rattle.diagnosis.specs.Proposals.{live_index_from}
use Rattle.diagnosis.proofs.masks.live_index_at.Given as goal

abbrev pub invariant-loop-i : goal.invariant-loop-i
invariant-loop-i l = live_index_from l.group.masked l.ne l.i (drop l.i l.group.members.items) ≡ live_index_from l.group.masked l.ne 0 l.group.members.items
