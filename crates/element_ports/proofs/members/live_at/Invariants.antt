use Rattle.std.proofs.Common.{◌≡◌, drop}
use Rattle.config_table.specs.Members.{member_at, live_in}
use Rattle.element_ports.proofs.LiveMember.{live_from}
use Rattle.element_ports.proofs.members.live_at.Given as goal

abbrev pub invariant-loop-i : goal.invariant-loop-i
invariant-loop-i l = member_at (live_from l.masked l.i (drop l.i l.members)) l.ne ≡ member_at (live_in l.masked l.members) l.ne
