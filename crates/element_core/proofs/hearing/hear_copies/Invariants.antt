use Rattle.std.proofs.Common.{◌≡◌}
use Rattle.ftpp_base.specs.Lists.{cell_at}
use Rattle.element_core.specs.ElementValue.{copy_taken, frames_in}
use Rattle.element_core.proofs.Copies.{IsHearing}
use Rattle.element_core.proofs.hearing.hear_copies.Given as goal

-- the copies of the senders so far stand in their places
abbrev pub invariant-loop-k : goal.invariant-loop-k
invariant-loop-k g l = record {
  heard : IsHearing g.row.N l.me (copy_taken g.row.N l.slot l.me (cell_at l.initial.exchange.copies l.me) (frames_in (g.L.Link.came l.initial.link))) l.k l.initial.exchange l.exchange;
  owner : g.L.Link.me l.link ≡ g.L.Link.me l.initial.link;
  came : g.L.Link.came l.link ≡ g.L.Link.came l.initial.link;
  leaves : g.L.Link.leaves l.link ≡ g.L.Link.leaves l.initial.link;
}
