use Rattle.std.proofs.Common.{◌≡◌, ℕ, ◌<◌, [], length, slice_index_or}
use Rattle.std.specs.Prelude.{None, replicate}
use Rattle.element_core.specs.ElementValue.{taken_of, frames_in}
use Rattle.element_core.proofs.hearing.hear_echoes.Given as goal

-- the cells of the relays so far stand in their places
abbrev pub invariant-loop-k : goal.invariant-loop-k
invariant-loop-k g l = record {
  me : l.exchange.me ≡ l.me;
  count : length l.exchange.relayed ≡ g.row.N;
  copies : l.exchange.copies ≡ l.initial.exchange.copies;
  own : slice_index_or l.exchange.relayed l.me [] ≡ replicate g.row.N None;
  heard : (s : ℕ) → s < l.k → slice_index_or l.exchange.relayed s [] ≡ taken_of g.row.N l.slot l.me (replicate g.row.N None) (frames_in (g.L.Link.came l.initial.link)) s;
  owner : g.L.Link.me l.link ≡ g.L.Link.me l.initial.link;
  came : g.L.Link.came l.link ≡ g.L.Link.came l.initial.link;
  leaves : g.L.Link.leaves l.link ≡ g.L.Link.leaves l.initial.link;
}
