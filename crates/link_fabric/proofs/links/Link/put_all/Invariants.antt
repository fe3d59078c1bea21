use Rattle.std.proofs.Common.{◌≡◌, ℕ, [], ◌<◌, ◌≤◌, ◌==◌, cond, length, get_or}
use Rattle.link_fabric.proofs.links.Link.put_all.Given as goal

-- the frame stands in the places so far, and the others are as before
abbrev pub invariant-loop-k : goal.invariant-loop-k
invariant-loop-k g l = record {
  sent : (to : ℕ) → to < l.k → get_or (g.Self.Link.leaves l.self) to [] ≡ cond (to == l.owner) (get_or (g.Self.Link.leaves l.initial.self) to []) l.frame.items;
  rest : (to : ℕ) → l.k ≤ to → get_or (g.Self.Link.leaves l.self) to [] ≡ get_or (g.Self.Link.leaves l.initial.self) to [];
  width : length (g.Self.Link.leaves l.self) ≡ g.row.N;
  me : g.Self.Link.me l.self ≡ g.Self.Link.me l.initial.self;
  came : g.Self.Link.came l.self ≡ g.Self.Link.came l.initial.self;
}
