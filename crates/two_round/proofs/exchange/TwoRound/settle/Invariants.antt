use Rattle.two_round.proofs.Settling.{Settles}
use Rattle.two_round.proofs.exchange.TwoRound.settle.Given as goal

-- the results so far are those of the set, and the others are still the copies
abbrev pub invariant-loop-source : goal.invariant-loop-source
invariant-loop-source g l = Settles g.row.N l.self l.sources l.source l.results l.differing
