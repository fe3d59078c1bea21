use Rattle.std.proofs.Common.{◌≡◌, ◌≢◌, ℕ, ◌<◌}
use Rattle.ftpp_base.specs.Lists.{cell_at}
use Rattle.two_round.specs.Echoes.{word_of}
use Rattle.two_round.proofs.exchange.TwoRound.is_alike.Given as goal

-- each word so far but that of the source is the own copy
abbrev pub invariant-loop-of : goal.invariant-loop-of
invariant-loop-of g l = (k : ℕ) → k < l.of → k ≢ l.source → word_of l.self l.source k ≡ cell_at l.self.copies l.source
