use Rattle.std.proofs.Common.{◌≡◌, ◌≤◌, length, map}
use Rattle.ftpp_base.specs.Lists.{others}
use Rattle.two_round.specs.Echoes.{word_of}
use Rattle.two_round.proofs.exchange.TwoRound.counted.Given as goal

-- the words of the elements so far
abbrev pub invariant-loop-of : goal.invariant-loop-of
invariant-loop-of g l = record {
  are : l.words.items ≡ map (word_of l.self l.source) (others l.of l.source);
  few : length l.words.items ≤ l.of;
}
