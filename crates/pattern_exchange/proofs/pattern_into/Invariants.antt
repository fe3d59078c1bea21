use Rattle.std.proofs.Common.{◌≡◌, ◌<◌, ℕ, length, get_or, []}
use Rattle.ftpp_base.specs.Lists.{cell_at}
use Rattle.local_pattern.specs.Pattern.{read_column}
use Rattle.pattern_exchange.proofs.pattern_into.Given as goal

-- the columns so far are read
abbrev pub invariant-loop-k : goal.invariant-loop-k
invariant-loop-k g l = record {
  long : length l.pattern ≡ g.row.N;
  read : (s : ℕ) → s < l.k → get_or l.pattern s [] ≡ read_column (cell_at l.results s);
}
