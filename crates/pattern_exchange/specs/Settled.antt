-- The agreed pattern, as one element reads it from its two-round results.
use Rattle.std.specs.Prelude.{ℕ, List}
use Rattle.ftpp_base.specs.Lists.{each_below}
use Rattle.two_round.specs.Echoes.{Echoes, result_for}
use Rattle.local_pattern.specs.declared.Entry.{Entry}
use Rattle.local_pattern.specs.Pattern.{read_column}

-- the two-round results of all senders, read as columns
abbrev pub settled : ℕ → Echoes → List (List Entry)
settled n echoes = each_below n (λ s. read_column (result_for echoes s))
