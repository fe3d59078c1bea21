use Rattle.std.proofs.Common.{◌∙◌, arith, []}
use Rattle.std.proofs.lemmas.List.FromFn.{fill_by_all}
use Rattle.ftpp_base.specs.Lists.{cell_at}
use Rattle.two_round.specs.Echoes.{result_for}
use Rattle.local_pattern.specs.Pattern.{read_column}
use Rattle.pattern_exchange.proofs.Reading.{read_each}
use Rattle.pattern_exchange.proofs.pattern_into.Goals as goal

pub returns-clause-read : goal.returns-clause-read
returns-clause-read g c =
    fill_by_all (λ s. read_column (cell_at c.args.results.now s)) c.loop-k.pattern g.row.N [] c.loop-k.invariant.long
    (λ s l. c.loop-k.invariant.read s (omega arith))

pub returns-clause-settled : goal.returns-clause-settled
returns-clause-settled g c = λ x e.
    fill_by_all (λ s. read_column (cell_at c.args.results.now s)) c.loop-k.pattern g.row.N [] c.loop-k.invariant.long
    (λ s l. c.loop-k.invariant.read s (omega arith))
    ∙ read_each g.row.N (result_for x) c.args.results.now e
