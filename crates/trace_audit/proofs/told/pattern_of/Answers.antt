use Rattle.std.proofs.Common.{◌≤◌, ◌∙◌, ap, arith, List}
use Rattle.std.specs.Prelude.{None}
use Rattle.ftpp_base.specs.Lists.{cell_at}
use Rattle.bit_vote.specs.Vote.{Cell}
use Rattle.local_pattern.specs.Pattern.{read_column}
use Rattle.two_round.proofs.Agreement.{at_place}
use Rattle.trace_audit.proofs.Columns.{all_columns}
use Rattle.trace_audit.proofs.Rounds.{each_same}
use Rattle.trace_audit.proofs.told.pattern_of.Goals as goal

pub returns : goal.returns
returns g c = λ value e.
    let done : g.row.N ≤ c.loop-k.k = omega arith in
    all_columns g.row.N (λ ne. read_column (cell_at c.args.rows.now ne)) c.loop-k.k c.loop-k.pattern c.loop-k.invariant done
    ∙ each_same g.row.N (λ ne. read_column (cell_at c.args.rows.now ne)) (λ ne. read_column (value ne))
    (λ k l. ap read_column (ap (λ (cells : List Cell). cell_at cells k) e ∙ at_place g.row.N value k None l))
