use Rattle.std.proofs.Common.{ℕ, List, subst}
use Rattle.bit_vote.specs.Vote.{IsRow}
use Rattle.element_core.specs.ElementValue.{state_of}
use Rattle.element_core.specs.Rejoins.{IsStateOf}
use Rattle.cluster.proofs.rejoining.state_in.Goals as goal

pub returns-clause-state : goal.returns-clause-state
returns-clause-state g c =
    let spelled = c.state-bytes.ensures.spelled in
    record {
      row = subst (IsRow 1887) spelled c.is_row.ensures;
      state = subst (λ (xs : List ℕ). IsStateOf xs (state_of c.args.station.now.element)) spelled c.state-bytes.ensures;
    }
