use Rattle.std.proofs.Common.{◌≡◌, true, false, Some, ap, sym, ◌∙◌, subst}
use Rattle.std.specs.Prelude.{not, IsSome}
use lib.Pointwise.{bytes_decides}
use Rattle.rejoin.specs.declared.AgreedState.{AgreedState}
use Rattle.rejoin.specs.State.{IsInRange, state_bytes}
use Rattle.rejoin.proofs.Spelled.{only_one, valid_taken, true_of}
use Rattle.rejoin.proofs.reading.decode_state.Goals as goal

pub returns-in_err-state-clause-only : goal.returns-in_err-state-clause-only
returns-in_err-state-clause-only c s is =
    let some : IsSome c.only_state.result = c.only_state.ensures.valid (valid_taken c.args.bytes.now s is) in
    let never : false ≡ true = subst IsSome c.in_err-state.was some in
    cc

pub returns-then-not-is_in_range-clause-only : goal.returns-then-not-is_in_range-clause-only
returns-then-not-is_in_range-clause-only c s is =
    let same = only_one c.args.bytes.now s c.in_ok-state.state c.in_ok-state.ensures.found is in
    let yes = c.is_in_range.ensures.1 (subst (λ (t : AgreedState). IsInRange t.cycle t.table t.rows.items) (sym same) is.in_range) in
    let no_such = c.if-not-is_in_range.true in
    cc

pub returns-then-ne-clause-only : goal.returns-then-ne-clause-only
returns-then-ne-clause-only c s is =
    let same = only_one c.args.bytes.now s c.in_ok-state.state c.in_ok-state.ensures.found is in
    let equal = c.written.ensures ∙ ap (λ (t : AgreedState). state_bytes t.cycle t.table t.rows.items) same ∙ sym is.spelled in
    let test = ap not ((bytes_decides c.written.result c.args.bytes.now).1 equal) in
    let compared = c.ne.ensures in
    let no_such = c.if-ne.true in
    cc

pub returns-clause-found : goal.returns-clause-found
returns-clause-found c = record {
  in_range = c.is_in_range.ensures.0 c.if-not-is_in_range.false;
  spelled = sym ((bytes_decides c.written.result c.args.bytes.now).0 (true_of _ (sym c.ne.ensures ∙ c.if-ne.false))) ∙ c.written.ensures;
}

pub returns-clause-only : goal.returns-clause-only
returns-clause-only c s is = ap Some (only_one c.args.bytes.now s c.in_ok-state.state c.in_ok-state.ensures.found is)
