use Rattle.std.proofs.Common.{◌<◌, sym, subst}
use Rattle.element_core.specs.Element.{Kept}
use Rattle.element_core.proofs.RejoinRows.{rows_lines, rows_before, rows_members, stands_taken}
use Rattle.element_core.proofs.kept_state.KeptState.take.Goals as goal

pub restore-requires-clause-lines : goal.restore-requires-clause-lines
restore-requires-clause-lines c = rows_lines c.args.state.now.cycle c.args.state.now.table c.args.state.now.rows.items c.requires.in_range

pub restore-requires-clause-earlier : goal.restore-requires-clause-earlier
restore-requires-clause-earlier c = rows_before c.args.state.now.cycle c.args.state.now.table c.args.state.now.rows.items c.requires.in_range

pub restore-requires-clause-members : goal.restore-requires-clause-members
restore-requires-clause-members c = rows_members c.args.state.now.cycle c.args.state.now.table c.args.state.now.rows.items c.requires.in_range

pub invariant_of-self : goal.invariant_of-self
invariant_of-self c =
    stands_taken c.args.state.now.cycle c.args.state.now.table c.args.state.now.rows.items _ _ c.reset.new.self c.self.inside.ports.me c.requires.in_range
    (subst (λ (k : Kept). k.me < c.args.state.now.table.n) (sym c.self.view_is) c.requires.me)
    c.copy-self-inside.ensures.same c.restore.ensures.lines c.reset.ensures.me c.reset.ensures.limits
