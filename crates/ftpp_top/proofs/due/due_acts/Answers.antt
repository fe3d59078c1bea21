use Rattle.std.proofs.Common.{◌≡◌, ◌∷◌, rules}
use Rattle.ftpp_top.specs.Playing.{IsTaken}
use Rattle.ftpp_top.proofs.Taken.{IsDue, due_stops}
use Rattle.ftpp_top.proofs.due.due_acts.Goals as goal

pub returns-then-entry-c-clause-due : goal.returns-then-entry-c-clause-due
returns-then-entry-c-clause-due c =
    let whole : c.loop-entry.rest.now ≡ c.in-Some.entry.now ∷ c.in-Some.more.now = search rules in
    let at : IsDue c.args.c c.args.acts.now c.loop-entry.row.items (c.in-Some.entry.now ∷ c.in-Some.more.now) = rw whole at c.loop-entry.invariant in
    let taken : IsTaken c.args.c c.args.acts.now c.loop-entry.row.items (c.in-Some.entry.now ∷ c.in-Some.more.now) = due_stops c.args.c c.args.acts.now c.loop-entry.row.items c.in-Some.entry.now c.in-Some.more.now at c.if-entry-c.true in
    taken.due
