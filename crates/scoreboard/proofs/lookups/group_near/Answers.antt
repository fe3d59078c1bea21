use Rattle.std.proofs.Common.{List, map, find, refl, sym, ◌∙◌, ap}
use Rattle.config_table.specs.declared.groups.Group.{Group}
use Rattle.config_table.specs.Table.{is_named}
use Rattle.scoreboard.specs.Steps.{ascend}
use Rattle.scoreboard.specs.Times.{group_number}
use Rattle.scoreboard.proofs.Order.{found_near, table_ascends}
use Rattle.scoreboard.proofs.lookups.group_near.Goals as goal

pub returns-in-Some-clause-group : goal.returns-in-Some-clause-group
returns-in-Some-clause-group c =
    let vid = c.args.vid in
    let groups : List Group = c.groups_in.result.now in
    let up = ap (λ (gs : List Group). ascend 0 (map group_number gs)) c.groups_in.ensures.groups ∙ table_ascends c.args.table.now c.groups_in.ensures.valid in
    sym (found_near group_number (is_named vid) groups c.args.place vid c.in-Some.group.now (λ y. refl) up c.in-Some.ensures.lookup.0 c.in-Some.ensures.lookup.1 c.if-group-vid.true)
    ∙ ap (find (is_named vid)) c.groups_in.ensures.groups
