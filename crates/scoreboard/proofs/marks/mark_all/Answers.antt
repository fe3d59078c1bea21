use Rattle.std.proofs.Common.{◌≡◌, map, ap, ◌∙◌}
use Rattle.std.proofs.lemmas.List.{take_all}
use Rattle.config_table.specs.declared.groups.Group.{Group}
use Rattle.config_table.specs.declared.decisions.StateRow.{StateRow}
use Rattle.scoreboard.specs.Board.{line_of, flags_named, marked_line}
use Rattle.scoreboard.specs.Times.{line_number}
use Rattle.scoreboard.proofs.Lines.{keeps_vid}
use Rattle.scoreboard.proofs.Kept.{lines_made}
use Rattle.scoreboard.proofs.Order.{lines_ascend}
use Rattle.scoreboard.proofs.marks.mark_all.Goals as goal

pub returns-clause-order : goal.returns-clause-order
returns-clause-order c =
    let table = c.args.table.now in
    let flags = c.args.flags.now in
    let board = c.args.lines.now in
    let line : Group → StateRow = marked_line flags c.args.now board in
    let made : c.loop-place.after.items ≡ map line table.groups = c.loop-place.invariant
    ∙ ap (map line) (take_all c.loop-place.place c.groups_in-group-items.result.now c.loop-place-test.false ∙ c.groups_in-group-items.ensures.groups) in
    lines_ascend table c.loop-place.after.items c.groups_in-group-items.ensures.valid
    (ap (map line_number) made ∙ lines_made line table.groups (λ g. keeps_vid flags c.args.now g (line_of board g.vid) (flags_named flags g.vid)))
