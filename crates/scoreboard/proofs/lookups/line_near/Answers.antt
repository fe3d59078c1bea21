use Rattle.std.proofs.Common.{refl, sym}
use Rattle.scoreboard.specs.Board.{is_line_of}
use Rattle.scoreboard.specs.Times.{line_number}
use Rattle.scoreboard.proofs.Order.{found_near}
use Rattle.scoreboard.proofs.lookups.line_near.Goals as goal

pub returns-in-Some : goal.returns-in-Some
returns-in-Some c =
    sym (found_near line_number (is_line_of c.args.vid) c.args.lines.now c.args.place c.args.vid c.in-Some.line.now (λ y. refl) c.requires
    c.in-Some.ensures.lookup.0 c.in-Some.ensures.lookup.1 c.if-line-vid.true)
