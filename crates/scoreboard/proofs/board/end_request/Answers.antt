use Rattle.std.proofs.Common.{◌+◌, List, sym, subst, arith}
use Rattle.config_table.specs.declared.decisions.StateRow.{StateRow}
use Rattle.scoreboard.proofs.Ending.{IsEnding, end_here, end_other}
use Rattle.scoreboard.proofs.board.end_request.Goals as goal
use Rattle.scoreboard.proofs.board.end_request.Goals.{then-line-vid, else-line-vid}

pub loop-line-preserved : goal.loop-line-preserved
loop-line-preserved c =
    let P : List StateRow → Type 0 = λ lines. IsEnding c.args.vid c.args.lines.now (c.loop-line.line-index + 1) lines in
    elim c.if-line-vid.branch [
      | then-line-vid w ↦ subst P (sym w.lines-is)
          (end_here c.args.vid c.args.lines.now c.loop-line.lines c.loop-line.line-index _ c.loop-line.auto.lines (omega arith) c.loop-line.invariant w.if-line-vid.true)
      | else-line-vid w ↦ subst P (sym w.lines-is)
          (end_other c.args.vid c.args.lines.now c.loop-line.lines c.loop-line.line-index _ c.loop-line.auto.lines (omega arith) c.loop-line.invariant w.if-line-vid.false)
    ]
