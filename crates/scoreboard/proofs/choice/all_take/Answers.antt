use Rattle.std.proofs.Common.{inl, inr, sym, ◌∙◌}
use Rattle.ftpp_base.specs.declared.element.Proc.{Proc}
use Rattle.scoreboard.proofs.LiveTaking.{takes_more}
use Rattle.scoreboard.proofs.choice.all_take.Goals as goal
use Rattle.scoreboard.proofs.choice.all_take.Goals.{else-is_live-via-then-is_live+else-not-takes_at, else-is_live-via-else-is_live}

pub loop-seat-preserved : goal.loop-seat-preserved
loop-seat-preserved c =
    let d : Proc = record { ne = 0; port = 0 } in
    elim c.else-is_live.branch [
      | else-is_live-via-then-is_live+else-not-takes_at w ↦
          takes_more c.args.group.now c.args.one.now c.args.line.now c.as_slice-members.result.now c.loop-seat.seat _ c.as_slice-members.ensures.value c.loop-seat-test.true
          (inr (sym w.takes_at.ensures ∙ w.if-not-takes_at.false)) ∙ c.loop-seat.invariant
      | else-is_live-via-else-is_live w ↦
          takes_more c.args.group.now c.args.one.now c.args.line.now c.as_slice-members.result.now c.loop-seat.seat d c.as_slice-members.ensures.value c.loop-seat-test.true
          (inl (sym c.is_live.ensures ∙ w.if-is_live.false)) ∙ c.loop-seat.invariant
    ]
