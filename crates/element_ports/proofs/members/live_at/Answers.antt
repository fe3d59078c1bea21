use Rattle.std.proofs.Common.{◌∙◌, sym}
use Rattle.element_ports.proofs.LiveMember.{live_passed, live_elsewhere}
use Rattle.element_ports.proofs.members.live_at.Goals as goal
use Rattle.element_ports.proofs.members.live_at.Goals.{else-not-is_masked-via-then-not-is_masked+else-proc-ne, else-not-is_masked-via-else-not-is_masked}

pub loop-i-preserved : goal.loop-i-preserved
loop-i-preserved c =
    elim c.else-not-is_masked.branch [
      | else-not-is_masked-via-then-not-is_masked+else-proc-ne w ↦
          sym (live_elsewhere c.args.masked.now c.args.members.now c.loop-i.i record { ne = 0; port = 0 } c.args.ne c.has-is_masked.result
          c.loop-i-test.true c.has-is_masked.ensures w.if-not-is_masked.true w.if-proc-ne.false)
          ∙ c.loop-i.invariant
      | else-not-is_masked-via-else-not-is_masked w ↦
          sym (live_passed c.args.masked.now c.args.members.now c.loop-i.i record { ne = 0; port = 0 } c.args.ne c.has-is_masked.result
          c.loop-i-test.true c.has-is_masked.ensures w.if-not-is_masked.false)
          ∙ c.loop-i.invariant
    ]
