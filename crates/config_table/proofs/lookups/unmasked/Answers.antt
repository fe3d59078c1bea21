use Rattle.std.proofs.Common.{arith}
use Rattle.config_table.proofs.Orders.{seat_counts, seat_passes}
use Rattle.config_table.proofs.lookups.unmasked.Goals as goal
use Rattle.config_table.proofs.lookups.unmasked.Goals.{then-not-is_masked, else-not-is_masked}

pub loop-i-preserved : goal.loop-i-preserved
loop-i-preserved c =
    elim c.if-not-is_masked.branch [
      | then-not-is_masked w ↦
          let e = seat_counts c.args.masked.now c.args.members.now c.loop-i.i record { ne = 0; port = 0 } c.has-is_masked.result c.loop-i-test.true c.has-is_masked.ensures w.if-not-is_masked.true in
          omega arith
      | else-not-is_masked w ↦
          let e = seat_passes c.args.masked.now c.args.members.now c.loop-i.i record { ne = 0; port = 0 } c.has-is_masked.result c.loop-i-test.true c.has-is_masked.ensures w.if-not-is_masked.false in
          omega arith
    ]
