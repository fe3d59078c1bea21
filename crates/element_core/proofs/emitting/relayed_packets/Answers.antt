use Rattle.std.proofs.Common.{arith}
use Rattle.std.specs.Prelude.{None}
use Rattle.std.proofs.lemmas.List.FromFn.{fill_by_all}
use Rattle.element_core.specs.Noted.{where_relayed}
use Rattle.element_core.proofs.emitting.relayed_packets.Goals as goal

pub returns : goal.returns
returns g c =
    fill_by_all (where_relayed c.args.decision.now c.args.packets.now.copies) c.loop-k.cells g.row.N None c.loop-k.invariant.long
    (λ s l. c.loop-k.invariant.put s (omega arith))
