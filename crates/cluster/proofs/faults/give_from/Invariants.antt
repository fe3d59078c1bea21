use Rattle.std.proofs.Common.{IsTrue}
use Rattle.link_fabric.specs.Rows.{rows_of}
use Rattle.cluster.specs.Carrying.{AreByteRows, TellsMore, entries_by}
use Rattle.cluster.specs.Rounds.{GivenFirst}
use Rattle.cluster.proofs.faults.give_from.Given as goal

abbrev pub invariant-loop-k : goal.invariant-loop-k
invariant-loop-k g l =
    (IsTrue (g.F.Fabric.honest l.fn.fabric) → GivenFirst l.k g.row.N l.from l.at l.stations (rows_of l.row) (g.A.Adversary.told l.fn.adversary) (g.A.Adversary.told l.adversary))
    × (IsTrue (g.F.Fabric.honest l.fn.fabric) → IsTrue (g.F.Fabric.honest l.fabric))
    × AreByteRows l.from l.k (rows_of l.row)
    × TellsMore (g.F.Fabric.told l.fn.fabric) (entries_by l.at (rows_of l.row) l.from l.k) (g.F.Fabric.told l.fabric)
