use Rattle.std.proofs.Common.{◌≡◌, ◌+◌, ◌-◌, ◌≤◌, vec_len}
use Rattle.ftpp_outside.specs.Told.{raised, Gives}
use Rattle.ftpp_outside.proofs.source.read_all.Given as goal

abbrev pub invariant-loop-piece : goal.invariant-loop-piece
invariant-loop-piece g l =
    (vec_len l.all ≤ l.limit + 1)
    × Gives (g.S.Source.left l.fn.src) l.all.items (g.S.Source.left l.src)
    × (g.S.Source.taken l.src ≡ raised (g.S.Source.taken l.fn.src) (vec_len l.all))
    × (g.S.Source.faults l.fn.src ≤ g.S.Source.faults l.src)

abbrev pub decreases-loop-piece : goal.decreases-loop-piece
decreases-loop-piece g l = (l.limit + 1) - vec_len l.all
