use Rattle.std.proofs.Common.{rules}
use Rattle.bit_vote.proofs.Packings.{same_kept}
use Rattle.bit_vote.proofs.rows.CellsPartialEq.eq.Goals as goal

pub returns : goal.returns
returns g c = rw (c.and_eq.ensures, c.eq.ensures) (search (rules, same_kept))
