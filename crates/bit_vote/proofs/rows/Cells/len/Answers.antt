use Rattle.std.proofs.Common.{◌∙◌, ap, sym, length}
use Rattle.bit_vote.proofs.Packings.{length-packed}
use Rattle.bit_vote.proofs.rows.Cells.len.Goals as goal

pub returns-clause-length : goal.returns-clause-length
returns-clause-length g c =
    sym (ap length c.self.view_is) ∙ length-packed c.self.inside.present c.self.inside.rows (c.self.invariant.0 ∙ sym c.self.invariant.1) ∙ c.self.invariant.0
