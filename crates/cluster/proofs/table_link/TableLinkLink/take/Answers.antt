use Rattle.std.proofs.Common.{ℕ, [], ap, sym, ◌∙◌}
use Rattle.two_round.proofs.Agreement.{at_place}
use Rattle.arrayvec.specs.ArrayVec.{ArrayVec}
use Rattle.cluster.specs.Carrying.{bytes_in}
use Rattle.cluster.specs.Delivered.{frame_in}
use Rattle.cluster.proofs.table_link.TableLinkLink.take.Goals as goal

pub returns-clause-frame : goal.returns-clause-frame
returns-clause-frame g c =
    let link = c.args.self.now in
    ap (λ (f : ArrayVec ℕ). f.items) c.copy_frame.ensures ∙ c.frame_of.ensures ∙ sym (at_place g.row.N (λ from. frame_in (bytes_in link.rows.now) from link.owner) c.args.from [] c.requires.below)
