use Rattle.std.proofs.Common.{[], sym, ◌∙◌}
use Rattle.two_round.proofs.Agreement.{at_place}
use Rattle.cluster.specs.Carrying.{bytes_in}
use Rattle.cluster.specs.Delivered.{frame_in}
use Rattle.cluster.proofs.table_link.TableLinkLink.seen.Goals as goal

pub returns : goal.returns
returns g c =
    let link = c.args.self.now in
    record { frame = c.frame_of.ensures ∙ sym (at_place g.row.N (λ from. frame_in (bytes_in link.rows.now) from link.owner) c.args.from [] c.requires.below) }
