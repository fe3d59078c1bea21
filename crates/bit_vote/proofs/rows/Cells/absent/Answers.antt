use Rattle.std.proofs.Common.{◌∙◌, ap, length}
use Rattle.std.proofs.lemmas.List.{length-replicate}
use Rattle.bit_vote.proofs.Packings.{zeroed_none, packed_none}
use Rattle.bit_vote.proofs.rows.Cells.absent.Goals as goal

pub invariant_of-result : goal.invariant_of-result
invariant_of-result g c = (length-replicate g.row.N _, length-replicate g.row.N _, zeroed_none g.row.B g.row.N, c.requires)

pub returns : goal.returns
returns g c = record {
  none = packed_none g.row.N _;
  length = ap length (packed_none g.row.N _) ∙ length-replicate g.row.N _;
}
