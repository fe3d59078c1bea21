use Rattle.std.proofs.Common.{◌∙◌, sym, ap, arith, length}
use Rattle.ftpp_base.specs.Lists.{cell_at}
use Rattle.bit_vote.proofs.Packings.{get_present, get_absent, length-packed}
use Rattle.bit_vote.proofs.rows.Cells.row.Goals as goal

pub returns-then-self-i : goal.returns-then-self-i
returns-then-self-i g c = record {
  cell =
      get_present c.self.inside.present c.self.inside.rows c.args.i (c.self.invariant.0 ∙ sym c.self.invariant.1) (omega arith) c.if-self-i.true
      ∙ ap (λ l. cell_at l c.args.i) c.self.view_is;
  length =
      sym (ap length c.self.view_is) ∙ length-packed c.self.inside.present c.self.inside.rows (c.self.invariant.0 ∙ sym c.self.invariant.1) ∙ c.self.invariant.0;
}

pub returns-else-self-i : goal.returns-else-self-i
returns-else-self-i g c = record {
  cell = get_absent c.self.inside.present c.self.inside.rows c.args.i c.if-self-i.false ∙ ap (λ l. cell_at l c.args.i) c.self.view_is;
  length =
      sym (ap length c.self.view_is) ∙ length-packed c.self.inside.present c.self.inside.rows (c.self.invariant.0 ∙ sym c.self.invariant.1) ∙ c.self.invariant.0;
}
