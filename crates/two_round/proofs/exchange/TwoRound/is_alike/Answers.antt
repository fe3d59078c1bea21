use Rattle.std.proofs.Common.{◌≡◌, ◌≤◌, ◌∙◌, ap, sym, subst, arith, length}
use Rattle.bit_vote.specs.Vote.{IsCell}
use Rattle.ftpp_base.specs.Lists.{cell_at}
use Rattle.two_round.proofs.Alike.{alike-voted}
use Rattle.two_round.proofs.exchange.TwoRound.is_alike.Goals as goal

pub returns-clause-voted : goal.returns-clause-voted
returns-clause-voted g c some =
    let x = c.args.self.now in
    let source = c.args.source in
    let same = ap (λ y. cell_at y.copies source) c.self.view_is in
    let is : IsCell g.row.B (cell_at x.copies source) = subst (IsCell g.row.B) (c.row.ensures.cell ∙ same) c.is_cell.ensures in
    let count : length x.copies ≡ g.row.N = sym (ap (λ y. length y.copies) c.self.view_is) ∙ c.row.ensures.length in
    let two : 2 ≤ g.row.N = omega arith in
    alike-voted g.row.B g.row.N x source (cell_at x.copies source) is two c.requires count (λ k l away. c.loop-of.invariant k (omega arith) away)
