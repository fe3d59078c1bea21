use Rattle.std.proofs.Common.{rules, refl, sym, subst, ◌∙◌, ◌-◌, ◌++◌, ◌∷◌, [], length}
use Rattle.ftpp_base.specs.Lists.{each_below}
use Rattle.ftpp_base.specs.declared.element.Round.TheVariants.{A1, B1}
use Rattle.cluster.specs.Carrying.{HasShape, bytes_in}
use Rattle.cluster.specs.Delivered.{cell_in}
use Rattle.cluster.proofs.Written.{rows_long}
use Rattle.cluster.proofs.network.Network.note.Goals as goal

pub cells_told-patterns-requires : goal.cells_told-patterns-requires
cells_told-patterns-requires g c = (
  search rules,
  (
    c.requires.size,
    (
      rows_long g.row.N c.args.self.now.a1.items _ c.as_slice.ensures.value (c.requires.tables.count A1),
      (
        subst (λ r. HasShape g.row.N (bytes_in r)) (sym c.as_slice.ensures.value) (c.requires.tables.shape A1),
        (tt, (refl, c.requires.below)),
      ),
    ),
  ),
)

pub cells_told-packets-requires : goal.cells_told-packets-requires
cells_told-packets-requires g c = (
  search rules,
  (
    c.requires.size,
    (
      rows_long g.row.N c.args.self.now.b1.items _ c.as_slice-2.ensures.value (c.requires.tables.count B1),
      (
        subst (λ r. HasShape g.row.N (bytes_in r)) (sym c.as_slice-2.ensures.value) (c.requires.tables.shape B1),
        (tt, (refl, c.requires.below)),
      ),
    ),
  ),
)

pub returns : goal.returns
returns g c =
    let j = c.args.journal.now in
    let number = c.len-cycle.ensures.length in
    let patterns = c.cells_told-patterns.ensures ∙ (λ k. each_below g.row.N (cell_in g.row.N (record { cycle = number k; round = A1 }) c.args.faulty.now (bytes_in (c.as_slice.ensures.value k)))) in
    let packets = c.cells_told-packets.ensures ∙ (λ k. each_below g.row.N (cell_in g.row.N (record { cycle = number k; round = B1 }) c.args.faulty.now (bytes_in (c.as_slice-2.ensures.value k)))) in
    c.add.ensures ∙ (λ k. record {
      inputs = j.inputs ++ record { rejoined = c.args.rejoined.now; faulty = c.args.faulty.now; acts = c.args.acts.now; patterns = patterns k; packets = packets k } ∷ [];
      remaining = j.remaining - 1;
      acts_left = j.acts_left - length c.args.acts.now;
    })
