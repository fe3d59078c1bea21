use Rattle.std.proofs.Common.{sym, subst}
use Rattle.ftpp_base.specs.declared.element.Round.TheVariants.{A1, A2, B1, B2}
use Rattle.cluster.specs.Carrying.{HasShape, bytes_in}
use Rattle.cluster.proofs.Written.{rows_long}
use Rattle.cluster.proofs.network.Network.frame.Goals as goal

pub frame_of-requires-clause-count : goal.frame_of-requires-clause-count
frame_of-requires-clause-count g c = rows_long g.row.N c.args.self.now.a1.items _ c.as_slice.ensures.value (c.requires.tables.count A1)

pub frame_of-requires-clause-shape : goal.frame_of-requires-clause-shape
frame_of-requires-clause-shape g c = subst (λ r. HasShape g.row.N (bytes_in r)) (sym c.as_slice.ensures.value) (c.requires.tables.shape A1)

pub frame_of-requires-in-A2-clause-count : goal.frame_of-requires-in-A2-clause-count
frame_of-requires-in-A2-clause-count g c = rows_long g.row.N c.args.self.now.a2.items _ c.as_slice-in-A2.ensures.value (c.requires.tables.count A2)

pub frame_of-requires-in-A2-clause-shape : goal.frame_of-requires-in-A2-clause-shape
frame_of-requires-in-A2-clause-shape g c = subst (λ r. HasShape g.row.N (bytes_in r)) (sym c.as_slice-in-A2.ensures.value) (c.requires.tables.shape A2)

pub frame_of-requires-in-B1-clause-count : goal.frame_of-requires-in-B1-clause-count
frame_of-requires-in-B1-clause-count g c = rows_long g.row.N c.args.self.now.b1.items _ c.as_slice-in-B1.ensures.value (c.requires.tables.count B1)

pub frame_of-requires-in-B1-clause-shape : goal.frame_of-requires-in-B1-clause-shape
frame_of-requires-in-B1-clause-shape g c = subst (λ r. HasShape g.row.N (bytes_in r)) (sym c.as_slice-in-B1.ensures.value) (c.requires.tables.shape B1)

pub frame_of-requires-in-B2-clause-count : goal.frame_of-requires-in-B2-clause-count
frame_of-requires-in-B2-clause-count g c = rows_long g.row.N c.args.self.now.b2.items _ c.as_slice-in-B2.ensures.value (c.requires.tables.count B2)

pub frame_of-requires-in-B2-clause-shape : goal.frame_of-requires-in-B2-clause-shape
frame_of-requires-in-B2-clause-shape g c = subst (λ r. HasShape g.row.N (bytes_in r)) (sym c.as_slice-in-B2.ensures.value) (c.requires.tables.shape B2)
