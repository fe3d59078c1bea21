use Rattle.std.proofs.Common.{◌<◌, length, inl, inr, arith}
use Rattle.cluster.proofs.Sizes.{place_fits, station_fits}
use Rattle.cluster.proofs.rejoining.rejoin_at.Goals as goal

pub states_of-states-requires : goal.states_of-states-requires
states_of-states-requires g c = (station_fits g.row.N c.requires.size, (elim c.requires.size [ inl e ↦ rw e (omega arith) | inr e ↦ rw e (omega arith) ], (c.requires.size, (c.requires.count, c.requires.ready))))

pub offset_bounds-stations-index : goal.offset_bounds-stations-index
offset_bounds-stations-index g c = place_fits g.row.N c.index.result c.requires.size (omega (arith, c.index.ensures.number, c.requires.below))

pub rejoin-requires : goal.rejoin-requires
rejoin-requires g c =
    let there : c.index.result < length c.args.stations.now = omega (arith, c.index.ensures.number, c.requires.below, c.requires.count) in
    (elim c.requires.size [ inl e ↦ rw e (omega arith) | inr e ↦ rw e (omega arith) ], (elim c.requires.size [ inl e ↦ rw e (omega arith) | inr e ↦ rw e (omega arith) ], (c.requires.ready c.index.result c.index-stations-index.result there).due_is))
