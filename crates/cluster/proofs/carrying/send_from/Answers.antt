use Rattle.cluster.proofs.Sizes.{station_fits}
use Rattle.cluster.proofs.carrying.send_from.Goals as goal

pub give_from-requires : goal.give_from-requires
give_from-requires g c = (station_fits g.row.N c.requires.size, (c.requires.size, (c.requires.count, (c.requires.row, (c.requires.placed, c.requires.from)))))

pub carry_from-requires : goal.carry_from-requires
carry_from-requires g c = (station_fits g.row.N c.requires.size, (c.requires.size, (c.requires.count, (c.requires.row, (c.requires.placed, c.requires.from)))))

pub returns-then-is_this-clause-given : goal.returns-then-is_this-clause-given
returns-then-is_this-clause-given g c h bad = c.give_from.ensures.given h
