use Rattle.config_table.proofs.ValidTable.{size-valid}
use Rattle.config_table.proofs.tables.Table.n.Goals as goal

pub returns-clause-size : goal.returns-clause-size
returns-clause-size c = size-valid _ c.self.invariant
