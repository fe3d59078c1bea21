use Rattle.table_update.proofs.ByField.{one_spelling, one_meaning}
use Rattle.table_update.proofs.laws.one_spelling.Goals as goal

pub returns-clause-bytes : goal.returns-clause-bytes
returns-clause-bytes c = one_spelling

pub returns-clause-update : goal.returns-clause-update
returns-clause-update c = one_meaning
