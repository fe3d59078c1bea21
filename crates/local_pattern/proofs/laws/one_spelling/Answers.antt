use Rattle.local_pattern.proofs.ByField.{one_spelling, one_meaning}
use Rattle.local_pattern.proofs.laws.one_spelling.Goals as goal

pub returns-clause-bytes : goal.returns-clause-bytes
returns-clause-bytes c = one_spelling

pub returns-clause-entries : goal.returns-clause-entries
returns-clause-entries c = one_meaning
