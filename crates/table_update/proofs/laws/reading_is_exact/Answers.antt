use Rattle.table_update.proofs.ByField.{spelled_read, read_spelled, grammar_read}
use Rattle.table_update.proofs.laws.reading_is_exact.Goals as goal

pub returns-clause-complete : goal.returns-clause-complete
returns-clause-complete c = spelled_read

pub returns-clause-sound : goal.returns-clause-sound
returns-clause-sound c = read_spelled

pub returns-clause-grammar : goal.returns-clause-grammar
returns-clause-grammar c = grammar_read
