use Rattle.local_pattern.proofs.ByField.{row_read, encoded_row}
use Rattle.local_pattern.proofs.laws.grammar_of_rows.Goals as goal

pub returns-clause-read : goal.returns-clause-read
returns-clause-read c = row_read

pub returns-clause-encoded : goal.returns-clause-encoded
returns-clause-encoded c = encoded_row
