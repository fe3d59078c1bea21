use Rattle.local_pattern.proofs.ByField.{spelled_read, grammar_spelled, outside_quiet}
use Rattle.local_pattern.proofs.laws.grammar_of_entries.Goals as goal

pub returns-clause-read : goal.returns-clause-read
returns-clause-read c = spelled_read

pub returns-clause-spelled : goal.returns-clause-spelled
returns-clause-spelled c = grammar_spelled

pub returns-clause-outside : goal.returns-clause-outside
returns-clause-outside c = outside_quiet
