use Rattle.whole_run.proofs.Equal.{equal_entries}
use Rattle.whole_run.proofs.laws.always_equal_entries.Goals as goal

pub returns : goal.returns
returns c = equal_entries
