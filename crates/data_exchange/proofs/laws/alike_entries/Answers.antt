use Rattle.data_exchange.proofs.HeldEntries.{alike_entries}
use Rattle.data_exchange.proofs.laws.alike_entries.Goals as goal

pub returns : goal.returns
returns c = alike_entries
