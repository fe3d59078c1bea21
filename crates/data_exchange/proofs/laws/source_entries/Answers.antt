use Rattle.data_exchange.proofs.HeldEntries.{source_entries}
use Rattle.data_exchange.proofs.laws.source_entries.Goals as goal

pub returns : goal.returns
returns c = source_entries
