use Rattle.data_exchange.proofs.EntryLaws.{entry-same}
use Rattle.data_exchange.proofs.laws.equal_entries.Goals as goal

pub returns : goal.returns
returns c = entry-same
