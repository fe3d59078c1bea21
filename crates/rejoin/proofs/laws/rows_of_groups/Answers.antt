use Rattle.rejoin.proofs.Rows.{numbered, requests, lags}
use Rattle.rejoin.proofs.laws.rows_of_groups.Goals as goal

pub returns-clause-numbered : goal.returns-clause-numbered
returns-clause-numbered c = numbered

pub returns-clause-requests : goal.returns-clause-requests
returns-clause-requests c = requests

pub returns-clause-lags : goal.returns-clause-lags
returns-clause-lags c = lags
