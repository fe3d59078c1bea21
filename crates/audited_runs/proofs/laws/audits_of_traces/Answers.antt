use Rattle.audited_runs.proofs.Calls.{audits_of_traces}
use Rattle.audited_runs.proofs.laws.audits_of_traces.Goals as goal

pub returns : goal.returns
returns c = audits_of_traces
