use Rattle.workload.proofs.Played.{workload_few, workload_few_at}
use Rattle.workload.proofs.laws.cycles_have_few_acts.Goals as goal

pub returns-clause-each : goal.returns-clause-each
returns-clause-each c = workload_few_at

pub returns-clause-all : goal.returns-clause-all
returns-clause-all c = workload_few
