use Rattle.whole_run.proofs.ServiceLaw.{runs_serve_in_time}
use Rattle.whole_run.proofs.laws.runs_serve_in_time.Goals as goal

pub returns : goal.returns
returns c = runs_serve_in_time
