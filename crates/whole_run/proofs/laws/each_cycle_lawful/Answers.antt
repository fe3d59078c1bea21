use Rattle.whole_run.proofs.RunsLawful.{each_cycle_lawful}
use Rattle.whole_run.proofs.laws.each_cycle_lawful.Goals as goal

pub returns : goal.returns
returns c = each_cycle_lawful
