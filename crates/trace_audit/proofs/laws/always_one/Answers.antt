use Rattle.trace_audit.proofs.FirstBreak.{always_one}
use Rattle.trace_audit.proofs.laws.always_one.Goals as goal

pub returns : goal.returns
returns c = always_one
