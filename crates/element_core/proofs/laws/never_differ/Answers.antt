use Rattle.element_core.proofs.TogetherRun.{never_differ}
use Rattle.element_core.proofs.laws.never_differ.Goals as goal

pub returns : goal.returns
returns c = never_differ
