use Rattle.frame_format.proofs.ByField.{one_spelling, one_meaning}
use Rattle.frame_format.proofs.laws.one_spelling.Goals as goal

pub returns-clause-bytes : goal.returns-clause-bytes
returns-clause-bytes c = one_spelling

pub returns-clause-frame : goal.returns-clause-frame
returns-clause-frame c = one_meaning
