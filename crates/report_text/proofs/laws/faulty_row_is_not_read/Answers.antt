use Rattle.report_text.proofs.Alike.{prints_alike, adds_alike}
use Rattle.report_text.proofs.laws.faulty_row_is_not_read.Goals as goal

pub returns-clause-prints : goal.returns-clause-prints
returns-clause-prints c = prints_alike

pub returns-clause-adds : goal.returns-clause-adds
returns-clause-adds c = adds_alike
