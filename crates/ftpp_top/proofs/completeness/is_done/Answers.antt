use Rattle.ftpp_top.proofs.Completes.{done_if_none_fails, audited_if_none_fails, served_if_none_fails}
use Rattle.ftpp_top.proofs.completeness.is_done.Goals as goal

pub returns-clause-ends : goal.returns-clause-ends
returns-clause-ends c = done_if_none_fails

pub returns-clause-audited : goal.returns-clause-audited
returns-clause-audited c = audited_if_none_fails

pub returns-clause-served : goal.returns-clause-served
returns-clause-served c = served_if_none_fails
