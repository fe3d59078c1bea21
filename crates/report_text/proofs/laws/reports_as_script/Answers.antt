use Rattle.report_text.proofs.OfScript.{reports_as_script}
use Rattle.report_text.proofs.Carrying.{carries_alike}
use Rattle.report_text.proofs.laws.reports_as_script.Goals as goal

pub returns-clause-report : goal.returns-clause-report
returns-clause-report c = reports_as_script

pub returns-clause-frames : goal.returns-clause-frames
returns-clause-frames c = carries_alike
