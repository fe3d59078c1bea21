use Rattle.ftpp_top.proofs.commands.play.play_cycles.Goals as goal

pub returns-in-Report-clause-err : goal.returns-in-Report-clause-err
returns-in-Report-clause-err g c h r e stands = rw c.in-Report.is (c.report_cycles.ensures.err h r e stands)

pub returns-in-Trace-clause-err : goal.returns-in-Trace-clause-err
returns-in-Trace-clause-err g c h r e stands = rw c.in-Trace.is (c.trace_cycles.ensures.err h r e stands)

pub returns-in-Diagnosis-clause-err : goal.returns-in-Diagnosis-clause-err
returns-in-Diagnosis-clause-err g c h r e stands = rw c.in-Diagnosis.is (c.diagnose_cycles.ensures.err h r e stands)
