use Rattle.std.proofs.Common.{sym, subst}
use Rattle.trace_audit.specs.AuditedTrace.{Audits}
use Rattle.trace_audit.proofs.Answered.{answered, refused}
use Rattle.trace_audit.proofs.audit.verdict_on.Goals as goal

pub returns-in-Ok : goal.returns-in-Ok
returns-in-Ok g c =
    subst (Audits c.args.table.now c.args.named c.args.bytes.now) (sym c.verdict.ensures)
    (answered g.row.N c.args.table.now c.args.named c.args.bytes.now c.new-reading.result.auditor c.in-Ok.last c.take_lines.new.self c.requires.elements c.requires.size c.requires.named c.new-reading.ensures.auditor c.in-Ok.ensures)

pub returns-in-Err : goal.returns-in-Err
returns-in-Err g c =
    refused g.row.N c.args.table.now c.args.named c.args.bytes.now c.new-reading.result.auditor c.take_lines.new.self c.in-Err.e c.requires.elements c.in-Err.ensures
