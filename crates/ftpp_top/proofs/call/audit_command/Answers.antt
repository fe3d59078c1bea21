use Rattle.std.specs.Prelude.{option_copied}
use Rattle.command_steps.specs.Loading.{table_with, bytes_told}
use Rattle.command_steps.proofs.Stepping.{stops_there, stops_then}
use Rattle.ftpp_top.specs.Commands.{audit_on, audit_for, audited_bytes}
use Rattle.ftpp_top.proofs.Before.{judged_stopped}
use Rattle.ftpp_top.proofs.call.audit_command.Goals as goal

pub returns-in-Err-clause-ends : goal.returns-in-Err-clause-ends
returns-in-Err-clause-ends g c =
    let files = g.H.Shelf.files c.args.shelf.now in
    let left = g.S.Source.left c.args.input.now in
    let config = option_copied c.args.config in
    let old = g.K.Sink.written c.args.out.now in
    let new = g.K.Sink.written c.load_named.new.out in
    judged_stopped (audit_for files left c.args.named config) c.in-Err.status old new
    (stops_there (table_with files c.args.named config) (audit_on left c.args.named) c.in-Err.status old new c.in-Err.ensures.step)

pub returns-in-Err-load_bytes-clause-ends : goal.returns-in-Err-load_bytes-clause-ends
returns-in-Err-load_bytes-clause-ends g c =
    let files = g.H.Shelf.files c.args.shelf.now in
    let left = g.S.Source.left c.args.input.now in
    let config = option_copied c.args.config in
    let old = g.K.Sink.written c.args.out.now in
    let mid = g.K.Sink.written c.load_named.new.out in
    let new = g.K.Sink.written c.load_bytes.new.out in
    let status = c.in-Err-load_bytes.status in
    let table = c.in-Ok.parts.0 in
    judged_stopped (audit_for files left c.args.named config) status old new
    (stops_then (table_with files c.args.named config) table (audit_on left c.args.named) status old mid new c.in-Ok.ensures.step.0 c.in-Ok.ensures.step.1
    (stops_there (bytes_told left) (audited_bytes table c.args.named) status mid new c.in-Err-load_bytes.ensures.step))
