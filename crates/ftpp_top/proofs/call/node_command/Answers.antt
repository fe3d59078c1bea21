use Rattle.std.proofs.Common.{Some}
use Rattle.std.specs.Prelude.{option_copied}
use Rattle.command_steps.specs.Loading.{table_with}
use Rattle.ftpp_top.proofs.Before.{served_stopped}
use Rattle.ftpp_top.proofs.call.node_command.Goals as goal

pub returns-in-Err-clause-served : goal.returns-in-Err-clause-served
returns-in-Err-clause-served g c =
    served_stopped (table_with (g.H.Shelf.files c.args.shelf.now) (Some c.args.element) (option_copied c.args.config)) c.args.element c.args.cycles c.in-Err.status (g.S.Source.left c.args.input.now)
    (g.K.Sink.written c.args.out.now) (g.K.Sink.written c.load_element.new.out) c.requires.some c.in-Err.ensures.step
