use Rattle.std.proofs.Common.{arith}
use Rattle.command_steps.proofs.Stepping.{loads_short, loads_long}
use Rattle.command_steps.proofs.files.load_table.Goals as goal

pub returns-in-Ok-clause-step : goal.returns-in-Ok-clause-step
returns-in-Ok-clause-step g c =
    loads_short (λ t. t) (g.H.Shelf.files c.args.shelf.now) c.args.name.now c.as_slice.result.now c.read_table.result (g.K.Sink.written c.args.out.now) (g.K.Sink.written c.read_table.new.out)
    (rw c.as_slice.ensures.value c.in-Ok.ensures.bytes) (omega (arith, c.as_slice.ensures.len, c.in-Ok.ensures.short)) c.read_table.ensures.step

pub returns-in-Err-TooLong-clause-step : goal.returns-in-Err-TooLong-clause-step
returns-in-Err-TooLong-clause-step g c =
    loads_long (g.H.Shelf.files c.args.shelf.now) c.args.name.now c.refuse_length.result (g.K.Sink.written c.args.out.now) (g.K.Sink.written c.refuse_length.new.out) (c.load.ensures.too_long cc) c.refuse_length.ensures.ends
