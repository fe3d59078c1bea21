use Rattle.std.proofs.Common.{refl, arith}
use Rattle.command_steps.proofs.Stepping.{reads_short, reads_long}
use Rattle.command_steps.proofs.scripts.load_bytes.Goals as goal

pub returns-in-Ok-clause-step : goal.returns-in-Ok-clause-step
returns-in-Ok-clause-step g c = (reads_short (g.S.Source.left c.args.input.now) c.in-Ok.bytes.items c.in-Ok.ensures.bytes (grind (arith, c.in-Ok.ensures.short, c.in-Ok.bytes.ok)), refl)

pub returns-in-Err-TooLong-clause-step : goal.returns-in-Err-TooLong-clause-step
returns-in-Err-TooLong-clause-step g c =
    reads_long (g.S.Source.left c.args.input.now) c.refuse_length.result (g.K.Sink.written c.args.out.now) (g.K.Sink.written c.refuse_length.new.out) (c.read_all.ensures.longer cc) c.refuse_length.ensures.ends
