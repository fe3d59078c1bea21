use Rattle.std.proofs.Common.{ℕ, List, ◌∙◌, ap, subst}
use Rattle.command_steps.specs.Ends.{AddsPrefix}
use Rattle.ftpp_top.specs.SoakLine.{soak_line}
use Rattle.ftpp_top.specs.Commands.{line_of}
use Rattle.ftpp_top.proofs.Reporting.{err_always}
use Rattle.ftpp_top.proofs.Swept.{lines_cut}
use Rattle.ftpp_top.proofs.commands.sweep.write_lines.Goals as goal

pub returns-in_err-write_all-clause-prefix : goal.returns-in_err-write_all-clause-prefix
returns-in_err-write_all-clause-prefix g c =
    let piece = c.as_slice.ensures.value ∙ (c.soak_line-line.ensures ∙ ap (soak_line _) c.totals_of.ensures) in
    err_always c.from_residual.result _
    (lines_cut line_of c.args.outcomes.now c.loop-outcome.outcome-index _ (g.K.Sink.written c.args.out.now) (g.K.Sink.written c.loop-outcome.out) (g.K.Sink.written c.write_all.new.sink) c.loop-outcome-test.true c.loop-outcome.invariant.written
    (subst (λ (xs : List ℕ). AddsPrefix (g.K.Sink.written c.loop-outcome.out) xs (g.K.Sink.written c.write_all.new.sink)) piece c.in_err-write_all.ensures.prefix))
