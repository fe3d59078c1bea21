use Rattle.std.proofs.Common.{◌∙◌, ap}
use Rattle.report_text.specs.PlayedRun.{totals_played}
use Rattle.ftpp_top.specs.Commands.{in_order}
use Rattle.ftpp_top.proofs.Soaks.{outcome_with}
use Rattle.ftpp_top.proofs.trials.SoakTrialTrial.run.Goals as goal

pub returns : goal.returns
returns g c =
    let totals = c.in_ok-totals.ensures c.args.self.now.honest ∙ (λ i. totals_played (c.built_in_5-table.ensures i) (c.in_ok-script.ensures.script i)) in
    outcome_with c.args.start c.args.self.now.cycles c.in_order.result (c.in_order.ensures ∙ ap in_order totals)
