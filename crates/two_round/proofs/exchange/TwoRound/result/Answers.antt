use Rattle.std.proofs.Common.{◌∙◌, ap}
use Rattle.two_round.specs.Echoes.{result_for}
use Rattle.two_round.proofs.Heard.{agreement-heard}
use Rattle.two_round.proofs.exchange.TwoRound.result.Goals as goal

pub returns-clause-agreed : goal.returns-clause-agreed
returns-clause-agreed g c round said is heard =
    c.voted.ensures
    ∙ ap (result_for c.args.self.now) c.index.ensures.number
    ∙ agreement-heard g.row.B g.row.N round said c.args.self.now c.args.source is heard
