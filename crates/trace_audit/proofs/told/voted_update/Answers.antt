use Rattle.std.proofs.Common.{ap, sym, ◌∙◌, List}
use Rattle.std.specs.Prelude.{None}
use Rattle.ftpp_base.specs.Lists.{cell_at}
use Rattle.bit_vote.specs.Vote.{Cell}
use Rattle.bit_vote.specs.Agreed.{agreed}
use Rattle.two_round.proofs.Agreement.{at_place}
use Rattle.trace_audit.specs.Told.{first_round}
use Rattle.trace_audit.proofs.told.voted_update.Goals as goal

pub returns : goal.returns
returns g c =
    c.members_result.ensures (agreed (first_round c.args.named.now c.args.packets.now))
    (λ ne l sends. sym (ap (λ (cells : List Cell). cell_at cells ne) c.all_agreed-results.ensures ∙ at_place g.row.N (agreed (first_round c.args.named.now c.args.packets.now)) ne None l))
