use Rattle.std.proofs.Common.{◌∙◌, ap, sym}
use Rattle.ftpp_base.specs.Lists.{cell_at}
use Rattle.data_exchange.specs.Entries.{packet_in}
use Rattle.data_exchange.proofs.MemberCells.{members_vote-counts}
use Rattle.data_exchange.proofs.results.members_result.Goals as goal

pub returns : goal.returns
returns g c value alike =
    c.members_vote.ensures.vote
    ∙ ap packet_in (sym (members_vote-counts g.row.N c.args.service.now value (cell_at c.args.results.now) alike c.args.table.now c.members_vote.ensures.valid c.requires.elements))
