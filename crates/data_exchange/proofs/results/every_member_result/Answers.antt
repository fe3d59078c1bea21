use Rattle.std.proofs.Common.{◌∙◌, sym, ap}
use Rattle.two_round.specs.Echoes.{result_for}
use Rattle.data_exchange.specs.Entries.{entry_by, packet_in}
use Rattle.data_exchange.proofs.Contributing.{admitted_count}
use Rattle.data_exchange.proofs.results.every_member_result.Goals as goal

pub returns : goal.returns
returns g c copies =
    let table = c.args.table.now in
    let service = c.args.service.now in
    let result = result_for c.args.x.now in
    c.members_result.ensures result (admitted_count g.row.N service c.args.x.now _ c.results_of.ensures.results)
    ∙ ap (λ kind. packet_in (entry_by kind table service copies result)) (sym c.requires.kind)
