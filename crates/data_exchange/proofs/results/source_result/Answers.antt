use Rattle.std.proofs.Common.{◌∙◌, sym, ap, subst}
use Rattle.ftpp_base.specs.Lists.{each_below}
use Rattle.ftpp_base.specs.Sets.{with_number}
use Rattle.two_round.specs.Echoes.{result_for, result_of}
use Rattle.data_exchange.specs.Entries.{entry_by, packet_in, IsSourceBelow}
use Rattle.data_exchange.proofs.Contributing.{source_counts}
use Rattle.data_exchange.proofs.results.source_result.Goals as goal

pub returns-in-Source : goal.returns-in-Source
returns-in-Source g c table copies =
    let service = c.args.service.now in
    let result = result_for c.args.x.now in
    let only = c.with-only.ensures ∙ ap (with_number c.default.result) c.byte.ensures.number in
    let results = c.results_of.ensures.results ∙ ap (λ set. each_below g.row.N (result_of set c.args.x.now)) only in
    let below = subst (IsSourceBelow g.row.N) c.in-Source.is c.requires in
    c.source_value.ensures
    ∙ ap packet_in (source_counts g.row.N service c.default.result c.args.x.now _ c.in-Source.source results below c.results_of.ensures.few)
    ∙ ap (λ kind. packet_in (entry_by kind table service copies result)) (sym c.in-Source.is)
