use Rattle.std.proofs.Common.{length, ap, sym, subst, ◌∙◌, ◌≡◌, List, refl}
use Rattle.cluster.specs.declared.stations.Station.{Station}
use Rattle.cluster.specs.ClusterValue.{all_acted, all_answers}
use Rattle.cluster.specs.Stations.{AllRest, elements_of}
use Rattle.cluster.proofs.Written.{written}
use Rattle.cluster.proofs.Sizes.{station_fits}
use Rattle.cluster.proofs.network.Network.act.Goals as goal

pub act_all-requires : goal.act_all-requires
act_all-requires g c = (
  station_fits g.row.N c.requires.size,
  (
    c.requires.size,
    (
      ap length c.as_mut_slice.ensures.value ∙ c.requires.count,
      (
        c.requires.few,
        (subst (λ s. AllRest c.args.cycle s) (sym c.as_mut_slice.ensures.value) c.requires.rest, c.requires.among),
      ),
    ),
  ),
)

pub returns : goal.returns
returns g c =
    let acts = c.args.acts.now in
    let olds : List (Station g.row.N) = c.as_mut_slice.result.now in
    let is : olds ≡ c.args.self.now.stations.items = c.as_mut_slice.ensures.value in
    let news = written c.args.self.now.stations olds c.act_all.new.stations is c.act_all.auto.stations in
    record {
      elements = ap elements_of news ∙ c.act_all.ensures.elements ∙ (λ i. all_acted (elements_of (is i)) acts);
      answers = c.act_all.ensures.answers ∙ (λ i. all_answers (elements_of (is i)) acts);
      rest = subst (λ s. AllRest c.args.cycle s) (sym news) c.act_all.ensures.rest;
      count = ap length news ∙ c.act_all.auto.stations ∙ ap length is ∙ c.requires.count;
      delivered = refl;
      whole = c.are_acts.ensures;
    }
