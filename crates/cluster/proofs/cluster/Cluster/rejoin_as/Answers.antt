use Rattle.std.proofs.Common.{rules, ◌≡◌, ℕ, ◌<◌, ◌≤◌, length, ap, sym, subst, ◌∙◌}
use Rattle.std.specs.Prelude.{Some}
use Rattle.std.proofs.lemmas.List.{length-map}
use Rattle.element_core.specs.declared.Rejoined.{Rejoined}
use Rattle.element_core.specs.declared.Rejoined.TheVariants.{Taken, Refused}
use Rattle.cluster.specs.ClusterValue.{ClusterValue}
use Rattle.cluster.specs.Clusters.{cluster_with}
use Rattle.cluster.specs.Follows.{Follows}
use Rattle.cluster.specs.Rejoins.{RejoinsAt}
use Rattle.cluster.specs.Stations.{AllRest, elements_of}
use Rattle.cluster.proofs.Finished.{all_ready, few_cycles, rest_of}
use Rattle.cluster.proofs.RejoinSteps.{Asked, asked_by, never_refused, taken_cluster, taken_clause, taken_goes_on, refused_value, refused_cluster, refused_clause}
use Rattle.cluster.proofs.cluster.Cluster.rejoin_as.Goals as goal

pub rejoin-requires : goal.rejoin-requires
rejoin-requires g c =
    let i = c.self.inside in
    let is = c.self.invariant.0 in
    let old = cluster_with i.first i.faulty i.rejoined i.network i.journal in
    let stations = i.network.stations.items in
    let many : length stations ≡ g.row.N = sym (length-map stations (λ s. s.element)) ∙ is.rest.count ∙ is.elements in
    let some = subst (λ (o : ClusterValue). 1 ≤ o.remaining) (sym c.self.view_is) c.requires.cycles in
    let rest : AllRest (length old.journal) stations = rest_of old stations (λ j. old.elements) is.rest is.placed in
    let faulty = ap (λ (v : ClusterValue). v.faulty) c.self.view_is ∙ c.requires.faulty in (
      search rules,
      (
        c.self.invariant.1,
        (
          many,
          (
            is.placed,
            (all_ready (length old.journal) stations (few_cycles _ _ is.rest.cycles some) rest, subst (λ (n : ℕ). c.args.ne < n) is.elements (is.rest.faulty c.args.ne faulty)),
          ),
        ),
      ),
    )

pub invariant_of-self : goal.invariant_of-self
invariant_of-self g c =
    let i = c.self.inside in
    let asked : Asked (cluster_with i.first i.faulty i.rejoined i.network i.journal) c.args.ne i.network.stations.items Taken c.rejoin.new.self.stations.items =
    asked_by (cluster_with i.first i.faulty i.rejoined i.network i.journal) c.args.self.now c.args.ne i.network c.rejoin.result Taken c.rejoin.new.self.stations.items c.self.invariant.0 c.self.view_is (λ j. elements_of i.network.stations.items) c.requires.faulty c.requires.first c.rejoin.ensures.states c.rejoin.ensures.rejoins c.in-Taken.is in
    (taken_cluster i.first i.faulty i.rejoined i.network c.rejoin.new.self i.journal c.args.ne c.rejoin.ensures.delivered c.args.next asked c.requires.below c.rejoin.ensures.placed c.self.invariant.0.tables, c.self.invariant.1)

pub invariant_of-self-in-Refused : goal.invariant_of-self-in-Refused
invariant_of-self-in-Refused g c =
    let i = c.self.inside in
    let asked : Asked (cluster_with i.first i.faulty i.rejoined i.network i.journal) c.args.ne i.network.stations.items Refused c.rejoin.new.self.stations.items =
    asked_by (cluster_with i.first i.faulty i.rejoined i.network i.journal) c.args.self.now c.args.ne i.network c.rejoin.result Refused c.rejoin.new.self.stations.items c.self.invariant.0 c.self.view_is (λ j. elements_of i.network.stations.items) c.requires.faulty c.requires.first c.rejoin.ensures.states c.rejoin.ensures.rejoins c.in-Refused.is in
    (refused_cluster i.first i.faulty i.rejoined i.network c.rejoin.new.self i.journal c.args.ne c.rejoin.ensures.delivered asked c.rejoin.ensures.placed c.self.invariant.0.tables, c.self.invariant.1)

pub returns-in-Taken-clause-rejoins : goal.returns-in-Taken-clause-rejoins
returns-in-Taken-clause-rejoins g c =
    let i = c.self.inside in
    let asked : Asked (cluster_with i.first i.faulty i.rejoined i.network i.journal) c.args.ne i.network.stations.items Taken c.rejoin.new.self.stations.items =
    asked_by (cluster_with i.first i.faulty i.rejoined i.network i.journal) c.args.self.now c.args.ne i.network c.rejoin.result Taken c.rejoin.new.self.stations.items c.self.invariant.0 c.self.view_is (λ j. elements_of i.network.stations.items) c.requires.faulty c.requires.first c.rejoin.ensures.states c.rejoin.ensures.rejoins c.in-Taken.is in
    subst (λ (o : ClusterValue). RejoinsAt o c.args.ne c.args.next Taken (cluster_with i.first c.args.next (Some c.args.ne) c.rejoin.new.self i.journal)) c.self.view_is
    (taken_clause i.first i.faulty i.rejoined i.network c.rejoin.new.self i.journal c.args.ne c.rejoin.ensures.delivered c.args.next asked)

pub returns-in-Taken-clause-follows : goal.returns-in-Taken-clause-follows
returns-in-Taken-clause-follows g c =
    let i = c.self.inside in
    let asked : Asked (cluster_with i.first i.faulty i.rejoined i.network i.journal) c.args.ne i.network.stations.items Taken c.rejoin.new.self.stations.items =
    asked_by (cluster_with i.first i.faulty i.rejoined i.network i.journal) c.args.self.now c.args.ne i.network c.rejoin.result Taken c.rejoin.new.self.stations.items c.self.invariant.0 c.self.view_is (λ j. elements_of i.network.stations.items) c.requires.faulty c.requires.first c.rejoin.ensures.states c.rejoin.ensures.rejoins c.in-Taken.is in
    subst (λ (o : ClusterValue). Follows o → Follows (cluster_with i.first c.args.next (Some c.args.ne) c.rejoin.new.self i.journal)) c.self.view_is
    (taken_goes_on i.first i.faulty i.rejoined i.network c.rejoin.new.self i.journal c.args.ne c.rejoin.ensures.delivered c.args.next asked)

pub returns-in-Refused-clause-rejoins : goal.returns-in-Refused-clause-rejoins
returns-in-Refused-clause-rejoins g c =
    let i = c.self.inside in
    let asked : Asked (cluster_with i.first i.faulty i.rejoined i.network i.journal) c.args.ne i.network.stations.items Refused c.rejoin.new.self.stations.items =
    asked_by (cluster_with i.first i.faulty i.rejoined i.network i.journal) c.args.self.now c.args.ne i.network c.rejoin.result Refused c.rejoin.new.self.stations.items c.self.invariant.0 c.self.view_is (λ j. elements_of i.network.stations.items) c.requires.faulty c.requires.first c.rejoin.ensures.states c.rejoin.ensures.rejoins c.in-Refused.is in
    subst (λ (o : ClusterValue). RejoinsAt o c.args.ne c.args.next Refused (cluster_with i.first i.faulty i.rejoined c.rejoin.new.self i.journal)) c.self.view_is
    (refused_clause i.first i.faulty i.rejoined i.network c.rejoin.new.self i.journal c.args.ne c.rejoin.ensures.delivered asked c.args.next)

pub returns-in-Refused-clause-taken : goal.returns-in-Refused-clause-taken
returns-in-Refused-clause-taken g c =
    let i = c.self.inside in
    let asked : Asked (cluster_with i.first i.faulty i.rejoined i.network i.journal) c.args.ne i.network.stations.items Refused c.rejoin.new.self.stations.items =
    asked_by (cluster_with i.first i.faulty i.rejoined i.network i.journal) c.args.self.now c.args.ne i.network c.rejoin.result Refused c.rejoin.new.self.stations.items c.self.invariant.0 c.self.view_is (λ j. elements_of i.network.stations.items) c.requires.faulty c.requires.first c.rejoin.ensures.states c.rejoin.ensures.rejoins c.in-Refused.is in
    subst (λ (o : ClusterValue). Follows o → ◌≡◌ {A = Rejoined} Refused Taken) c.self.view_is
    (never_refused (cluster_with i.first i.faulty i.rejoined i.network i.journal) c.args.ne i.network.stations.items c.rejoin.new.self.stations.items asked)

pub returns-in-Refused-clause-follows : goal.returns-in-Refused-clause-follows
returns-in-Refused-clause-follows g c =
    let i = c.self.inside in
    let asked : Asked (cluster_with i.first i.faulty i.rejoined i.network i.journal) c.args.ne i.network.stations.items Refused c.rejoin.new.self.stations.items =
    asked_by (cluster_with i.first i.faulty i.rejoined i.network i.journal) c.args.self.now c.args.ne i.network c.rejoin.result Refused c.rejoin.new.self.stations.items c.self.invariant.0 c.self.view_is (λ j. elements_of i.network.stations.items) c.requires.faulty c.requires.first c.rejoin.ensures.states c.rejoin.ensures.rejoins c.in-Refused.is in
    subst (λ (o : ClusterValue). Follows o → Follows (cluster_with i.first i.faulty i.rejoined c.rejoin.new.self i.journal)) c.self.view_is
    (subst Follows (sym (refused_value i.first i.faulty i.rejoined i.network c.rejoin.new.self i.journal c.args.ne c.rejoin.ensures.delivered asked)))
