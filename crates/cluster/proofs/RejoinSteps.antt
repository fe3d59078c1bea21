-- A cluster whose faulty element was asked to rejoin, by its stations.
use Rattle.std.proofs.Common.{◌≡◌, ℕ, zero, suc, ◌<◌, List, [], ◌∷◌, length, refl, ap, sym, ◌∙◌, subst, get_or}
use Rattle.std.specs.Prelude.{Option, Some, None}
use Rattle.std.proofs.lemmas.List.{length-map}
use Rattle.ftpp_base.specs.Lists.{change_at}
use Rattle.element_core.specs.declared.Rejoined.{Rejoined}
use Rattle.element_core.specs.declared.Rejoined.TheVariants.{Taken, Refused}
use Rattle.element_core.specs.ElementValue.{ElementValue, fresh}
use Rattle.element_core.specs.Rejoins.{IsRejoined}
use Rattle.cluster.specs.declared.stations.Station.{Station}
use Rattle.cluster.specs.declared.network.Network.{Network}
use Rattle.cluster.specs.ClusterValue.{ClusterValue, element_in, element_at}
use Rattle.config_table.specs.Table.{TableValue}
use Rattle.cluster.specs.Carrying.{AreTables}
use Rattle.cluster.specs.Clusters.{IsCluster, cluster_with, delivered_on}
use Rattle.cluster.specs.Follows.{IsAtRest, Follows}
use Rattle.cluster.specs.Journals.{JournalValue}
use Rattle.cluster.specs.Stations.{AllPlaced, elements_of}
use Rattle.cluster.specs.Rejoins.{TellsState, AllTellStates, MayRejoin, RejoinsAmong, RejoinsAt, states_told, replaced_at, after_rejoining}
use Rattle.cluster.proofs.RejoinLaws.{taken_anew, rejoined_rests, rejoined_follows}
use Rattle.cluster.proofs.RejoinStations.{told_by}

-- a list with an entry replaced by itself
replaced_same : (elements : List ElementValue) (ne : ℕ) (d : ElementValue) → change_at (λ before. get_or elements ne d) elements ne ≡ elements
replaced_same [] ne d = refl
replaced_same (e ∷ elements) zero d = refl
replaced_same (e ∷ elements) (suc ne) d = ap (λ es. e ∷ es) (replaced_same elements ne d)

module _ {N : ℕ} where
  -- What is known once the element was asked.
  pub record Asked (c : ClusterValue) (ne : ℕ) (olds : List (Station N)) (answer : Rejoined) (news : List (Station N)) : Type 0 where
    pub size : c.first.n ≡ N
    pub rest : IsAtRest c
    pub faulty : c.faulty ≡ Some ne
    pub first : c.rejoined ≡ None
    pub stations : c.elements ≡ elements_of olds
    pub tell : AllTellStates olds
    pub rejoins : RejoinsAmong N ne (elements_of olds) answer (elements_of news)

  -- as the call leaves it
  pub asked_by : (c now : ClusterValue) (ne : ℕ) (network : Network N) (result answer : Rejoined) (news : List (Station N)) → IsCluster c network → c ≡ now → c.elements ≡ elements_of network.stations.items
      → now.faulty ≡ Some ne → now.rejoined ≡ None → AllTellStates network.stations.items → RejoinsAmong N ne (elements_of network.stations.items) result (elements_of news) → result ≡ answer
      → Asked c ne network.stations.items answer news
  asked_by c now ne network result answer news is same stations faulty first tell rejoins got = record {
    size = is.elements;
    rest = is.rest;
    faulty = ap (λ (v : ClusterValue). v.faulty) same ∙ faulty;
    first = ap (λ (v : ClusterValue). v.rejoined) same ∙ first;
    stations = stations;
    tell = tell;
    rejoins = subst (λ (a : Rejoined). RejoinsAmong N ne (elements_of network.stations.items) a (elements_of news)) got rejoins;
  }

  module _ (c : ClusterValue) (ne : ℕ) (olds : List (Station N)) (answer : Rejoined) (news : List (Station N)) (asked : Asked c ne olds answer news) where
    pub may : MayRejoin c ne
    may =
        let many : length olds ≡ c.first.n = sym (length-map olds (λ (s : Station N). s.element)) ∙ ap length (sym asked.stations) ∙ asked.rest.count in
        record {
          rest = asked.rest;
          faulty = asked.faulty;
          first = asked.first;
          tell = λ k l. subst (λ es. TellsState (element_in es k)) (sym asked.stations) (told_by olds k asked.tell (subst (λ (n : ℕ). k < n) (sym many) l));
        }

    pub rejoins : RejoinsAmong c.first.n ne c.elements answer (elements_of news)
    rejoins =
        let P : ℕ × List ElementValue → Type 0 = λ x. RejoinsAmong x.0 ne x.1 answer (elements_of news) in
        subst P (λ i. (sym asked.size i, sym asked.stations i)) asked.rejoins

  module _ (c : ClusterValue) (ne : ℕ) (olds news : List (Station N)) (asked : Asked c ne olds Taken news) where
    abbrev pub r : RejoinsAmong c.first.n ne c.elements Taken (elements_of news)
    r = rejoins c ne olds Taken news asked

    -- the element that took the others' state
    pub taken_by : IsRejoined c.first.n (fresh ne c.first) (states_told c.first.n c.elements) Taken r.element
    taken_by = taken_anew c.first.n ne c.first (element_at c ne) r.element (states_told c.first.n c.elements) (asked.rest.me ne (asked.rest.faulty ne asked.faulty)) r.rejoined

    pub taken_rests : (next : Option ℕ) → ((k : ℕ) → next ≡ Some k → k < N) → IsAtRest (after_rejoining c ne r.element next)
    taken_rests next below =
        rejoined_rests c ne r.element next (may c ne olds Taken news asked) (λ k e. subst (λ (n : ℕ). k < n) (sym asked.size) (below k e)) taken_by

    pub taken_follows : (next : Option ℕ) → Follows c → Follows (after_rejoining c ne r.element next)
    taken_follows next follows = (rejoined_follows c ne Taken r.element next (may c ne olds Taken news asked) follows r.rejoined).1

  -- a refusal changes nothing
  pub refused_same : (c : ClusterValue) (ne : ℕ) (olds news : List (Station N)) → Asked c ne olds Refused news → elements_of news ≡ c.elements
  refused_same c ne olds news asked =
      let r = rejoins c ne olds Refused news asked in
      r.elements ∙ ap (λ e. replaced_at c.elements ne e) r.rejoined.1 ∙ replaced_same c.elements ne (fresh ne (record { n = 0; manager = 0; groups = [] }))

  pub refused_states : (c : ClusterValue) (ne : ℕ) (olds news : List (Station N)) → Asked c ne olds Refused news → IsRejoined c.first.n (element_at c ne) (states_told c.first.n c.elements) Refused (element_at c ne)
  refused_states c ne olds news asked = ((rejoins c ne olds Refused news asked).rejoined.0, refl)

  -- and comes never where the cluster follows its run
  pub never_refused : (c : ClusterValue) (ne : ℕ) (olds news : List (Station N)) → Asked c ne olds Refused news → Follows c → ◌≡◌ {A = Rejoined} Refused Taken
  never_refused c ne olds news asked follows =
      let r = rejoins c ne olds Refused news asked in
      (rejoined_follows c ne Refused r.element None (may c ne olds Refused news asked) follows r.rejoined).0

-- ---- the cluster that the call leaves, by its parts

module _ {N : ℕ} (first : TableValue) (faulty rejoined : Option ℕ) (before after : Network N) (journal : JournalValue) (ne : ℕ) (same : delivered_on after ≡ delivered_on before) where
  module _ (next : Option ℕ) (asked : Asked (cluster_with first faulty rejoined before journal) ne before.stations.items Taken after.stations.items) where
    abbrev took : RejoinsAmong first.n ne (elements_of before.stations.items) Taken (elements_of after.stations.items)
    took = r (cluster_with first faulty rejoined before journal) ne before.stations.items after.stations.items asked

    taken_value : cluster_with first next (Some ne) after journal ≡ after_rejoining (cluster_with first faulty rejoined before journal) ne took.element next
    taken_value = λ j. record {
      first = first;
      faulty = next;
      rejoined = Some ne;
      remaining = journal.remaining;
      acts_left = journal.acts_left;
      elements = took.elements j;
      journal = journal.inputs;
      delivered = same j;
    }

    pub taken_cluster : ((k : ℕ) → next ≡ Some k → k < N) → AllPlaced after.stations.items → AreTables N (delivered_on before) → IsCluster (cluster_with first next (Some ne) after journal) after
    taken_cluster below placed tables = record {
      elements = asked.size;
      rest = subst IsAtRest (sym taken_value) (taken_rests (cluster_with first faulty rejoined before journal) ne before.stations.items after.stations.items asked next below);
      placed = placed;
      tables = subst (AreTables N) (sym same) tables;
    }

    pub taken_clause : RejoinsAt (cluster_with first faulty rejoined before journal) ne next Taken (cluster_with first next (Some ne) after journal)
    taken_clause = (took.element, taken_by (cluster_with first faulty rejoined before journal) ne before.stations.items after.stations.items asked, taken_value)

    pub taken_goes_on : Follows (cluster_with first faulty rejoined before journal) → Follows (cluster_with first next (Some ne) after journal)
    taken_goes_on follows = subst Follows (sym taken_value) (taken_follows (cluster_with first faulty rejoined before journal) ne before.stations.items after.stations.items asked next follows)

  module _ (asked : Asked (cluster_with first faulty rejoined before journal) ne before.stations.items Refused after.stations.items) where
    pub refused_value : cluster_with first faulty rejoined after journal ≡ cluster_with first faulty rejoined before journal
    refused_value = λ j. record {
      first = first;
      faulty = faulty;
      rejoined = rejoined;
      remaining = journal.remaining;
      acts_left = journal.acts_left;
      elements = refused_same (cluster_with first faulty rejoined before journal) ne before.stations.items after.stations.items asked j;
      journal = journal.inputs;
      delivered = same j;
    }

    pub refused_cluster : AllPlaced after.stations.items → AreTables N (delivered_on before) → IsCluster (cluster_with first faulty rejoined after journal) after
    refused_cluster placed tables = record {
      elements = asked.size;
      rest = subst IsAtRest (sym refused_value) asked.rest;
      placed = placed;
      tables = subst (AreTables N) (sym same) tables;
    }

    pub refused_clause : (next : Option ℕ) → RejoinsAt (cluster_with first faulty rejoined before journal) ne next Refused (cluster_with first faulty rejoined after journal)
    refused_clause next = (refused_states (cluster_with first faulty rejoined before journal) ne before.stations.items after.stations.items asked, refused_value)
