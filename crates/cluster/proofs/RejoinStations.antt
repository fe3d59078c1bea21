-- An element that rejoins in its place among the others.
use Rattle.std.proofs.Common.{◌≡◌, ◌≢◌, ℕ, ◌<◌, ◌+◌, ◌⊎◌, List, [], length, ap, sym, ◌∙◌, subst, inl, inr, arith, get_or}
use Rattle.std.specs.Prelude.{Some, None, slice_set}
use Rattle.std.proofs.lemmas.Bool.{cases_eq, cases_lt}
use Rattle.std.proofs.lemmas.List.Edits.{fill_by_more}
use Rattle.ftpp_base.specs.Lists.{cell_at}
use Rattle.bit_vote.specs.Vote.{Cell}
use Rattle.element_core.specs.declared.Rejoined.{Rejoined}
use Rattle.element_core.specs.ElementValue.{ElementValue, fresh}
use Rattle.element_core.specs.Rejoins.{IsRejoined}
use Rattle.cluster.specs.declared.stations.Station.{Station}
use Rattle.cluster.specs.ClusterValue.{element_in}
use Rattle.cluster.specs.Stations.{AllPlaced, elements_of}
use Rattle.cluster.specs.Rejoins.{TellsState, AllTellStates, RejoinsAmong, bytes_told, state_told, states_told}
use Rattle.cluster.proofs.ActSteps.{element_is, elements_change, some_of}
use Rattle.cluster.proofs.Places.{same_default}

module _ {N : ℕ} where
  -- what is known of the stations after a rejoin
  pub record RejoinedAt (ne : ℕ) (olds : List (Station N)) (answer : Rejoined) (news : List (Station N)) : Type 0 where
    pub many : length olds ≡ N
    pub same : length news ≡ length olds
    pub below : ne < N
    pub element : (d : Station N) → IsRejoined N (get_or olds ne d).element (states_told N (elements_of olds)) answer (get_or news ne d).element
    pub owner : (d : Station N) → (get_or news ne d).link.owner ≡ (get_or olds ne d).link.owner
    pub others : (k : ℕ) (d : Station N) → k ≢ ne → get_or news k d ≡ get_or olds k d

  -- an element rejoins among the others
  pub among : (ne : ℕ) (olds : List (Station N)) (answer : Rejoined) (news : List (Station N)) → RejoinedAt ne olds answer news → RejoinsAmong N ne (elements_of olds) answer (elements_of news)
  among ne olds answer news r =
      let there : ne < length olds = subst (λ (n : ℕ). ne < n) (sym r.many) r.below in
      let d = some_of olds ne there in
      let e = (get_or news ne d).element in
      let P : ElementValue → Type 0 = λ x. IsRejoined N x (states_told N (elements_of olds)) answer e in
      record {
        element = e;
        rejoined = subst P (sym (element_is olds ne d (fresh ne (record { n = 0; manager = 0; groups = [] })) there)) (r.element d);
        elements = elements_change (λ before. e) olds news ne r.same r.others
            (λ x. ap (λ (s : Station N). s.element) (same_default news ne x d (subst (λ (n : ℕ). ne < n) (sym r.same) there))) there;
      }

  -- all stand in their places still
  pub placed_after : (ne : ℕ) (olds : List (Station N)) (answer : Rejoined) (news : List (Station N)) → RejoinedAt ne olds answer news → AllPlaced olds → AllPlaced news
  placed_after ne olds answer news r placed k d l = by_place (cases_eq k ne) where
    there : k < length olds
    there = let same = r.same in omega arith

    by_place : (k ≡ ne) ⊎ (k ≢ ne) → (get_or news k d).link.owner ≡ k
    by_place (inl e) =
        ap (λ i. (get_or news i d).link.owner) e ∙ r.owner d ∙ ap (λ i. (get_or olds i d).link.owner) (sym e) ∙ placed k d there
    by_place (inr away) = ap (λ (s : Station N). s.link.owner) (r.others k d away) ∙ placed k d there

  -- what all tell, by element
  pub told_by : (stations : List (Station N)) (k : ℕ) → AllTellStates stations → k < length stations → TellsState (element_in (elements_of stations) k)
  told_by stations k tell l =
      let d = some_of stations k l in
      subst TellsState (sym (element_is stations k d (fresh k (record { n = 0; manager = 0; groups = [] })) l)) (tell k d l)

  -- what one more tells
  pub told_more : (stations : List (Station N)) (at : ℕ) (bytes : List ℕ) (cells next : List Cell) → at < N → length stations ≡ N → length cells ≡ N → ((d : Station N) → bytes ≡ bytes_told (get_or stations at d).element)
      → next ≡ slice_set cells at (Some bytes) → ((s : ℕ) → s < at → cell_at cells s ≡ state_told (elements_of stations) s)
      → (s : ℕ) → s < at + 1 → cell_at next s ≡ state_told (elements_of stations) s
  told_more stations at bytes cells next l many long told set before s m =
      let there : at < length stations = omega arith in
      let d = some_of stations at there in
      let here : Some bytes ≡ state_told (elements_of stations) at
      = ap Some (told d ∙ ap bytes_told (sym (element_is stations at d (fresh at (record { n = 0; manager = 0; groups = [] })) there))) in
      ap (λ (cs : List Cell). cell_at cs s) (set ∙ ap (λ x. slice_set cells at x) here)
      ∙ fill_by_more (state_told (elements_of stations)) cells at None (omega arith) before s m

  pub tells_more : (stations : List (Station N)) (at : ℕ) → ((d : Station N) → TellsState (get_or stations at d).element) → ((s : ℕ) (d : Station N) → s < at → TellsState (get_or stations s d).element)
      → (s : ℕ) (d : Station N) → s < at + 1 → TellsState (get_or stations s d).element
  tells_more stations at here before s d m = elim (cases_lt s at) [
    | inl l ↦ before s d l
    | inr g ↦ let e : at ≡ s = omega arith in subst (λ (k : ℕ). TellsState (get_or stations k d).element) e (here d)
  ]
