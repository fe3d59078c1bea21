-- How the faulty element of a cluster rejoins, with what the others tell of their agreed states.
use Rattle.std.specs.Prelude.{◌≡◌, ℕ, ◌<◌, List, length, slice_index_or, Option, Some, None}
use Rattle.ftpp_base.specs.Lists.{change_at, each_below}
use Rattle.bit_vote.specs.Vote.{Cell, IsRow}
use Rattle.rejoin.specs.State.{state_bytes}
use Rattle.element_core.specs.declared.Rejoined.{Rejoined}
use Rattle.element_core.specs.declared.Rejoined.TheVariants.{Taken, Refused}
use Rattle.element_core.specs.ElementValue.{ElementValue, fresh, state_of}
use Rattle.element_core.specs.Rejoins.{IsRejoined, IsStateOf}
use Rattle.cluster.specs.declared.stations.Station.{Station}
use Rattle.cluster.specs.ClusterValue.{ClusterValue, element_in, element_at}
use Rattle.cluster.specs.Follows.{IsAtRest, Follows}

-- ---- what the elements tell of their agreed states

-- the bytes of an element's agreed state
abbrev pub bytes_told : ElementValue → List ℕ
bytes_told e = state_bytes e.kept.cycle e.kept.table e.kept.scoreboard

-- what each of n elements tells
abbrev pub state_told : List ElementValue → ℕ → Cell
state_told elements k = Some (bytes_told (element_in elements k))

abbrev pub states_told : ℕ → List ElementValue → List Cell
states_told n elements = each_below n (state_told elements)

-- What an element tells is a state, and has the width of one.
pub record TellsState (e : ElementValue) : Type 0 where
  pub row : IsRow 1887 (bytes_told e)
  pub state : IsStateOf (bytes_told e) (state_of e)

-- so it is of all
abbrev pub AllTellStates : {N : ℕ} → List (Station N) → Type 0
AllTellStates {N} stations = (k : ℕ) (d : Station N) → k < length stations → TellsState (slice_index_or stations k d).element

-- ---- one of them rejoins

-- the elements with another one at a place
abbrev pub replaced_at : List ElementValue → ℕ → ElementValue → List ElementValue
replaced_at elements ne e = change_at (λ before. e) elements ne

-- An element among n rejoins with what the others tell; the others stay.
pub record RejoinsAmong (n ne : ℕ) (olds : List ElementValue) (answer : Rejoined) (news : List ElementValue) : Type 0 where
  pub element : ElementValue
  pub rejoined : IsRejoined n (element_in olds ne) (states_told n olds) answer element
  pub elements : news ≡ replaced_at olds ne element

-- the cluster in which an element rejoined, and the next one is faulty from the coming cycle on
abbrev pub after_rejoining : ClusterValue → ℕ → ElementValue → Option ℕ → ClusterValue
after_rejoining c ne e next = record {
  first = c.first;
  faulty = next;
  rejoined = Some ne;
  remaining = c.remaining;
  acts_left = c.acts_left;
  elements = replaced_at c.elements ne e;
  journal = c.journal;
  delivered = c.delivered;
}

-- It is taken exactly where the others' states have a voted one: the element, reset on the first table, then takes it. Refused, exactly
-- where the element as it stands refuses them, it leaves the cluster as it was.
abbrev pub RejoinsAt : ClusterValue → ℕ → Option ℕ → Rejoined → ClusterValue → Type 0
RejoinsAt old ne next Taken new =
    (e : ElementValue) × IsRejoined old.first.n (fresh ne old.first) (states_told old.first.n old.elements) Taken e × (new ≡ after_rejoining old ne e next)
RejoinsAt old ne next Refused new =
    IsRejoined old.first.n (element_at old ne) (states_told old.first.n old.elements) Refused (element_at old ne) × (new ≡ old)

-- the faulty element rejoins
abbrev pub Rejoins : ClusterValue → Option ℕ → Rejoined → ClusterValue → Type 0
Rejoins old next answer new = (ne : ℕ) → old.faulty ≡ Some ne → RejoinsAt old ne next answer new

-- ---- what is kept

-- The faulty element of a cluster may rejoin: no other one did since the last cycle, and all tell states.
pub record MayRejoin (c : ClusterValue) (ne : ℕ) : Type 0 where
  pub rest : IsAtRest c
  pub faulty : c.faulty ≡ Some ne
  pub first : c.rejoined ≡ None
  pub tell : (k : ℕ) → k < c.first.n → TellsState (element_at c k)

-- Whatever was voted, the cluster rests again.
abbrev pub RejoinedRests : Type 0
RejoinedRests = (c : ClusterValue) (ne : ℕ) (e : ElementValue) (next : Option ℕ) → MayRejoin c ne → ((k : ℕ) → next ≡ Some k → k < c.first.n)
    → IsRejoined c.first.n (fresh ne c.first) (states_told c.first.n c.elements) Taken e → IsAtRest (after_rejoining c ne e next)

-- Where the cluster follows its run, the rejoin is taken, and it follows the run still.
abbrev pub RejoinedFollows : Type 0
RejoinedFollows = (c : ClusterValue) (ne : ℕ) (answer : Rejoined) (e : ElementValue) (next : Option ℕ) → MayRejoin c ne → Follows c
    → IsRejoined c.first.n (element_at c ne) (states_told c.first.n c.elements) answer e → (answer ≡ Taken) × Follows (after_rejoining c ne e next)
