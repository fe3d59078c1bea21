-- How an element rejoins: by the vote over what the others tell of their agreed states.
use Rattle.std.specs.Prelude.{◌≡◌, ◌≢◌, ℕ, ◌<◌, ◌⊎◌, List, map, Some}
use Rattle.ftpp_base.specs.Lists.{cell_at, others}
use Rattle.bit_vote.specs.Vote.{Cell, IsCell, vote}
use Rattle.rejoin.specs.State.{IsState}
use Rattle.element_core.specs.Run.{AgreedState}
use Rattle.element_core.specs.declared.Rejoined.{Rejoined}
use Rattle.element_core.specs.declared.Rejoined.TheVariants.{Taken, Refused}
use Rattle.element_core.specs.ElementValue.{ElementValue, rejoined_with}

-- the bytes are those of the agreed state
abbrev pub IsStateOf : List ℕ → AgreedState → Type 0
IsStateOf bytes state = IsState bytes state.cycle state.table state.scoreboard

-- the vote over the entries of the other elements, ascending
unfoldable pub others_vote : ℕ → ℕ → List Cell → Cell
others_vote n me states = vote (map (cell_at states) (others n me))

-- The others' states give, by their vote, the bytes of a state among as many elements.
pub record IsVotedState (n me : ℕ) (states : List Cell) (state : AgreedState) : Type 0 where
  pub bytes : List ℕ
  pub voted : others_vote n me states ≡ Some bytes
  pub is_state : IsStateOf bytes state
  pub size : state.table.n ≡ n

-- It is taken where there is such a state, and the element then begins from it. Else nothing changes.
abbrev pub IsRejoined : ℕ → ElementValue → List Cell → Rejoined → ElementValue → Type 0
IsRejoined n before states Taken after = (state : AgreedState) × IsVotedState n before.kept.me states state × (after ≡ rejoined_with before.kept.me state)
IsRejoined n before states Refused after = ((state : AgreedState) → IsVotedState n before.kept.me states state → ⊥) × (after ≡ before)

-- Where all entries of the others but at most one are the bytes of one state among as many elements, that is the voted one.
abbrev pub CommonStateIsVoted : Type 0
CommonStateIsVoted = (n me odd : ℕ) (bytes : List ℕ) (states : List Cell) (state : AgreedState) → (n ≡ 4) ⊎ (n ≡ 5) → me < n
    → IsCell 1887 (Some bytes) → IsCell 1887 (cell_at states odd)
    → ((k : ℕ) → k < n → k ≢ me → k ≢ odd → cell_at states k ≡ Some bytes)
    → IsStateOf bytes state → state.table.n ≡ n → IsVotedState n me states state

-- Where there is a voted state, an element that rejoins takes it.
abbrev pub VotedStateIsTaken : Type 0
VotedStateIsTaken = (n : ℕ) (before after : ElementValue) (states : List Cell) (answer : Rejoined) (state : AgreedState)
    → IsVotedState n before.kept.me states state → IsRejoined n before states answer after
    → (answer ≡ Taken) × (after ≡ rejoined_with before.kept.me state)
