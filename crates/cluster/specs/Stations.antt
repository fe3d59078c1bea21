-- Elements with their links, before and after a step, and what was carried between them.
use Rattle.std.specs.Prelude.{◌≡◌, ◌≢◌, ℕ, ◌<◌, List, length, map, slice_index_or}
use Rattle.ftpp_base.specs.declared.element.Round.{Round}
use Rattle.ftpp_base.specs.declared.element.Round.TheVariants.{A1}
use Rattle.ftpp_base.specs.declared.limits.TheConstants.{MOST_CYCLES}
use Rattle.link_fabric.specs.Ends.{came_of, leaves_of}
use Rattle.element_core.specs.declared.Due.{Due}
use Rattle.element_core.specs.declared.Due.TheVariants.{Emit, Absorb}
use Rattle.element_core.specs.ElementValue.{ElementValue, after_emit, after_absorb, frame_of, frames_in}
use Rattle.cluster.specs.Delivered.{frame_in}
use Rattle.cluster.specs.declared.stations.Station.{Station}

module _ {N : ℕ} where
  -- the frame that came to an element from a sender, and the one that leaves it for a receiver
  abbrev pub came_at : Station N → ℕ → List ℕ
  came_at s from = frames_in (came_of s.link) from

  abbrev pub leaves_at : Station N → ℕ → List ℕ
  leaves_at s to = frames_in (leaves_of s.link) to

  -- An element sent its frame of a round.
  pub record Emits (round : Round) (old new : Station N) : Type 0 where
    pub element : new.element ≡ after_emit round old.element
    pub owner : new.link.owner ≡ old.link.owner
    pub frames : (to : ℕ) → to < N → to ≢ old.element.kept.me → leaves_at new to ≡ frame_of old.element round

  -- An element took the frames that came.
  pub record Absorbs (round : Round) (old new : Station N) : Type 0 where
    pub element : new.element ≡ after_absorb round (frames_in (came_of old.link)) old.element
    pub owner : new.link.owner ≡ old.link.owner

  -- an element took a step
  abbrev pub Steps : Due → Station N → Station N → Type 0
  Steps (Emit round) old new = Emits round old new
  Steps (Absorb round) old new = Absorbs round old new

  -- An element is about to take a step.
  pub record IsReady (due : Due) (s : Station N) : Type 0 where
    pub due_is : s.element.due ≡ due
    pub owner : s.link.owner ≡ s.element.kept.me
    pub cycle : s.element.kept.cycle < MOST_CYCLES

  -- the same of all elements
  abbrev pub AllReady : Due → List (Station N) → Type 0
  AllReady due stations = (k : ℕ) (d : Station N) → k < length stations → IsReady due (slice_index_or stations k d)

  abbrev pub AllStep : Due → List (Station N) → List (Station N) → Type 0
  AllStep due olds news = (k : ℕ) (d : Station N) → k < length olds → Steps due (slice_index_or olds k d) (slice_index_or news k d)

  -- each element stands in its own place, and its link is its own
  abbrev pub AllPlaced : List (Station N) → Type 0
  AllPlaced stations = (k : ℕ) (d : Station N) → k < length stations → (slice_index_or stations k d).link.owner ≡ k

  -- An element took the frames of a round where they were delivered, by sender and receiver.
  pub record Takes (round : Round) (rows : List (List (List ℕ))) (old new : Station N) : Type 0 where
    pub element : new.element ≡ after_absorb round (λ s. frame_in rows s old.link.owner) old.element
    pub owner : new.link.owner ≡ old.link.owner

  abbrev pub AllTake : Round → List (List (List ℕ)) → List (Station N) → List (Station N) → Type 0
  AllTake round rows olds news = (k : ℕ) (d : Station N) → k < length olds → Takes round rows (slice_index_or olds k d) (slice_index_or news k d)

  -- The frames that were delivered to an element came to its link, and the element stays.
  pub record Receives (rows : List (List (List ℕ))) (old new : Station N) : Type 0 where
    pub element : new.element ≡ old.element
    pub owner : new.link.owner ≡ old.link.owner
    pub came : (from : ℕ) → from < N → from ≢ old.link.owner → came_at new from ≡ frame_in rows from old.link.owner

  abbrev pub AllReceive : List (List (List ℕ)) → List (Station N) → List (Station N) → Type 0
  AllReceive rows olds news = (k : ℕ) (d : Station N) → k < length olds → Receives rows (slice_index_or olds k d) (slice_index_or news k d)

  -- the elements alone
  abbrev pub elements_of : List (Station N) → List ElementValue
  elements_of stations = map (λ (s : Station N). s.element) stations

  -- An element rests in its place before a cycle.
  pub record Rests (cycle place : ℕ) (s : Station N) : Type 0 where
    pub me : s.element.kept.me ≡ place
    pub owner : s.link.owner ≡ place
    pub due : s.element.due ≡ Emit A1
    pub number : s.element.kept.cycle ≡ cycle

  abbrev pub AllRest : ℕ → List (Station N) → Type 0
  AllRest cycle stations = (k : ℕ) (d : Station N) → k < length stations → Rests cycle k (slice_index_or stations k d)
