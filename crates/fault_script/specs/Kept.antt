-- The frames that are kept so that they can be repeated.
use Rattle.std.specs.Prelude.{◌≡◌, ℕ, ◌+◌, Bool, false, ◌&&◌, ◌==◌, List, [], ◌∷◌, slice_get, Option, Some, None, if◌then◌else◌}

-- A frame before it was edited, with its cycle.
pub record KeptFrame : Type 0 where
  pub cycle : ℕ
  pub bytes : List ℕ

-- Of one round: the frame of the cycle now running, and that of the cycle before.
pub record KeptFrames : Type 0 where
  pub now : Option KeptFrame
  pub before : Option KeptFrame

-- the frame of the cycle before, where the one that stood there is of an earlier cycle than `cycle`
abbrev pub before_with : KeptFrames → ℕ → Option KeptFrame → Option KeptFrame
before_with kept cycle None = kept.before
before_with kept cycle (Some one) = if one.cycle == cycle then kept.before else Some one

-- with a frame of a cycle: it takes the place of one of the same cycle, and one of another cycle moves back
abbrev pub kept_with : KeptFrames → ℕ → List ℕ → KeptFrames
kept_with kept cycle bytes = record {
  now = Some (record { cycle = cycle; bytes = bytes });
  before = before_with kept cycle kept.now;
}

-- whether two frames name the same sender, in the byte behind the kind and the cycle
abbrev pub same_byte : Option ℕ → Option ℕ → Bool
same_byte None other = false
same_byte (Some one) None = false
same_byte (Some one) (Some other) = one == other

abbrev pub same_sender : List ℕ → List ℕ → Bool
same_sender one other = same_byte (slice_get one 5) (slice_get other 5)

-- the frame that a repeat sends: that of the cycle just before, where the same element was faulty in it
abbrev pub repeated_from : Option KeptFrame → ℕ → List ℕ → List ℕ
repeated_from None cycle own = []
repeated_from (Some one) cycle own = if one.cycle + 1 == cycle && same_sender one.bytes own then one.bytes else []

abbrev pub repeated : KeptFrames → ℕ → List ℕ → List ℕ
repeated kept cycle own = repeated_from kept.before cycle own
