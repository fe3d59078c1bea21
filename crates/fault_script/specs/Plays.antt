-- What an adversary does that tells its edits and the frames that it keeps.
use Rattle.std.specs.Prelude.{◌≡◌, ◌≢◌, ℕ, List, [], ◌∷◌, Option, Some, None}
use Rattle.ftpp_base.specs.declared.element.Round.{Round}
use Rattle.ftpp_base.specs.declared.element.Slot.{Slot}
use Rattle.fault_script.specs.declared.Edit.{Edit}
use Rattle.fault_script.specs.Edited.{edited_frame}
use Rattle.fault_script.specs.Kept.{KeptFrames, kept_with, repeated}

-- Its edits, and the frames that it keeps of each round.
pub record Told : Type 0 where
  pub edits : List Edit
  pub kept : Round → KeptFrames

-- the kept frames of a round after a call for it: only where there are edits is a frame kept
abbrev pub kept_by_call : List Edit → KeptFrames → ℕ → List ℕ → KeptFrames
kept_by_call [] kept cycle own = kept
kept_by_call (edit ∷ edits) kept cycle own = kept_with kept cycle own

-- one call, for the frame of a slot to a receiver
pub record PlaysTold (old : Told) (at : Slot) (to : ℕ) (own got : List ℕ) (new : Told) : Type 0 where
  pub edits : new.edits ≡ old.edits
  pub kept : new.kept at.round ≡ kept_by_call old.edits (old.kept at.round) at.cycle own
  pub others : (round : Round) → round ≢ at.round → new.kept round ≡ old.kept round
  pub frame : got ≡ edited_frame old.edits at to (repeated (new.kept at.round) at.cycle own) own

-- where the meanings are told before a call they are told after it
abbrev pub Plays : Option Told → Slot → ℕ → List ℕ → List ℕ → Option Told → Type 0
Plays None at to own got new = Unit {0}
Plays (Some old) at to own got None = ⊥
Plays (Some old) at to own got (Some new) = PlaysTold old at to own got new
