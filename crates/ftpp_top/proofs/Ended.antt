-- What a run over an honest fabric writes.
use Rattle.std.proofs.Common.{Bool, true, false, List, ℕ, refl}
use Rattle.std.specs.Prelude.{Option, IsTrue, if◌then◌else◌}
use Rattle.ftpp_outside.specs.Told.{Adds}
use Rattle.command_steps.specs.Ends.{Exactly, Anything, AddsPrefix, Writes, WritesPart}

pub shown_whole : (honest : Bool) (text : List ℕ) (old new : Option (List ℕ)) → (IsTrue honest → Adds old text new) → Writes (if honest then Exactly text else Anything) old new
shown_whole true text old new h = h refl
shown_whole false text old new h = tt

pub shown_cut : (honest : Bool) (text : List ℕ) (old new : Option (List ℕ)) → (IsTrue honest → AddsPrefix old text new) → WritesPart (if honest then Exactly text else Anything) old new
shown_cut true text old new h = h refl
shown_cut false text old new h = tt
