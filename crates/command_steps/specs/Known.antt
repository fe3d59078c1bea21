-- What is known of a step of a call, by what its source and its shelf tell.
use Rattle.std.specs.Prelude.{◌≡◌, ℕ, List, Option, Result, Ok, Err}
use Rattle.command_steps.specs.declared.status.Status.{Status}
use Rattle.command_steps.specs.declared.status.Status.TheVariants.{Done, Usage, Script, Config, Read, Write, Memory, TooLong, Stream}
use Rattle.command_steps.specs.Ends.{Outcome, Ends}

-- Nothing, where what the step reads is not told; that the call ends there, and how; or what the step gives.
pub data Known (A : Type 0) : Type 0 where
  Untold : Known A
  Ending : Outcome → Known A
  Given : A → Known A

-- a step after a step
infixl 10 ◌>>=◌
abbrev pub ◌>>=◌ : {A B : Type 0} → Known A → (A → Known B) → Known B
Untold >>= f = Untold
(Ending o) >>= f = Ending o
(Given x) >>= f = f x

-- a step gives nothing but what is known
abbrev pub IsKnown : {A : Type 0} → Known A → A → Type 0
IsKnown Untold x = Unit {0}
IsKnown (Ending o) x = ⊥
IsKnown (Given y) x = x ≡ y

-- a fault or want of memory, before anything is written
abbrev pub IsHalt : Status → Type 0
IsHalt Read = Unit {0}
IsHalt Memory = Unit {0}
IsHalt Write = ⊥
IsHalt Done = ⊥
IsHalt Usage = ⊥
IsHalt TooLong = ⊥
IsHalt (Script line code) = ⊥
IsHalt (Config code) = ⊥
IsHalt (Stream cycle code) = ⊥

-- what a call ends with where a table or a script is loaded
abbrev pub IsRefusal : Status → Type 0
IsRefusal Read = Unit {0}
IsRefusal Memory = Unit {0}
IsRefusal Write = Unit {0}
IsRefusal TooLong = Unit {0}
IsRefusal (Script line code) = Unit {0}
IsRefusal (Config code) = Unit {0}
IsRefusal Done = ⊥
IsRefusal Usage = ⊥
IsRefusal (Stream cycle code) = ⊥

-- the call ends at a step
abbrev pub Stops : {A : Type 0} → Known A → Status → Option (List ℕ) → Option (List ℕ) → Type 0
Stops Untold status old new = Unit {0}
Stops (Ending o) status old new = Ends o status old new
Stops (Given x) status old new = IsHalt status × (new ≡ old)

-- What a step does: it gives a value and writes nothing, or the call ends there. `view` sees the value that is given.
abbrev pub Steps : {A B : Type 0} → (B → A) → Known A → Result B Status → Option (List ℕ) → Option (List ℕ) → Type 0
Steps view known (Ok x) old new = IsKnown known (view x) × (new ≡ old)
Steps view known (Err status) old new = Stops known status old new

-- How a call ends, where it is known.
abbrev pub EndsAs : Known Outcome → Status → Option (List ℕ) → Option (List ℕ) → Type 0
EndsAs Untold status old new = Unit {0}
EndsAs (Ending o) status old new = Ends o status old new
EndsAs (Given o) status old new = Ends o status old new
