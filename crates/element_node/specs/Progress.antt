-- How far a call came that reads and writes.
use Rattle.std.specs.Prelude.{◌≡◌, ℕ, ◌+◌, ◌<◌, ◌⊎◌, List, [], ◌++◌, Option, IfSome}
use Rattle.ftpp_outside.specs.Told.{Gives, Adds}
use Rattle.ftpp_base.specs.declared.element.Round.{Round}
use Rattle.ftpp_base.specs.declared.element.Round.TheVariants.{A1, A2, B1, B2}
use Rattle.element_node.specs.Dialog.{Dialog, after_text}
use Rattle.element_node.specs.Dialog.Outcome.{Waits, Breaks}
use Rattle.element_node.specs.Node.{Stopped, text_in}
use Rattle.element_node.specs.Node.Stopped.{WaitsIn, BreaksIn}
use Rattle.element_node.specs.declared.Halt.{Halt}
use Rattle.element_node.specs.declared.Halt.TheVariants.{Ended, Broken, Read, Write}
use Rattle.element_node.specs.declared.NodeEnd.{NodeEnd}
use Rattle.element_node.specs.declared.NodeEnd.TheVariants as end

-- Bytes were read and bytes were written, and `first` goes on as `last` with the bytes that follow.
pub record Between {A : Type 0} (first last : Dialog A) (left left_after written written_after : Option (List ℕ)) : Type 0 where
  pub read : List ℕ
  pub wrote : List ℕ
  pub given : Gives left read left_after
  pub added : Adds written wrote written_after
  pub leads : (bytes : List ℕ) → first (read ++ bytes) ≡ after_text wrote (last bytes)

-- Why it goes no further: the input ended where more bytes are due; the byte that was read last is the first that breaks the
-- input; a read failed where more bytes are due; or a write failed.
abbrev pub StopsAt : {A : Type 0} → Dialog A → Halt → Option (List ℕ) → Type 0
StopsAt last Ended left = (last [] ≡ Waits []) × IfSome left (λ bytes. bytes ≡ [])
StopsAt last (Broken code) left = (bytes : List ℕ) → last bytes ≡ Breaks code [] bytes
StopsAt last Read left = last [] ≡ Waits []
StopsAt last Write left = Unit {0}

-- A call that halted so came as far as it says.
abbrev pub Halts : {A : Type 0} → Dialog A → Halt → Option (List ℕ) → Option (List ℕ) → Option (List ℕ) → Option (List ℕ) → Type 0
Halts {A} first halt left left_after written written_after =
    (last : Dialog A) × Between first last left left_after written written_after × StopsAt last halt left_after

-- ---- a whole call

-- The input ended in a cycle, or its last byte is the first that breaks it, whatever follows.
abbrev pub EndsStream : (List ℕ → Stopped) → ℕ → List ℕ → List ℕ → ℕ → ℕ → Option (List ℕ) → Type 0
EndsStream node cycles read wrote cycle code left =
    ((code ≡ 1) × (cycle < cycles) × (node read ≡ WaitsIn cycle wrote) × IfSome left (λ bytes. bytes ≡ []))
    ⊎ ((bytes : List ℕ) → node (read ++ bytes) ≡ BreaksIn cycle code wrote bytes)

-- How the bytes that were read and written fit an end.
abbrev pub FitsEnd : (List ℕ → Stopped) → ℕ → List ℕ → List ℕ → NodeEnd → Option (List ℕ) → Type 0
FitsEnd node cycles read wrote end.Done left = (node read ≡ WaitsIn cycles wrote) × IfSome left (λ bytes. bytes ≡ [])
FitsEnd node cycles read wrote (end.Stream cycle code) left = EndsStream node cycles read wrote cycle code left
FitsEnd node cycles read wrote end.Read left = (cycle : ℕ) × (node read ≡ WaitsIn cycle wrote)
FitsEnd node cycles read wrote end.Write left = (rest : List ℕ) × (text_in (node read) ≡ wrote ++ rest)
FitsEnd node cycles read wrote end.Memory left = (read ≡ []) × (wrote ≡ [])

-- What a node that ended so read and wrote.
pub record Serves (node : List ℕ → Stopped) (cycles : ℕ) (end : NodeEnd) (left left_after written written_after : Option (List ℕ)) : Type 0 where
  pub read : List ℕ
  pub wrote : List ℕ
  pub given : Gives left read left_after
  pub added : Adds written wrote written_after
  pub fits : FitsEnd node cycles read wrote end left_after

-- Of a whole input it answers no Stream.
abbrev pub IsNoStream : NodeEnd → Type 0
IsNoStream end.Done = Unit {0}
IsNoStream (end.Stream cycle code) = ⊥
IsNoStream end.Read = Unit {0}
IsNoStream end.Write = Unit {0}
IsNoStream end.Memory = Unit {0}

-- These bytes are a whole input of that many cycles.
abbrev pub IsWholeInput : (List ℕ → Stopped) → ℕ → List ℕ → Type 0
IsWholeInput node cycles bytes = (text : List ℕ) × (node bytes ≡ WaitsIn cycles text)

-- the end of a node that halted in a cycle
abbrev pub end_in : ℕ → Halt → NodeEnd
end_in cycle Ended = end.Stream cycle 1
end_in cycle (Broken code) = end.Stream cycle code
end_in cycle Read = end.Read
end_in cycle Write = end.Write

-- the round after a round; after the last one comes the first of the next cycle
abbrev pub round_after : Round → Round
round_after A1 = A2
round_after A2 = B1
round_after B1 = B2
round_after B2 = A1

-- the cycle that an element is in after a round
abbrev pub cycle_after : Round → ℕ → ℕ
cycle_after A1 cycle = cycle
cycle_after A2 cycle = cycle
cycle_after B1 cycle = cycle
cycle_after B2 cycle = cycle + 1
