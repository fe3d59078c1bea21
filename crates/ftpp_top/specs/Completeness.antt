-- That a call on which nothing fails, and of which nothing is refused, is done.
use Rattle.std.specs.Prelude.{◌≡◌, ◌⊎◌, ℕ, List, Option, Some, Ok}
use Rattle.trace_audit.specs.AuditedTrace.{trace_of}
use Rattle.element_node.specs.Node.{node}
use Rattle.element_node.specs.Progress.{IsWholeInput}
use Rattle.command_steps.specs.declared.status.Status.{Status}
use Rattle.command_steps.specs.declared.status.Status.TheVariants.{Done, Read, Write, Memory}
use Rattle.command_steps.specs.Ends.{Output, Writes, done_with}
use Rattle.command_steps.specs.Known.{Given, EndsAs}
use Rattle.ftpp_top.specs.Audited.{Audited, Judged}
use Rattle.ftpp_top.specs.Served.{NodeRun, Served}

-- a read or a write failed
abbrev pub HasFailed : Status → Type 0
HasFailed status = (status ≡ Read) ⊎ (status ≡ Write)

-- All is done, or memory was wanting and nothing was written.
abbrev pub IsDone : Output → Status → Option (List ℕ) → Option (List ℕ) → Type 0
IsDone output status old new = ((status ≡ Done) × Writes output old new) ⊎ ((status ≡ Memory) × (new ≡ old))

-- what comes of a call that is to be done
abbrev pub DoneIfNoneFails : Type 0
DoneIfNoneFails = (output : Output) (status : Status) (old new : Option (List ℕ)) → EndsAs (Given (done_with output)) status old new
    → (HasFailed status → ⊥) → IsDone output status old new

-- of an audit whose text is a trace
abbrev pub AuditedIfNoneFails : Type 0
AuditedIfNoneFails = (a : Audited) (trace : List (List ℕ)) (status : Status) (old new : Option (List ℕ)) → Judged (Given a) status old new
    → trace_of a.table.n a.bytes ≡ Ok trace → (HasFailed status → ⊥) → (status ≡ Done) ⊎ ((status ≡ Memory) × (new ≡ old))

-- and of a node whose input is whole
abbrev pub ServedIfNoneFails : Type 0
ServedIfNoneFails = (r : NodeRun) (bytes : List ℕ) (status : Status) (left_after old new : Option (List ℕ)) → Served (Given r) status (Some bytes) left_after old new
    → IsWholeInput (node r.element r.table r.cycles) r.cycles bytes → (HasFailed status → ⊥) → (status ≡ Done) ⊎ ((status ≡ Memory) × (left_after ≡ Some bytes))
