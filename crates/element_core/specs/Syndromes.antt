-- What an element notes of the others in a cycle.
use Rattle.std.specs.Prelude.{ℕ, Bool, true, not, ◌&&◌, List, [], ◌++◌, map, filter, Option, Some, None, if◌then◌else◌}
use Rattle.std.specs.List.{flat_map}
use Rattle.ftpp_base.specs.Lists.{below, others, cell_at, is_this}
use Rattle.ftpp_base.specs.Sets.{has}
use Rattle.bit_vote.specs.Vote.{Cell, same_cell}
use Rattle.bit_vote.specs.Agreed.{FirstRound, agreed, copy_at}
use Rattle.config_table.specs.declared.decisions.Kind.{Kind}
use Rattle.config_table.specs.declared.decisions.Kind.TheVariants.{Voted, Source, Every}
use Rattle.config_table.specs.declared.decisions.Service.{Service}
use Rattle.config_table.specs.declared.decisions.Decision.{Decision}
use Rattle.config_table.specs.declared.decisions.Decision.TheVariants.{Idle, Discard, Exchange}
use Rattle.flag_vote.specs.Flags.{has_space}
use Rattle.data_exchange.specs.Entries.{entry_at}
use Rattle.syndrome_log.specs.declared.Syndrome.{Syndrome}
use Rattle.syndrome_log.specs.declared.SyndromeKind.{SyndromeKind}
use Rattle.syndrome_log.specs.declared.SyndromeKind.TheVariants as kind
use Rattle.syndrome_log.specs.Log.{noted}
pub use Rattle.config_table.specs.Members.{stands_at, is_left_out, has_three}
pub use Rattle.element_notes.specs.Notes.{accused_where, differs}
use Rattle.element_core.specs.Cycle.{Shown, receivers}
use Rattle.element_core.specs.Sent.{is_relayed}

-- What the faulty element's frames of A2 and of B2 to one element read as.
pub record Relays : Type 0 where
  pub patterns : List Cell
  pub packets : List Cell

-- the cell about a sender that a relay's frame reads as: its copy, or what the faulty element said
abbrev pub relayed_cell : FirstRound → List Cell → ℕ → ℕ → Cell
relayed_cell round said relay sender =
    if is_this round.faulty relay then cell_at said sender else copy_at round relay sender

-- whether an element's copy of a sender that counts differs from the agreed value
abbrev pub is_wrong_copy : FirstRound → (ℕ → Bool) → ℕ → ℕ → Bool
is_wrong_copy round counts me s = counts s && not (same_cell (copy_at round me s) (agreed round s))

-- whether a relay's cell about a sender that counts differs from the agreed value
abbrev pub is_wrong_relay : FirstRound → List Cell → (ℕ → Bool) → ℕ → ℕ → Bool
is_wrong_relay round said counts relay s = counts s && not (same_cell (relayed_cell round said relay s) (agreed round s))

-- the senders whose first copy at an element differs from the agreed value
abbrev pub first_copies : ℕ → SyndromeKind → FirstRound → ℕ → ℕ → (ℕ → Bool) → List Syndrome
first_copies cycle kind round n me counts = accused_where cycle kind (is_wrong_copy round counts me) (others n me)

-- the senders about whom a relay's cell differs from the agreed value
abbrev pub copies_by : ℕ → SyndromeKind → FirstRound → List Cell → ℕ → (ℕ → Bool) → ℕ → List Syndrome
copies_by cycle kind round said n counts relay =
    map (λ s. noted cycle kind relay s) (filter (is_wrong_relay round said counts relay) (others n relay))

-- the same of all relays
abbrev pub relayed_copies : ℕ → SyndromeKind → FirstRound → List Cell → ℕ → ℕ → (ℕ → Bool) → List Syndrome
relayed_copies cycle kind round said n me counts = flat_map (copies_by cycle kind round said n counts) (others n me)

-- the live members of the served or discarded group that are not admitted
abbrev pub absent_members : Shown → Decision → List Syndrome
absent_members shown Idle = []
absent_members shown (Discard vid desc number admitted waited) =
    accused_where shown.cycle kind.R (is_left_out shown.table vid admitted) (below shown.table.n)
absent_members shown (Exchange service) =
    accused_where shown.cycle kind.R (is_left_out shown.table service.vid service.admitted) (below shown.table.n)

-- whether a live member of the destination is at the element and says full
abbrev pub is_full_at : Shown → Service → ℕ → Bool
is_full_at shown service ne = stands_at (filter (λ proc. not (has_space shown.pattern proc)) (receivers shown.table service)) ne

-- the live members of the destination that say full
abbrev pub full_members : Shown → Decision → List Syndrome
full_members shown Idle = []
full_members shown (Discard vid desc number admitted waited) = []
full_members shown (Exchange service) = accused_where shown.cycle kind.O (is_full_at shown service) (below shown.table.n)

-- the value of an element that is compared with the result, where the kind compares
abbrev pub compared : Shown → Service → Kind → ℕ → ℕ → Option Cell
compared shown service Voted me ne = Some (copy_at shown.packets me ne)
compared shown service (Source s) me ne = None
compared shown service Every me ne = if has_three shown.table service.vid then Some (agreed shown.packets ne) else None

-- whether an element's member is admitted and its value differs from the result
abbrev pub is_outvoted : Shown → Service → ℕ → ℕ → Bool
is_outvoted shown service me ne =
    has service.admitted ne && differs (entry_at shown.table service shown.packets me) (compared shown service service.kind me ne)

-- the admitted members whose value differs from the result
abbrev pub outvoted_members : Shown → ℕ → Decision → List Syndrome
outvoted_members shown me Idle = []
outvoted_members shown me (Discard vid desc number admitted waited) = []
outvoted_members shown me (Exchange service) = accused_where shown.cycle kind.V (is_outvoted shown service me) (below shown.table.n)

-- all that an element notes in a cycle, in order
unfoldable pub syndromes_at : Shown → Relays → ℕ → List Syndrome
syndromes_at shown said me =
    first_copies shown.cycle kind.P1 shown.patterns shown.table.n me (λ s. true)
    ++ relayed_copies shown.cycle kind.P2 shown.patterns said.patterns shown.table.n me (λ s. true)
    ++ absent_members shown shown.decision
    ++ full_members shown shown.decision
    ++ first_copies shown.cycle kind.D1 shown.packets shown.table.n me (is_relayed shown.decision)
    ++ relayed_copies shown.cycle kind.D2 shown.packets said.packets shown.table.n me (is_relayed shown.decision)
    ++ outvoted_members shown me shown.decision
