-- What an element notes of the others in a cycle, by its own copies, results and relayed cells, and the entry that it came to.
use Rattle.std.specs.Prelude.{ℕ, Bool, true, false, not, ◌&&◌, List, [], ◌++◌, map, filter, Option, Some, None, if◌then◌else◌}
use Rattle.std.specs.List.{flat_map}
use Rattle.ftpp_base.specs.Lists.{below, others, cell_at}
use Rattle.ftpp_base.specs.Sets.{has}
use Rattle.bit_vote.specs.Vote.{Cell, same_cell}
use Rattle.two_round.specs.Echoes.{Echoes, relayed_at, result_for}
use Rattle.config_table.specs.declared.decisions.Kind.{Kind}
use Rattle.config_table.specs.declared.decisions.Kind.TheVariants.{Voted, Source, Every}
use Rattle.config_table.specs.declared.decisions.Service.{Service}
use Rattle.config_table.specs.declared.decisions.Decision.{Decision}
use Rattle.config_table.specs.declared.decisions.Decision.TheVariants.{Idle, Discard, Exchange}
use Rattle.config_table.specs.Table.{TableValue}
use Rattle.config_table.specs.Members.{receivers, stands_at, is_left_out, has_three}
use Rattle.config_table.specs.Kinds.{is_relayed}
use Rattle.local_pattern.specs.Columns.{Pattern, has_space}
use Rattle.syndrome_log.specs.declared.Syndrome.{Syndrome}
use Rattle.syndrome_log.specs.declared.SyndromeKind.{SyndromeKind}
use Rattle.syndrome_log.specs.declared.SyndromeKind.TheVariants as kind
use Rattle.syndrome_log.specs.Log.{noted}

-- of some elements, those that the test passes, each accused alone
abbrev pub accused_where : ℕ → SyndromeKind → (ℕ → Bool) → List ℕ → List Syndrome
accused_where cycle kind test nes = map (λ ne. noted cycle kind ne ne) (filter test nes)

-- ---- copies and relayed cells

-- whether its copy of a sender that counts differs from its result
abbrev pub is_off_copy : Echoes → (ℕ → Bool) → ℕ → Bool
is_off_copy echoes counts s = counts s && not (same_cell (cell_at echoes.copies s) (result_for echoes s))

-- whether a relay's cell about a sender that counts differs from its result
abbrev pub is_off_relay : Echoes → (ℕ → Bool) → ℕ → ℕ → Bool
is_off_relay echoes counts relay s = counts s && not (same_cell (relayed_at echoes relay s) (result_for echoes s))

-- the senders whose copy differs from its result
abbrev pub off_copies : ℕ → SyndromeKind → Echoes → ℕ → (ℕ → Bool) → List Syndrome
off_copies cycle kind echoes n counts = accused_where cycle kind (is_off_copy echoes counts) (others n echoes.me)

-- the senders about whom a relay's cell differs from its result, and the same of all relays
abbrev pub off_by : ℕ → SyndromeKind → Echoes → ℕ → (ℕ → Bool) → ℕ → List Syndrome
off_by cycle kind echoes n counts relay = map (λ s. noted cycle kind relay s) (filter (is_off_relay echoes counts relay) (others n relay))

abbrev pub off_relays : ℕ → SyndromeKind → Echoes → ℕ → (ℕ → Bool) → List Syndrome
off_relays cycle kind echoes n counts = flat_map (off_by cycle kind echoes n counts) (others n echoes.me)

-- ---- members

-- the live members of the served or discarded group that are not admitted
abbrev pub absent_ones : ℕ → TableValue → Decision → List Syndrome
absent_ones cycle table Idle = []
absent_ones cycle table (Discard vid desc number admitted waited) = accused_where cycle kind.R (is_left_out table vid admitted) (below table.n)
absent_ones cycle table (Exchange service) = accused_where cycle kind.R (is_left_out table service.vid service.admitted) (below table.n)

-- the live members of the destination that say full
abbrev pub says_full_at : TableValue → Pattern → Service → ℕ → Bool
says_full_at table pattern service ne = stands_at (filter (λ proc. not (has_space pattern proc)) (receivers table service)) ne

abbrev pub full_ones : ℕ → TableValue → Pattern → Decision → List Syndrome
full_ones cycle table pattern Idle = []
full_ones cycle table pattern (Discard vid desc number admitted waited) = []
full_ones cycle table pattern (Exchange service) = accused_where cycle kind.O (says_full_at table pattern service) (below table.n)

-- ---- values

-- whether a value that is compared, if there is one, differs from the entry
abbrev pub differs : Cell → Option Cell → Bool
differs entry None = false
differs entry (Some cell) = not (same_cell cell entry)

-- its value of an element that is compared with the entry, where the kind compares
abbrev pub own_compared : TableValue → Service → Echoes → Kind → ℕ → Option Cell
own_compared table service echoes Voted ne = Some (cell_at echoes.copies ne)
own_compared table service echoes (Source s) ne = None
own_compared table service echoes Every ne = if has_three table service.vid then Some (result_for echoes ne) else None

-- whether an element's member is admitted and its value differs from the entry
abbrev pub is_off_value : TableValue → Service → Echoes → Cell → ℕ → Bool
is_off_value table service echoes entry ne = has service.admitted ne && differs entry (own_compared table service echoes service.kind ne)

-- the admitted members whose value differs from the entry
abbrev pub off_values : ℕ → TableValue → Echoes → Decision → Cell → List Syndrome
off_values cycle table echoes Idle entry = []
off_values cycle table echoes (Discard vid desc number admitted waited) entry = []
off_values cycle table echoes (Exchange service) entry = accused_where cycle kind.V (is_off_value table service echoes entry) (below table.n)

-- ---- the cycle

-- all that it notes in a cycle with this agreed pattern and decision, in order: by the exchange of patterns, and by that of
-- packets with its entry
unfoldable pub notes_of : ℕ → TableValue → Pattern → Decision → Echoes → Echoes → Cell → List Syndrome
notes_of cycle table pattern decision patterns packets entry =
    off_copies cycle kind.P1 patterns table.n (λ s. true)
    ++ off_relays cycle kind.P2 patterns table.n (λ s. true)
    ++ absent_ones cycle table decision
    ++ full_ones cycle table pattern decision
    ++ off_copies cycle kind.D1 packets table.n (is_relayed decision)
    ++ off_relays cycle kind.D2 packets table.n (is_relayed decision)
    ++ off_values cycle table packets decision entry
