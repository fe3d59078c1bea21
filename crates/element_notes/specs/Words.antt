-- The words of the clauses of this crate's parts.
use Rattle.std.specs.Prelude.{◌≡◌, ℕ, ◌<◌, ◌≤◌, Bool, false, not, ◌==◌, ◌&&◌, List, filter, map, Option, Some, None, if◌then◌else◌}
use Rattle.ftpp_base.specs.Lists.{below, cell_at}
use Rattle.ftpp_base.specs.Sets.{has}
use Rattle.ftpp_base.specs.declared.element.Proc.{Proc}
use Rattle.ftpp_base.specs.declared.sets.Set8.{Set8}
use Rattle.packet_format.specs.declared.Packet.{Packet}
use Rattle.bit_vote.specs.Vote.{Cell, same_cell}
use Rattle.two_round.specs.Echoes.{Echoes, word_of, result_for}
use Rattle.config_table.specs.declared.decisions.Kind.{Kind}
use Rattle.config_table.specs.declared.decisions.Kind.TheVariants.{Voted, Source, Every}
use Rattle.config_table.specs.declared.decisions.Decision.{Decision}
use Rattle.config_table.specs.declared.decisions.Decision.TheVariants.{Idle, Discard, Exchange}
use Rattle.config_table.specs.Table.{TableValue}
use Rattle.config_table.specs.Members.{is_left_out, has_three}
use Rattle.local_pattern.specs.Columns.{Pattern, has_space}
use Rattle.syndrome_log.specs.declared.Syndrome.{Syndrome}
use Rattle.syndrome_log.specs.Log.{noted}
use Rattle.element_notes.specs.Notes.{says_full_at, is_off_value}
use Rattle.element_notes.specs.AtHand.{AreResults}
use Rattle.element_notes.specs.declared.entries.Heading.{Heading}
use Rattle.element_notes.specs.declared.entries.Accused.{Accused}
use Rattle.element_notes.specs.declared.entries.Accused.TheVariants.{Itself, Relay}
use Rattle.element_notes.specs.declared.members.Lack.{Lack}
use Rattle.element_notes.specs.declared.members.Lack.TheVariants.{Admission, Space}
use Rattle.element_notes.specs.declared.values.Compared.{Compared}
use Rattle.element_notes.specs.declared.values.Compared.TheVariants.{Copies, Results, Nothing}

-- who is accused of what was seen about an element
abbrev pub accused_by : Accused → ℕ → ℕ
accused_by Itself ne = ne
accused_by (Relay relay) ne = relay

-- the entry about an element
abbrev pub entry_about : Heading → Accused → ℕ → Syndrome
entry_about heading accused ne = noted heading.cycle heading.kind (accused_by accused ne) ne

-- the entries about the elements of a set among n
abbrev pub entries_about : Heading → Accused → ℕ → Set8 → List Syndrome
entries_about heading accused n nes = map (entry_about heading accused) (filter (has nes) (below n))

-- whether an element's word about another sender, which counts, differs from the result
abbrev pub is_off_word : Echoes → Set8 → ℕ → ℕ → Bool
is_off_word x counts of s = not (s == of) && (has counts s && not (same_cell (word_of x s of) (result_for x s)))

-- An element's own number, and its results, go with what it holds of an exchange.
pub record IsWhole (n me : ℕ) (x : Echoes) (counts : Set8) (results : List Cell) : Type 0 where
  pub few : n ≤ 5
  pub among : me < n
  pub own : x.me ≡ me
  pub are : AreResults n x (has counts) results

-- ---- members

-- whether a member lacks it
abbrev pub lacks : Pattern → Lack → Proc → Bool
lacks pattern (Admission admitted) proc = not (has admitted proc.ne)
lacks pattern Space proc = not (has_space pattern proc)

-- whether a live member of the served or discarded group stands at the element and is not admitted
abbrev pub is_absent : TableValue → Decision → ℕ → Bool
is_absent table Idle ne = false
is_absent table (Discard vid desc number admitted waited) ne = is_left_out table vid admitted ne
is_absent table (Exchange service) ne = is_left_out table service.vid service.admitted ne

-- whether a live member of the destination stands there and says full
abbrev pub is_full : TableValue → Pattern → Decision → ℕ → Bool
is_full table pattern Idle ne = false
is_full table pattern (Discard vid desc number admitted waited) ne = false
is_full table pattern (Exchange service) ne = says_full_at table pattern service ne

-- whether an admitted member stands there and its value differs from the entry
abbrev pub is_off : TableValue → Echoes → Decision → Cell → ℕ → Bool
is_off table x Idle entry ne = false
is_off table x (Discard vid desc number admitted waited) entry ne = false
is_off table x (Exchange service) entry ne = is_off_value table service x entry ne

-- ---- values

-- what an exchange of that kind compares, of the members of a group
abbrev pub compared_in : TableValue → ℕ → Kind → Compared
compared_in table vid Voted = Copies
compared_in table vid (Source s) = Nothing
compared_in table vid Every = if has_three table vid then Results else Nothing

-- whether that differs from the entry
abbrev pub value_differs : Echoes → List Cell → Compared → Cell → ℕ → Bool
value_differs x results Copies entry ne = not (same_cell (cell_at x.copies ne) entry)
value_differs x results Results entry ne = not (same_cell (cell_at results ne) entry)
value_differs x results Nothing entry ne = false

-- whether the member is one of the admitted, and it does
abbrev pub is_off_member : Echoes → List Cell → Compared → Cell → Set8 → ℕ → Bool
is_off_member x results compared entry admitted ne = has admitted ne && value_differs x results compared entry ne

-- the row of a packet
abbrev pub row_in : Option Packet → Cell
row_in None = None
row_in (Some packet) = Some packet.bytes
