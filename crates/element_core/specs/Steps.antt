-- What holds of one element step by step, whatever frames come.
use Rattle.std.specs.Prelude.{◌≡◌, ℕ, ◌<◌, ◌≤◌, List, [], length, slice_index_or}
use Rattle.ftpp_base.specs.Lists.{each_below, cell_at}
use Rattle.ftpp_base.specs.declared.element.Round.{Round}
use Rattle.ftpp_base.specs.declared.element.Round.TheVariants.{A1, A2, B1, B2}
use Rattle.element_core.specs.Element.{Kept, echoes_of, own_packet}
use Rattle.element_core.specs.Noted.{own_pattern, where_relayed, cells_made}
use Rattle.element_core.specs.Phases.{no_cells}
use Rattle.element_core.specs.Together.{Carried, heard_of}
use Rattle.element_core.specs.declared.Due.TheVariants.{Absorb}
use Rattle.element_core.specs.ElementValue.{ElementValue, begins_with, after_emit, after_absorb, cells_taken, ended_with, rounds_heard, decision_now}

-- ---- its own places

-- Once a first round was heard, its own cell stands in its own place; it relays nothing to itself; and each list has a
-- place for each element.
pub record HasOwnCells (e : ElementValue) : Type 0 where
  pub patterns : 1 ≤ rounds_heard e.due → cell_at e.heard.patterns e.kept.me ≡ own_pattern e.kept
  pub packets : 3 ≤ rounds_heard e.due → cell_at e.heard.packets e.kept.me ≡ own_packet e.kept (decision_now e)
  pub pattern_relay : slice_index_or e.heard.relayed_patterns e.kept.me [] ≡ no_cells e.kept.table.n
  pub packet_relay : slice_index_or e.heard.relayed_packets e.kept.me [] ≡ no_cells e.kept.table.n
  pub pattern_count : length e.heard.patterns ≡ e.kept.table.n
  pub packet_count : length e.heard.packets ≡ e.kept.table.n
  pub pattern_relays : length e.heard.relayed_patterns ≡ e.kept.table.n
  pub packet_relays : length e.heard.relayed_packets ≡ e.kept.table.n

-- So it is when an element begins, and after each step, whatever frames come.
abbrev pub OwnCellsBegin : Type 0
OwnCellsBegin = (kept : Kept) → kept.me < kept.table.n → HasOwnCells (begins_with kept)

abbrev pub OwnCellsStay : Type 0
OwnCellsStay = (e : ElementValue) (round : Round) (frames : ℕ → List ℕ)
    → e.due ≡ Absorb round → e.kept.me < e.kept.table.n → HasOwnCells e → HasOwnCells (after_absorb round frames e)

-- So what it holds of both exchanges is what it counts of them, and what it relays are its copies.
pub record HoldsEchoes (e : ElementValue) : Type 0 where
  pub patterns : 1 ≤ rounds_heard e.due → echoes_of e.kept.me (own_pattern e.kept) e.heard.patterns e.heard.relayed_patterns
      ≡ record { me = e.kept.me; copies = e.heard.patterns; relayed = e.heard.relayed_patterns }
  pub packets : 3 ≤ rounds_heard e.due → echoes_of e.kept.me (own_packet e.kept (decision_now e)) e.heard.packets e.heard.relayed_packets
      ≡ record { me = e.kept.me; copies = e.heard.packets; relayed = e.heard.relayed_packets }
  pub pattern_echo : 1 ≤ rounds_heard e.due → cells_made e.kept e.heard A2 ≡ e.heard.patterns
  pub packet_echo : 3 ≤ rounds_heard e.due → cells_made e.kept e.heard B2 ≡ each_below e.kept.table.n (where_relayed (decision_now e) e.heard.packets)

abbrev pub OwnCellsHold : Type 0
OwnCellsHold = (e : ElementValue) → HasOwnCells e → HoldsEchoes e

-- ---- a cycle of steps

-- what it is after the eight steps of a cycle
abbrev pub after_cycle : (Round → ℕ → List ℕ) → ElementValue → ElementValue
after_cycle frames e =
    after_absorb B2 (frames B2) (after_emit B2 (after_absorb B1 (frames B1) (after_emit B1
    (after_absorb A2 (frames A2) (after_emit A2 (after_absorb A1 (frames A1) (after_emit A1 e)))))))

-- What is carried to an element is what it takes of the frames that come.
abbrev pub IsTaken : Kept → (Round → ℕ → List ℕ) → Carried → Type 0
IsTaken kept frames carried = (round : Round) (sender : ℕ) → carried round sender kept.me ≡ cells_taken kept (heard_of carried kept.table.n kept.me) round (frames round) sender

-- The steps of a cycle make of an element what it makes of all that it hears in the cycle.
abbrev pub CycleOfSteps : Type 0
CycleOfSteps = (e : ElementValue) (frames : Round → ℕ → List ℕ) (carried : Carried)
    → IsTaken e.kept frames carried
    → after_cycle frames e ≡ ended_with e (heard_of carried e.kept.table.n e.kept.me)
