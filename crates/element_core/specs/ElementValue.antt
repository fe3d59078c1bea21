-- An element as a plain value, and what each of its calls makes of it.
use Rattle.std.specs.Prelude.{ℕ, ◌==◌, List, [], ◌∷◌, ◌++◌, slice_index_or, Option, Some, None, if◌then◌else◌}
use Rattle.ftpp_base.specs.declared.element.Proc.{Proc}
use Rattle.ftpp_base.specs.declared.element.Round.{Round}
use Rattle.ftpp_base.specs.declared.element.Slot.{Slot}
use Rattle.ftpp_base.specs.declared.element.Round.TheVariants.{A1, A2, B1, B2}
use Rattle.packet_format.specs.declared.Packet.{Packet}
use Rattle.packet_format.specs.declared.acts.Act.{Act}
use Rattle.bit_vote.specs.Vote.{Cell}
use Rattle.two_round.specs.Echoes.{Echoes}
use Rattle.config_table.specs.declared.decisions.Decision.{Decision}
use Rattle.config_table.specs.Table.{TableValue}
use Rattle.flag_vote.specs.Flags.{Pattern, voted_flags}
use Rattle.frame_format.specs.Frames.{frame_bytes, reads_as, first_cell}
use Rattle.scoreboard.specs.Board.{Scoreboard, empty_scoreboard}
use Rattle.scoreboard.specs.Choice.{scoreboard_after}
use Rattle.processor_buffers.specs.declared.Handed.{Handed}
use Rattle.syndrome_log.specs.declared.Syndrome.{Syndrome}
use Rattle.syndrome_log.specs.Log.{last_kept}
use Rattle.element_core.specs.declared.Outcome3.{Outcome3}
use Rattle.element_core.specs.Processors.{empty_ports}
use Rattle.element_core.specs.Run.{AgreedState}
use Rattle.element_core.specs.Element.{Kept, Heard, Made, echoes_of, settled, own_packet, made, kept_after}
use Rattle.element_core.specs.Noted.{own_pattern, decided_by, cells_made, noted_by}
use Rattle.element_core.specs.AloneRun.{own_act}
use Rattle.element_core.specs.Phases.{no_cells, nothing_heard, with_heard}
use Rattle.element_core.specs.declared.Due.{Due}
use Rattle.element_core.specs.declared.Due.TheVariants.{Emit, Absorb}

-- What an element tells of a cycle that it ended.
pub record CycleTold : Type 0 where
  pub cycle : ℕ
  pub pattern : Pattern
  pub decision : Decision
  pub packet : Option Packet
  pub handed : Option (Proc × Handed)
  pub update : Option Outcome3
  pub syndromes : List Syndrome

-- What it keeps from cycle to cycle, what it heard so far in this one, the step that it takes next, what it tells of
-- the last cycle, and what it noted.
pub record ElementValue : Type 0 where
  pub kept : Kept
  pub heard : Heard
  pub due : Due
  pub last : Option CycleTold
  pub log : List Syndrome

-- ---- made, reset, rejoined

-- an element that begins with these
abbrev pub begins_with : Kept → ElementValue
begins_with kept = record { kept = kept; heard = nothing_heard kept.table.n; due = Emit A1; last = None; log = [] }

-- as it is made from a table, and as it is reset on one: no requests, and empty ports
abbrev pub fresh : ℕ → TableValue → ElementValue
fresh me table = begins_with (record { me = me; cycle = 0; table = table; scoreboard = empty_scoreboard table; ports = empty_ports })

-- after a rejoin: the agreed state, and empty ports
abbrev pub rejoined_with : ℕ → AgreedState → ElementValue
rejoined_with me state = begins_with (record { me = me; cycle = state.cycle; table = state.table; scoreboard = state.scoreboard; ports = empty_ports })

-- what it tells of its agreed state
abbrev pub state_of : ElementValue → AgreedState
state_of e = record { cycle = e.kept.cycle; table = e.kept.table; scoreboard = e.kept.scoreboard }

-- ---- what its processors ask for

-- after an act of one of its processors
abbrev pub after_own_act : Act → ElementValue → ElementValue
after_own_act act e = record e { kept = record e.kept { ports = own_act e.kept.table e.kept.ports act } }

-- ---- what it sends

-- the bytes of its frame of a round, the same to each other element
abbrev pub frame_of : ElementValue → Round → List ℕ
frame_of e round = frame_bytes (record { cycle = e.kept.cycle; round = round }) e.kept.me (cells_made e.kept e.heard round)

-- after it sent: what came of the round is due
abbrev pub after_emit : Round → ElementValue → ElementValue
after_emit round e = record e { due = Absorb round }

-- ---- what it takes

-- what it counts as its own frame of a round: its own cell in a first round, and no cells among the echoes
abbrev pub own_cells : Kept → Heard → Round → List Cell
own_cells kept heard A1 = own_pattern kept ∷ []
own_cells kept heard A2 = no_cells kept.table.n
own_cells kept heard B1 = own_packet kept (decided_by kept heard.patterns heard.relayed_patterns) ∷ []
own_cells kept heard B2 = no_cells kept.table.n

-- the cells that one of n elements takes of each sender: of another what its bytes read as, whatever they are
abbrev pub taken_of : ℕ → Slot → ℕ → List Cell → (ℕ → List ℕ) → ℕ → List Cell
taken_of n slot me own frames sender = if sender == me then own else reads_as n slot sender (frames sender)

-- the one cell that it takes of each sender in a first round
abbrev pub copy_taken : ℕ → Slot → ℕ → Cell → (ℕ → List ℕ) → ℕ → Cell
copy_taken n slot me own frames sender = if sender == me then own else first_cell (reads_as n slot sender (frames sender))

abbrev pub cells_taken : Kept → Heard → Round → (ℕ → List ℕ) → ℕ → List Cell
cells_taken kept heard round = taken_of kept.table.n (record { cycle = kept.cycle; round = round }) kept.me (own_cells kept heard round)

-- the frames of some rows of bytes, by sender
abbrev pub frames_in : List (List ℕ) → ℕ → List ℕ
frames_in rows sender = slice_index_or rows sender []

-- what it heard with the frames of one round more
abbrev pub heard_with : ElementValue → Round → (ℕ → List ℕ) → Heard
heard_with e round frames = with_heard e.heard round e.kept.table.n (cells_taken e.kept e.heard round frames)

-- what it tells of what it made of a cycle
abbrev pub told_by : Kept → Made → CycleTold
told_by kept m = record {
  cycle = kept.cycle;
  pattern = m.pattern;
  decision = m.decision;
  packet = m.entry;
  handed = m.handed;
  update = m.update;
  syndromes = noted_by kept m;
}

-- after the four rounds, by all that it heard: the next cycle begins
unfoldable pub ended_with : ElementValue → Heard → ElementValue
ended_with e heard = record {
  kept = kept_after e.kept (made e.kept heard);
  heard = nothing_heard e.kept.table.n;
  due = Emit A1;
  last = Some (told_by e.kept (made e.kept heard));
  log = last_kept (e.log ++ noted_by e.kept (made e.kept heard));
}

-- after it took the frames of a round, one from each other element
abbrev pub after_absorb : Round → (ℕ → List ℕ) → ElementValue → ElementValue
after_absorb A1 frames e = record e { heard = heard_with e A1 frames; due = Emit A2 }
after_absorb A2 frames e = record e { heard = heard_with e A2 frames; due = Emit B1 }
after_absorb B1 frames e = record e { heard = heard_with e B1 frames; due = Emit B2 }
after_absorb B2 frames e = ended_with e (heard_with e B2 frames)

-- ---- in the middle of a cycle

-- how many rounds of the cycle were heard
abbrev pub rounds_heard : Due → ℕ
rounds_heard (Emit A1) = 0
rounds_heard (Absorb A1) = 0
rounds_heard (Emit A2) = 1
rounds_heard (Absorb A2) = 1
rounds_heard (Emit B1) = 2
rounds_heard (Absorb B1) = 2
rounds_heard (Emit B2) = 3
rounds_heard (Absorb B2) = 3

-- the decision of the cycle, once both rounds of patterns were heard
abbrev pub decision_now : ElementValue → Decision
decision_now e = decided_by e.kept e.heard.patterns e.heard.relayed_patterns

-- the agreed pattern of the cycle, once both rounds of patterns were heard
abbrev pub pattern_now : ElementValue → Pattern
pattern_now e = settled e.kept.table.n (echoes_of e.kept.me (own_pattern e.kept) e.heard.patterns e.heard.relayed_patterns)

-- the scoreboard after that decision
abbrev pub scoreboard_now : ElementValue → Scoreboard
scoreboard_now e = scoreboard_after e.kept.table e.kept.cycle (voted_flags e.kept.table (pattern_now e)) e.kept.scoreboard

-- what it holds of the exchanges of patterns and of packets
abbrev pub patterns_now : ElementValue → Echoes
patterns_now e = record { me = e.kept.me; copies = e.heard.patterns; relayed = e.heard.relayed_patterns }

abbrev pub packets_now : ElementValue → Echoes
packets_now e = record { me = e.kept.me; copies = e.heard.packets; relayed = e.heard.relayed_packets }
