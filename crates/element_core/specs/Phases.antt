-- One element in the middle of a cycle: it hears one round after another, and its frame of a round looks only at earlier ones.
use Rattle.std.specs.Prelude.{◌≡◌, ℕ, ◌<◌, ◌≤◌, Bool, true, false, List, length, replicate, None, IfSome}
use Rattle.ftpp_base.specs.Lists.{each_below, cell_at}
use Rattle.ftpp_base.specs.declared.element.Round.{Round}
use Rattle.ftpp_base.specs.declared.element.Round.TheVariants.{A1, A2, B1, B2}
use Rattle.bit_vote.specs.Vote.{Cell}
use Rattle.config_table.specs.Table.{IsValid}
use Rattle.frame_format.specs.Frames.{IsWide, IsFrame, frame_bytes}
use Rattle.processor_buffers.specs.Queues.{head_of}
use Rattle.element_core.specs.Processors.{port_queues}
use Rattle.element_core.specs.Cycle.{update_outcome}
use Rattle.element_core.specs.Element.{Kept, Heard, Made, echoes_of, settled, own_packet, own_entry, own_service, own_handed, own_update, made}
use Rattle.element_core.specs.Noted.{own_pattern, decided_by, cells_made, noted_by}
use Rattle.element_core.specs.Together.{Carried, heard_of}

-- no cells of n elements
abbrev pub no_cells : ℕ → List Cell
no_cells n = replicate n None

-- nothing yet, among n elements
abbrev pub nothing_heard : ℕ → Heard
nothing_heard n = record {
  patterns = no_cells n;
  relayed_patterns = replicate n (no_cells n);
  packets = no_cells n;
  relayed_packets = replicate n (no_cells n);
}

-- what it heard, with the frames of one round more, by sender
abbrev pub with_heard : Heard → Round → ℕ → (ℕ → List Cell) → Heard
with_heard heard A1 n frames = record heard { patterns = each_below n (λ sender. cell_at (frames sender) 0) }
with_heard heard A2 n frames = record heard { relayed_patterns = each_below n frames }
with_heard heard B1 n frames = record heard { packets = each_below n (λ sender. cell_at (frames sender) 0) }
with_heard heard B2 n frames = record heard { relayed_packets = each_below n frames }

-- whether a round comes after another, or is it
abbrev pub is_from : Round → Round → Bool
is_from A1 later = true
is_from A2 A1 = false
is_from A2 A2 = true
is_from A2 B1 = true
is_from A2 B2 = true
is_from B1 A1 = false
is_from B1 A2 = false
is_from B1 B1 = true
is_from B1 B2 = true
is_from B2 A1 = false
is_from B2 A2 = false
is_from B2 B1 = false
is_from B2 B2 = true

-- The frame of a round does not look at what is heard in that round or later.
abbrev pub LooksBack : Type 0
LooksBack = (kept : Kept) (heard : Heard) (n : ℕ) (frames : ℕ → List Cell) (round later : Round)
    → is_from round later ≡ true → cells_made kept (with_heard heard later n frames) round ≡ cells_made kept heard round

-- The four rounds of a cycle, heard one after another, are what it hears of the cycle.
abbrev pub HeardByRounds : Type 0
HeardByRounds = (heard : Heard) (n : ℕ) (carried : Carried) (me : ℕ)
    → with_heard (with_heard (with_heard (with_heard heard A1 n (λ sender. carried A1 sender me)) A2 n (λ sender. carried A2 sender me)) B1 n (λ sender. carried B1 sender me)) B2 n (λ sender. carried B2 sender me)
    ≡ heard_of carried n me

-- ---- what it makes of a cycle, part by part: each by what was heard before

-- Each part of what an element makes, by the parts before it.
pub record IsMade (kept : Kept) (heard : Heard) (m : Made) : Type 0 where
  pub patterns : m.patterns ≡ echoes_of kept.me (own_pattern kept) heard.patterns heard.relayed_patterns
  pub pattern : m.pattern ≡ settled kept.table.n m.patterns
  pub decision : m.decision ≡ decided_by kept heard.patterns heard.relayed_patterns
  pub packets : m.packets ≡ echoes_of kept.me (own_packet kept m.decision) heard.packets heard.relayed_packets
  pub entry : m.entry ≡ own_entry kept.table m.decision m.packets
  pub handed : m.handed ≡ own_handed kept m.decision m.entry (own_service kept m.decision)
  pub update : m.update ≡ update_outcome kept.table (own_update kept.table m.decision m.packets)

-- What it makes has these parts.
abbrev pub EachPartMade : Type 0
EachPartMade = (kept : Kept) (heard : Heard) → IsMade kept heard (made kept heard)

-- What it notes in a cycle are at most 52 entries, whatever it heard: 4 P1, 16 P2, 4 R, 4 O, 4 D1, 16 D2, 4 V.
abbrev pub FewNotes : Type 0
FewNotes = (kept : Kept) (heard : Heard) → IsValid kept.table → kept.me < kept.table.n → length (noted_by kept (made kept heard)) ≤ 52

-- ---- its frames are in the grammar

-- What an element keeps and heard is whole: it is one of the elements, it has a cell for each, of its width, and 64 bytes at each head.
pub record IsWhole (kept : Kept) (heard : Heard) : Type 0 where
  pub me : kept.me < kept.table.n
  pub pattern_count : length heard.patterns ≡ kept.table.n
  pub packet_count : length heard.packets ≡ kept.table.n
  pub patterns : (s : ℕ) → IsWide 32 (cell_at heard.patterns s)
  pub packets : (s : ℕ) → IsWide 64 (cell_at heard.packets s)
  pub heads : (port : ℕ) → IfSome (head_of (port_queues kept.ports port)) (λ posted. length posted.1.bytes ≡ 64)

-- The frame that it sends in a round, then, is that of the cells that it makes.
abbrev pub FramesFit : Type 0
FramesFit = (kept : Kept) (heard : Heard) (round : Round) → IsWhole kept heard
    → IsFrame kept.table.n (record { cycle = kept.cycle; round = round }) kept.me
    (frame_bytes (record { cycle = kept.cycle; round = round }) kept.me (cells_made kept heard round)) (cells_made kept heard round)
