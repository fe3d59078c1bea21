-- What each element sends in the rounds of a cycle, before an adversary changes it.
use Rattle.std.specs.Prelude.{ℕ, List, [], ◌∷◌, None, if◌then◌else◌}
use Rattle.ftpp_base.specs.Lists.{each_below, cell_at}
use Rattle.ftpp_base.specs.declared.element.Round.{Round}
use Rattle.ftpp_base.specs.declared.element.Round.TheVariants.{A1, A2, B1, B2}
use Rattle.bit_vote.specs.Vote.{Cell}
use Rattle.bit_vote.specs.Agreed.{copy_at}
use Rattle.frame_format.specs.Frames.{frame_bytes}
pub use Rattle.config_table.specs.Kinds.{is_relayed}
use Rattle.element_core.specs.Cycle.{Shown}

-- the cell about a sender in an element's frame of B2
abbrev pub relayed_packet : Shown → ℕ → ℕ → Cell
relayed_packet shown ne sender = if is_relayed shown.decision sender then copy_at shown.packets ne sender else None

-- the cells of an element's frame of a round
abbrev pub cells_sent : Shown → Round → ℕ → List Cell
cells_sent shown A1 ne = cell_at shown.patterns.own ne ∷ []
cells_sent shown A2 ne = each_below shown.table.n (copy_at shown.patterns ne)
cells_sent shown B1 ne = cell_at shown.packets.own ne ∷ []
cells_sent shown B2 ne = each_below shown.table.n (relayed_packet shown ne)

-- the bytes of that frame
abbrev pub frame_sent : Shown → Round → ℕ → List ℕ
frame_sent shown round ne = frame_bytes (record { cycle = shown.cycle; round = round }) ne (cells_sent shown round ne)
