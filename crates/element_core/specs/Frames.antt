-- What an element sends, by what it holds.
use Rattle.std.specs.Prelude.{◌≡◌, ℕ, true, false, ◌==◌, List, [], ◌∷◌}
use Rattle.ftpp_base.specs.Lists.{each_below}
use Rattle.ftpp_base.specs.declared.element.Round.{Round}
use Rattle.ftpp_base.specs.declared.element.Round.TheVariants.{A1, A2, B1, B2}
use Rattle.bit_vote.specs.Vote.{Cell}
use Rattle.two_round.specs.Echoes.{Echoes}
use Rattle.config_table.specs.declared.decisions.Decision.{Decision}
use Rattle.config_table.specs.declared.decisions.Decision.TheVariants.{Idle, Discard, Exchange}
use Rattle.data_exchange.specs.Entries.{is_voted, IsSourceAmong}
use Rattle.element_core.specs.Element.{Kept, own_packet}
use Rattle.element_core.specs.Noted.{own_pattern, where_relayed}

-- the cells of its frame of a round, where the decision is known and its own cells stand in their places
abbrev pub cells_held : ℕ → Kept → Echoes → Echoes → Decision → Round → List Cell
cells_held n kept patterns packets decision A1 = own_pattern kept ∷ []
cells_held n kept patterns packets decision A2 = patterns.copies
cells_held n kept patterns packets decision B1 = own_packet kept decision ∷ []
cells_held n kept patterns packets decision B2 = each_below n (where_relayed decision packets.copies)

-- An exchange of class 3 takes two rounds, and a source is one of n elements.
abbrev pub FitsTable : ℕ → Decision → Type 0
FitsTable n Idle = Unit {0}
FitsTable n (Discard vid desc number admitted waited) = Unit {0}
FitsTable n (Exchange service) = ((service.desc.class == 3) ≡ true → is_voted service.kind ≡ false) × IsSourceAmong n service.kind
