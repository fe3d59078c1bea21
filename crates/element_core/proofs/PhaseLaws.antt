-- An element hears one round after another; and what it makes of a cycle, part by part.
use Rattle.std.proofs.Common.{◌≡◌, ◌+◌, refl}
use Rattle.std.specs.Prelude.{Option, Some, None}
use Rattle.ftpp_base.specs.declared.element.Round.TheVariants.{A1, A2, B1, B2}
use Rattle.flag_vote.specs.Flags.{voted_flags}
use Rattle.scoreboard.specs.Choice.{scoreboard_after}
use Rattle.table_update.specs.declared.Update.{Update}
use Rattle.table_update.specs.declared.Applied.{Applied}
use Rattle.table_update.specs.declared.Applied.TheVariants.{Done, Refused, Absent}
use Rattle.table_update.specs.Updates.{applied}
use Rattle.element_core.specs.Cycle.{update_in}
use Rattle.element_core.specs.Element.{Kept, Made, own_service, own_delivery, own_update, kept_by, kept_with, made, kept_after}
use Rattle.element_core.specs.Phases.{LooksBack, HeardByRounds, EachPartMade}
use Rattle.element_core.proofs.Sound.{size-table_after}

-- The frame of a round does not look at what is heard in that round or later.
pub looks_back : LooksBack
looks_back kept heard n frames A1 A1 e = refl
looks_back kept heard n frames A1 A2 e = refl
looks_back kept heard n frames A1 B1 e = refl
looks_back kept heard n frames A1 B2 e = refl
looks_back kept heard n frames A2 A1 e = cc
looks_back kept heard n frames A2 A2 e = refl
looks_back kept heard n frames A2 B1 e = refl
looks_back kept heard n frames A2 B2 e = refl
looks_back kept heard n frames B1 A1 e = cc
looks_back kept heard n frames B1 A2 e = cc
looks_back kept heard n frames B1 B1 e = refl
looks_back kept heard n frames B1 B2 e = refl
looks_back kept heard n frames B2 A1 e = cc
looks_back kept heard n frames B2 A2 e = cc
looks_back kept heard n frames B2 B1 e = cc
looks_back kept heard n frames B2 B2 e = refl

-- The four rounds are what it hears of the cycle.
pub heard_by_rounds : HeardByRounds
heard_by_rounds heard n carried me = refl

-- ---- what it makes, part by part

-- each part by the parts before it
pub each_part_made : EachPartMade
unfolding made
each_part_made kept heard = record { patterns = refl; pattern = refl; decision = refl; packets = refl; entry = refl; handed = refl; update = refl }

-- what it keeps
pub kept_after-parts : (kept : Kept) (m : Made) → kept_after kept m ≡ kept_with (update_in (own_update kept.table m.decision m.packets)) (record {
  me = kept.me;
  cycle = kept.cycle + 1;
  table = kept.table;
  scoreboard = scoreboard_after kept.table kept.cycle (voted_flags kept.table m.pattern) kept.scoreboard;
  ports = own_delivery kept m.decision m.entry (own_service kept m.decision);
})
unfolding kept_after
kept_after-parts kept m = refl

-- ---- among as many elements

-- after an update, by what became of it
size_by : (a : Applied) (update : Update) (kept : Kept) → (kept_by a update kept).table.n ≡ kept.table.n
size_by (Done ports) update kept = size-table_after kept.table update
size_by (Refused error) update kept = refl
size_by Absent update kept = refl

-- after an update, if there is one
size_with : (update : Option Update) (kept : Kept) → (kept_with update kept).table.n ≡ kept.table.n
size_with None kept = refl
size_with (Some update) kept = size_by (applied kept.table update) update kept

-- it stays one of as many elements
pub kept_size : (kept : Kept) (m : Made) → (kept_after kept m).table.n ≡ kept.table.n
unfolding kept_after
kept_size kept m = size_with (update_in (own_update kept.table m.decision m.packets)) _
