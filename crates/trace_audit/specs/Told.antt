-- What an auditor keeps of the frames of a cycle: what the first rounds tell, and what is decided.
use Rattle.std.specs.Prelude.{◌≡◌, ℕ, ◌+◌, ◌*◌, ◌<◌, ◌≤◌, ◌⊎◌, List, length, Option, Some}
use Rattle.ftpp_base.specs.declared.element.Round.{Round}
use Rattle.ftpp_base.specs.declared.element.Round.TheVariants.{A1, A2, B1, B2}
use Rattle.bit_vote.specs.Agreed.{FirstRound}
use Rattle.flag_vote.specs.Flags.{voted_flags}
use Rattle.scoreboard.specs.Choice.{scoreboard_after}
use Rattle.scoreboard.specs.Times.{AreLinesOf, AreBefore}
use Rattle.trace_audit.specs.declared.told.Told.{Told}
use Rattle.trace_audit.specs.declared.rounds_told.RoundTold.{RoundTold}
use Rattle.trace_audit.specs.Known.{Known, Frames, round_told, pattern_told, decision_told}
use Rattle.trace_audit.specs.Trace.{frames_in, per_cycle}
use Rattle.trace_audit.specs.Links.{per_round}

-- a first round with its named element
abbrev pub first_round : {n width : ℕ} → Option ℕ → RoundTold n width → FirstRound
first_round named round = record { faulty = named; own = round.own; heard = round.heard }

-- It holds what the frames of A1 tell: the round, the pattern, the decision, and the scoreboard after it.
pub record HoldsPatterns (n : ℕ) (known : Known) (named : Option ℕ) (frames : Frames) (told : Told n) : Type 0 where
  pub round : first_round named told.patterns ≡ round_told known named frames A1
  pub pattern : told.pattern ≡ pattern_told known named frames
  pub decision : told.decision ≡ decision_told known named frames
  pub after : told.after ≡ scoreboard_after known.table known.cycle (voted_flags known.table (pattern_told known named frames)) known.scoreboard
  pub lines : AreLinesOf known.table told.after
  pub earlier : AreBefore (known.cycle + 1) told.after

-- It holds what the frames of B1 tell.
pub record HoldsPackets (n : ℕ) (known : Known) (named : Option ℕ) (frames : Frames) (told : Told n) : Type 0 where
  pub round : first_round named told.packets ≡ round_told known named frames B1

-- What it holds to tell whether a frame of a round is expected.
abbrev pub HoldsFor : (n : ℕ) → Round → Known → Option ℕ → Frames → Told n → Type 0
HoldsFor n A1 known named frames told = Unit {0}
HoldsFor n A2 known named frames told = HoldsPatterns n known named frames told
HoldsFor n B1 known named frames told = HoldsPatterns n known named frames told
HoldsFor n B2 known named frames told = HoldsPatterns n known named frames told × HoldsPackets n known named frames told

-- What it holds once the frames of A1, and those of B1, have come.
pub record HoldsTold (n : ℕ) (known : Known) (named : Option ℕ) (so_far : List (List ℕ)) (told : Told n) : Type 0 where
  pub patterns : per_round n ≤ length so_far → HoldsPatterns n known named (frames_in n so_far) told
  pub packets : 3 * per_round n ≤ length so_far → HoldsPackets n known named (frames_in n so_far) told

-- What it holds of the frames before the last one, with that one.
pub record HoldsBefore (n : ℕ) (known : Known) (named : Option ℕ) (frames : List (List ℕ)) (told : Told n) : Type 0 where
  pub patterns : per_round n < length frames → HoldsPatterns n known named (frames_in n frames) told
  pub packets : 3 * per_round n < length frames → HoldsPackets n known named (frames_in n frames) told

-- The frames so far are not all of a cycle, and the named element is there.
pub record IsAuditing (n : ℕ) (known : Known) (named : Option ℕ) (so_far : List (List ℕ)) (told : Told n) : Type 0 where
  pub size : (n ≡ 4) ⊎ (n ≡ 5)
  pub elements : known.table.n ≡ n
  pub inside : length so_far < per_cycle n
  pub there : (ne : ℕ) → named ≡ Some ne → ne < n
  pub holds : HoldsTold n known named so_far told
