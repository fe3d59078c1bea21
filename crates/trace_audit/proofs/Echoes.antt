-- What is kept of a cycle is what its frames tell.
use Rattle.std.proofs.Common.{◌≡◌, ℕ, ◌+◌, Bool, List, sym, ◌∙◌, ap}
use Rattle.std.specs.Prelude.{Option}
use Rattle.ftpp_base.specs.Lists.{each_below}
use Rattle.ftpp_base.specs.declared.element.Round.{Round}
use Rattle.ftpp_base.specs.declared.element.Round.TheVariants.{A1, A2, B2}
use Rattle.packet_format.specs.Packets.{same_bytes}
use Rattle.packet_format.specs.declared.Packet.{Packet}
use Rattle.bit_vote.specs.Vote.{Cell}
use Rattle.bit_vote.specs.Agreed.{FirstRound, agreed, copy_at}
use Rattle.local_pattern.specs.Pattern.{read_column}
use Rattle.frame_format.specs.Frames.{frame_bytes}
use Rattle.flag_vote.specs.Flags.{Pattern, voted_flags}
use Rattle.scoreboard.specs.Choice.{scoreboard_decision, scoreboard_after}
use Rattle.scoreboard.specs.Times.{AreLinesOf, AreBefore}
use Rattle.element_core.specs.Cycle.{agreed_column, update_in, update_packet}
use Rattle.trace_audit.specs.declared.told.Told.{Told}
use Rattle.trace_audit.specs.Known.{Known, Frames, slot_of, own_told, heard_told, round_told, pattern_told, decision_told, copy_relayed, is_expected, known_after, known_served, known_with, update_told, still_standing, popped}
use Rattle.trace_audit.specs.Told.{HoldsPatterns, HoldsPackets, first_round}

-- a round that is read of its frames
pub told_round : (n : ℕ) (known : Known) (named : Option ℕ) (frames : Frames) (round : Round) (own heard : List Cell) → known.table.n ≡ n
    → own ≡ each_below n (own_told known frames round) → heard ≡ each_below n (heard_told known named frames round)
    → (let r : FirstRound = record { faulty = named; own = own; heard = heard } in r) ≡ round_told known named frames round
unfolding round_told
told_round n known named frames round own heard size e f =
    (λ i. record { faulty = named; own = e i; heard = f i })
    ∙ (λ i. record { faulty = named; own = each_below (sym size i) (own_told known frames round); heard = each_below (sym size i) (heard_told known named frames round) })

-- what is made of the patterns
pub holds_patterns : (n : ℕ) (known : Known) (named : Option ℕ) (frames : Frames) (told : Told n) → known.table.n ≡ n → first_round named told.patterns ≡ round_told known named frames A1
    → told.pattern ≡ each_below n (λ ne. read_column (agreed (first_round named told.patterns) ne))
    → told.decision ≡ scoreboard_decision known.table known.cycle (voted_flags known.table told.pattern) known.scoreboard
    → told.after ≡ scoreboard_after known.table known.cycle (voted_flags known.table told.pattern) known.scoreboard
    → AreLinesOf known.table told.after → AreBefore (known.cycle + 1) told.after → HoldsPatterns n known named frames told
unfolding pattern_told decision_told
holds_patterns n known named frames told size round pattern decision after lines earlier =
    let same : told.pattern ≡ pattern_told known named frames = pattern ∙ (λ i. each_below (sym size i) (agreed_column (round i))) in
    record {
      round = round;
      pattern = same;
      decision = decision ∙ ap (λ (p : Pattern). scoreboard_decision known.table known.cycle (voted_flags known.table p) known.scoreboard) same;
      after = after ∙ ap (λ (p : Pattern). scoreboard_after known.table known.cycle (voted_flags known.table p) known.scoreboard) same;
      lines = lines;
      earlier = earlier;
    }

-- the echoes that are expected
pub pattern_echo : (n : ℕ) (known : Known) (named : Option ℕ) (frames : Frames) (told : Told n) (from to : ℕ) (cells : List Cell) (result : Bool) → known.table.n ≡ n → HoldsPatterns n known named frames told
    → cells ≡ each_below n (copy_at (first_round named told.patterns) from) → result ≡ same_bytes (frames A2 from to) (frame_bytes (slot_of known A2) from cells)
    → result ≡ is_expected known named frames A2 from to
unfolding is_expected
pattern_echo n known named frames told from to cells result size h e f =
    f ∙ ap (λ (cs : List Cell). same_bytes (frames A2 from to) (frame_bytes (slot_of known A2) from cs)) (e ∙ (λ i. each_below (sym size i) (copy_at (h.round i) from)))

pub packet_echo : (n : ℕ) (known : Known) (named : Option ℕ) (frames : Frames) (told : Told n) (from to : ℕ) (cells : List Cell) (result : Bool) → known.table.n ≡ n → HoldsPatterns n known named frames told → HoldsPackets n known named frames told
    → cells ≡ each_below n (copy_relayed told.decision (first_round named told.packets) from) → result ≡ same_bytes (frames B2 from to) (frame_bytes (slot_of known B2) from cells)
    → result ≡ is_expected known named frames B2 from to
unfolding is_expected
packet_echo n known named frames told from to cells result size h k e f =
    f ∙ ap (λ (cs : List Cell). same_bytes (frames B2 from to) (frame_bytes (slot_of known B2) from cs)) (e ∙ (λ i. each_below (sym size i) (copy_relayed (h.decision i) (k.round i) from)))

-- the end of a cycle
pub cycle_ends : (n : ℕ) (known served after : Known) (named : Option ℕ) (frames : Frames) (told : Told n) (asked : Option (Option Packet)) → known.table.n ≡ n → HoldsPatterns n known named frames told → HoldsPackets n known named frames told
    → asked ≡ update_packet known.table told.decision (first_round named told.packets)
    → served ≡ record { cycle = known.cycle + 1; table = known.table; scoreboard = told.after; standing = still_standing n told.pattern (popped known.table told.decision) }
    → after ≡ known_with (update_in asked) served → after ≡ known_after known named frames
unfolding known_after known_served update_told
cycle_ends n known served after named frames told asked size h k e f g =
    let update = e ∙ (λ i. update_packet known.table (h.decision i) (k.round i)) in
    let state : served ≡ known_served known named frames =
    f ∙ (λ i. record { cycle = known.cycle + 1; table = known.table; scoreboard = h.after i; standing = still_standing (sym size i) (h.pattern i) (popped known.table (h.decision i)) }) in
    g ∙ (λ i. known_with (update_in (update i)) (state i))
