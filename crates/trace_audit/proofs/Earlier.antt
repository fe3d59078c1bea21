-- What is expected depends on earlier frames alone.
use Rattle.std.proofs.Common.{◌≡◌, ◌≢◌, ℕ, ◌+◌, ◌-◌, ◌<◌, ◌≤◌, Bool, true, false, cond, List, length, refl, sym, ◌∙◌, ap, arith, ◌⊎◌, inl, inr}
use Rattle.std.specs.Prelude.{Option, Some, None, nat_lt, ◌==◌}
use Rattle.std.proofs.lemmas.Bool.{eqb-true, cases_lt}
use Rattle.std.proofs.lemmas.List.FromFn.{length-map-range_with_len}
use Rattle.std.proofs.lemmas.List.{get_or_past}
use Rattle.ftpp_base.specs.Lists.{each_below, cell_at, is_this}
use Rattle.ftpp_base.specs.declared.element.Round.{Round}
use Rattle.ftpp_base.specs.declared.element.Round.TheVariants.{A1, A2, B1, B2}
use Rattle.packet_format.specs.Packets.{same_bytes}
use Rattle.bit_vote.specs.Agreed.{copy_at}
use Rattle.two_round.proofs.Agreement.{at_place}
use Rattle.frame_format.specs.Frames.{first_cell, reads_as, frame_bytes, decoded}
use Rattle.config_table.specs.declared.decisions.Decision.{Decision}
use Rattle.two_round.proofs.Others.{IsSize}
use Rattle.flag_vote.specs.Flags.{Pattern, voted_flags}
use Rattle.scoreboard.specs.Choice.{scoreboard_decision, scoreboard_after}
use Rattle.element_core.specs.Cycle.{update_in, update_packet}
use Rattle.config_table.specs.Kinds.{is_relayed}
use Rattle.trace_audit.specs.Known.{Known, Frames, slot_of, least_receiver, cell_told, own_told, heard_told, round_told, pattern_told, decision_told, update_told, shows_ports, sends_packet, is_frame_with, copy_relayed, is_expected, known_served, known_with, known_after, popped, still_standing}
use Rattle.trace_audit.specs.Trace.{place_of, receiver_place}
use Rattle.trace_audit.specs.Laws.{AlikeUpTo, LooksBack, AlikeKnown}
use Rattle.trace_audit.proofs.Rounds.{each_same, SameRounds, copy_same, pattern_same, packet_same}
use Rattle.trace_audit.proofs.Listed.{in_round}
use Rattle.trace_audit.proofs.CycleLaw.{least_by, two_there}

-- the least receiver has the first place
either_first : (c : Bool) → cond c 0 (0 - 1) ≡ 0
either_first true = refl
either_first false = refl

first_by : (s : ℕ) (b : Bool) → (s == 0) ≡ b → cond (nat_lt (cond b 1 0) s) (cond b 1 0) (cond b 1 0 - 1) ≡ 0
first_by s true e = ap (λ k. cond (nat_lt 1 k) 1 0) (eqb-true s 0 e)
first_by s false e = either_first (nat_lt 0 s)

-- so no other receiver has a lesser one
pub least_place : (s r : ℕ) → receiver_place s (least_receiver s) ≤ receiver_place s r
least_place s r = let first = first_by s (s == 0) refl in omega arith

module _ (known : Known) (named : Option ℕ) (one other : Frames) (size : IsSize known.table.n) (inside : (ne : ℕ) → named ≡ Some ne → ne < known.table.n) where
  abbrev n : ℕ
  n = known.table.n

  least : (s : ℕ) → (least_receiver s < n) × (s ≢ least_receiver s)
  least s = least_by n s (s == 0) refl (two_there n size)

  -- frames of a round that are the same
  abbrev pub SameIn : Round → Type 0
  SameIn round = (s r : ℕ) → s < n → r < n → s ≢ r → one round s r ≡ other round s r

  cell_same : (round : Round) (s r : ℕ) → one round s r ≡ other round s r → cell_told known one round s r ≡ cell_told known other round s r
  cell_same round s r e = ap (λ (bytes : List ℕ). first_cell (reads_as n (slot_of known round) s bytes)) e

  own_by : (round : Round) → SameIn round → (s : ℕ) → (s < n) ⊎ (n ≤ s) → cell_at (each_below n (own_told known one round)) s ≡ cell_at (each_below n (own_told known other round)) s
  own_by round same s (inl l) =
      let to = least s in
      at_place n (own_told known one round) s None l ∙ cell_same round s (least_receiver s) (same s (least_receiver s) l to.0 to.1) ∙ sym (at_place n (own_told known other round) s None l)
  own_by round same s (inr l) =
      let long : length (each_below n (own_told known one round)) ≡ n = length-map-range_with_len (own_told known one round) 0 n in
      let wide : length (each_below n (own_told known other round)) ≡ n = length-map-range_with_len (own_told known other round) 0 n in
      get_or_past (each_below n (own_told known one round)) s None (omega arith) ∙ sym (get_or_past (each_below n (own_told known other round)) s None (omega arith))

  heard_by : (round : Round) (faulty : Option ℕ) → ((ne : ℕ) → faulty ≡ Some ne → ne < n) → SameIn round → (s r : ℕ) → is_this faulty s ≡ true → r < n → s ≢ r
      → cell_at (each_below n (heard_told known faulty one round)) r ≡ cell_at (each_below n (heard_told known faulty other round)) r
  heard_by round None there same s r bad l away = cc
  heard_by round (Some f) there same s r bad l away =
      let at : f ≡ s = eqb-true f s bad in
      at_place n (heard_told known (Some f) one round) r None l
      ∙ cell_same round f r (same f r (there f refl) l (λ e. away (sym at ∙ e)))
      ∙ sym (at_place n (heard_told known (Some f) other round) r None l)

  -- so the round that they tell is the same
  rounds_same : (round : Round) → SameIn round → SameRounds n named (each_below n (own_told known one round)) (each_below n (own_told known other round))
      (each_below n (heard_told known named one round)) (each_below n (heard_told known named other round))
  rounds_same round same = record {
    own = λ s good. own_by round same s (cases_lt s n);
    heard = λ s r bad l away. heard_by round named inside same s r bad l away;
    heard_count = length-map-range_with_len (heard_told known named one round) 0 n;
    told_count = length-map-range_with_len (heard_told known named other round) 0 n;
  }

  pattern_alike : SameIn A1 → pattern_told known named one ≡ pattern_told known named other
  unfolding pattern_told round_told
  pattern_alike same = pattern_same n named _ _ _ _ (rounds_same A1 same) known.table

  decision_alike : SameIn A1 → decision_told known named one ≡ decision_told known named other
  unfolding decision_told
  decision_alike same = ap (λ (pattern : Pattern). scoreboard_decision known.table known.cycle (voted_flags known.table pattern) known.scoreboard) (pattern_alike same)

  copy_alike : (round : Round) → SameIn round → (e s : ℕ) → e < n → is_this named e ≡ false → copy_at (round_told known named one round) e s ≡ copy_at (round_told known named other round) e s
  unfolding round_told
  copy_alike round same e s l good = copy_same n named _ _ _ _ (rounds_same round same) e s l good

  update_alike : SameIn A1 → SameIn B1 → update_told known named one ≡ update_told known named other
  unfolding update_told round_told
  update_alike same more =
      ap (λ (d : Decision). update_in (update_packet known.table d (round_told known named one B1))) (decision_alike same)
      ∙ ap update_in (packet_same n named _ _ _ _ (rounds_same B1 more) known.table (decision_told known named other))

  served_alike : SameIn A1 → known_served known named one ≡ known_served known named other
  unfolding known_served
  served_alike same = λ i. record {
    cycle = known.cycle + 1;
    table = known.table;
    scoreboard = scoreboard_after known.table known.cycle (voted_flags known.table (pattern_alike same i)) known.scoreboard;
    standing = still_standing known.table.n (pattern_alike same i) (popped known.table (decision_alike same i));
  }

  after_alike : SameIn A1 → SameIn B1 → known_after known named one ≡ known_after known named other
  unfolding known_after
  after_alike same more = λ i. known_with (update_alike same more i) (served_alike same i)

  -- ---- each frame

  expected_alike : (round : Round) (s r : ℕ) → s < n → r < n → s ≢ r → is_this named s ≡ false → AlikeUpTo n one other (place_of n round s r)
      → is_expected known named one round s r ≡ is_expected known named other round s r
  unfolding is_expected
  expected_alike A1 s r l m away good same =
      let to = least s in
      let less = least_place s r in
      let here = same A1 s r l m away (omega arith) in
      let first = same A1 s (least_receiver s) l to.0 to.1 (omega arith) in
      λ i. cond (r == least_receiver s) (shows_ports known.standing s (cell_same A1 s (least_receiver s) first i)) (same_bytes (here i) (first i))
  expected_alike A2 s r l m away good same =
      let before : SameIn A1 = λ e k a b c. same A1 e k a b c (let inside = in_round n e k a b c in omega arith) in
      let here = same A2 s r l m away (omega arith) in
      λ i. same_bytes (here i) (frame_bytes (slot_of known A2) s
      (each_same n (copy_at (round_told known named one A1) s) (copy_at (round_told known named other A1) s) (λ k c. copy_alike A1 before s k l good) i))
  expected_alike B1 s r l m away good same =
      let before : SameIn A1 = λ e k a b c. same A1 e k a b c (let inside = in_round n e k a b c in omega arith) in
      let to = least s in
      let less = least_place s r in
      let here = same B1 s r l m away (omega arith) in
      let first = same B1 s (least_receiver s) l to.0 to.1 (omega arith) in
      λ i. cond (r == least_receiver s) (is_frame_with (sends_packet (decision_alike before i) s) (decoded n (slot_of known B1) s (first i))) (same_bytes (here i) (first i))
  expected_alike B2 s r l m away good same =
      let before : SameIn A1 = λ e k a b c. same A1 e k a b c (let inside = in_round n e k a b c in omega arith) in
      let lately : SameIn B1 = λ e k a b c. same B1 e k a b c (let inside = in_round n e k a b c in omega arith) in
      let here = same B2 s r l m away (omega arith) in
      λ i. same_bytes (here i) (frame_bytes (slot_of known B2) s
      (each_same n (copy_relayed (decision_told known named one) (round_told known named one B1) s) (copy_relayed (decision_told known named other) (round_told known named other B1) s)
      (λ k c. (λ j. cond (is_relayed (decision_alike before j) k) (copy_alike B1 lately s k l good j) None)) i))

-- Whether a frame is expected depends on that frame and on earlier ones alone.
pub looks_back : LooksBack
looks_back known named one other round s r size inside l m away good same = expected_alike known named one other size inside round s r l m away good same

-- What is known after a cycle depends on its frames alone.
pub alike_known : AlikeKnown
alike_known known named one other size inside same =
    after_alike known named one other size inside (λ s r l m away. same A1 s r l m away) (λ s r l m away. same B1 s r l m away)
