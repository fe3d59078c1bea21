-- Each element alone holds its part of the one run: of what a cycle shows, of the state after it, of what is sent and noted.
use Rattle.std.proofs.Common.{◌≡◌, ℕ, ◌+◌, ◌<◌, true, cond, [], ◌∷◌, ◌++◌, ap, ◌∙◌}
use Rattle.std.specs.Prelude.{None}
use Rattle.ftpp_base.specs.Lists.{each_below}
use Rattle.ftpp_base.specs.declared.element.Round.{Round}
use Rattle.ftpp_base.specs.declared.element.Round.TheVariants.{A1, A2, B1, B2}
use Rattle.flag_vote.specs.Flags.{voted_flags}
use Rattle.scoreboard.specs.Choice.{scoreboard_after}
use Rattle.syndrome_log.specs.declared.SyndromeKind.TheVariants as kind
use Rattle.element_core.specs.Cycle.{State, Input, update_outcome, update_in, update_packet, after_rejoin, shown_by, served, step}
use Rattle.element_core.specs.Sent.{is_relayed, cells_sent}
use Rattle.element_core.specs.Syndromes.{Relays, syndromes_at}
use Rattle.element_core.specs.Element.{Heard, kept_with, made, kept_after}
use Rattle.element_notes.specs.Notes.{notes_of}
use Rattle.element_core.specs.Noted.{off_copies, off_relays, absent_ones, full_ones, off_values, cells_made, noted_by, own_entry_row}
use Rattle.element_core.specs.Alone.{IsSound, IsInput, AreRelays, Takes, part_of, before_rounds, MakesItsPart, EachElementAlone}
use Rattle.element_core.proofs.Sound.{before_sound}
use Rattle.element_core.proofs.OwnLaws.{kept_with-part}
use Rattle.element_core.proofs.AloneLaws.{decision_in, patterns_in, packets_in, Given, own_patterns, own_packets, size_of, pattern_mine, patterns_copied, patterns_held, pattern_made, pattern_result, decision_made, packet_mine, packets_copied, packets_held, packets_settled, entry_made, handed_made, update_made, ports_made}
use Rattle.element_core.proofs.AloneNotes.{off-copies, off-relays, absent-same, full-same, off-values}

-- the rounds of a cycle begin after the rejoin and the acts
given_in : (s : State) (input : Input) (said : Relays) (me : ℕ) (heard : Heard) → IsSound s → IsInput s.table.n input → AreRelays said → me < s.table.n
    → Takes (step s input).shown said me heard → Given (before_rounds s input) input said me heard
unfolding step shown_by
given_in s input said me heard sound is cells l takes = record {
  sound = before_sound s input sound is.acts;
  is = is;
  cells = cells;
  there = l;
  patterns = takes.patterns;
  packets = takes.packets;
}

-- what it makes
makes_part : (s : State) (input : Input) (said : Relays) (me : ℕ) (heard : Heard) → Given (before_rounds s input) input said me heard
    → MakesItsPart (step s input).shown me (made (part_of (before_rounds s input) me) heard)
unfolding step shown_by made
makes_part s input said me heard g =
    let t = before_rounds s input in
    record {
      pattern = pattern_made t input said me heard g;
      decision = decision_made t input said me heard g;
      entry = entry_made t input said me heard g;
      handed = handed_made t input said me heard g;
      update = ap (update_outcome t.table) (update_made t input said me heard g);
      pattern_copies = patterns_copied t input said me heard g;
      packet_copies = packets_copied t input said me heard g;
      pattern_results = pattern_result t input said me heard g;
      packet_results = (packets_settled t input said me heard g).result;
    }

-- what it keeps
keeps_part : (s : State) (input : Input) (said : Relays) (me : ℕ) (heard : Heard) → Given (before_rounds s input) input said me heard
    → kept_after (part_of (before_rounds s input) me) (made (part_of (before_rounds s input) me) heard) ≡ part_of (step s input).state me
unfolding step shown_by served made kept_after
keeps_part s input said me heard g =
    let t = before_rounds s input in
    let rejoined = after_rejoin s input.rejoined in
    let shown = shown_by rejoined input in
    (λ i. kept_with (update_in (update_made t input said me heard g i)) (record {
      me = me;
      cycle = t.cycle + 1;
      table = t.table;
      scoreboard = scoreboard_after t.table t.cycle (voted_flags t.table (pattern_made t input said me heard g i)) t.scoreboard;
      ports = ports_made t input said me heard g i;
    }))
    ∙ kept_with-part (update_in (update_packet t.table (decision_in t input) (packets_in t input))) (served rejoined shown) me

-- what it sends
sends_part : (s : State) (input : Input) (said : Relays) (me : ℕ) (heard : Heard) → Given (before_rounds s input) input said me heard
    → (round : Round) → cells_made (part_of (before_rounds s input) me) heard round ≡ cells_sent (step s input).shown round me
unfolding step shown_by
sends_part s input said me heard g A1 = let t = before_rounds s input in ap (λ cell. cell ∷ []) (pattern_mine t input me g.there)
sends_part s input said me heard g A2 = let t = before_rounds s input in patterns_copied t input said me heard g
sends_part s input said me heard g B1 = let t = before_rounds s input in ap (λ cell. cell ∷ []) (packet_mine t input said me heard g)
sends_part s input said me heard g B2 =
    let t = before_rounds s input in
    let settles = packets_settled t input said me heard g in
    λ i. each_below t.table.n (λ sender. cond (is_relayed (decision_made t input said me heard g i) sender) (settles.copy sender i) None)

-- what it notes
notes_part : (s : State) (input : Input) (said : Relays) (me : ℕ) (heard : Heard) → Given (before_rounds s input) input said me heard
    → noted_by (part_of (before_rounds s input) me) (made (part_of (before_rounds s input) me) heard) ≡ syndromes_at (step s input).shown said me
unfolding step shown_by made notes_of syndromes_at
notes_part s input said me heard g =
    let t = before_rounds s input in
    let n = t.table.n in
    let shown = shown_by (after_rejoin s input.rejoined) input in
    let decision = decision_in t input in
    let size = size_of t g.sound in
    let settles = packets_settled t input said me heard g in
    let held = patterns_held t input said me heard g in
    let result = λ (k : ℕ) (c : true ≡ true). pattern_result t input said me heard g k in
    let same = decision_made t input said me heard g in
    let first = off-copies t.cycle kind.P1 n (patterns_in t input) (λ k. true) (own_patterns t me heard) held.copy result in
    let second = off-relays t.cycle kind.P2 n (patterns_in t input) said.patterns (λ k. true) (own_patterns t me heard) size held result in
    let third = ap (absent_ones t.cycle t.table) same ∙ absent-same shown decision in
    let fourth = (λ i. full_ones t.cycle t.table (pattern_made t input said me heard g i) (same i)) ∙ full-same shown decision in
    let fifth = (λ i. off_copies t.cycle kind.D1 (own_packets t me heard) n (is_relayed (same i)))
    ∙ off-copies t.cycle kind.D1 n (packets_in t input) (is_relayed decision) (own_packets t me heard) settles.copy settles.result in
    let sixth = (λ i. off_relays t.cycle kind.D2 (own_packets t me heard) n (is_relayed (same i)))
    ∙ off-relays t.cycle kind.D2 n (packets_in t input) said.packets (is_relayed decision) (own_packets t me heard) size (packets_held t input said me heard g) settles.result in
    let own = own_packets t me heard in
    let seventh = (λ i. off_values t.cycle t.table own (same i) (own_entry_row t.table (same i) own)) ∙ off-values shown decision own settles in
    λ i. first i ++ second i ++ third i ++ fourth i ++ fifth i ++ sixth i ++ seventh i

-- Each element alone holds its part of the one run.
pub each_alone : EachElementAlone
each_alone s input said me heard sound is cells l takes =
    let g = given_in s input said me heard sound is cells l takes in
    record {
      makes = makes_part s input said me heard g;
      keeps = keeps_part s input said me heard g;
      sends = sends_part s input said me heard g;
      notes = notes_part s input said me heard g;
    }
