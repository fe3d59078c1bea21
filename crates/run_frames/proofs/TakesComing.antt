-- An element of a run takes its part of what comes to it, so it makes its part of the cycle.
use Rattle.std.proofs.Common.{◌≡◌, ◌≢◌, ℕ, ◌<◌, Bool, true, false, cond, [], ◌∷◌, length, refl, ap, sym, ◌∙◌, subst}
use Rattle.std.specs.Prelude.{Option, Some, None, if◌then◌else◌, ◌==◌}
use Rattle.std.proofs.lemmas.Bool.{ne_eqb, eq-eqb}
use Rattle.std.proofs.lemmas.List.FromFn.{length-map-range_with_len}
use Rattle.ftpp_base.specs.Lists.{each_below, cell_at, is_this}
use Rattle.ftpp_base.specs.declared.element.Round.{Round}
use Rattle.ftpp_base.specs.declared.element.Round.TheVariants.{A1, A2, B1, B2}
use Rattle.bit_vote.specs.Vote.{IsCell}
use Rattle.bit_vote.specs.Agreed.{copy_at}
use Rattle.bit_vote.proofs.Copies.{copy-fine}
use Rattle.two_round.proofs.Agreement.{at_place}
use Rattle.frame_format.specs.Frames.{width_in, cells_in, first_cell, reads_as}
use Rattle.element_core.specs.Cycle.{State, Input, step, shown_by}
use Rattle.element_core.specs.Sent.{is_relayed, relayed_packet, cells_sent}
use Rattle.element_core.specs.Syndromes.{Relays, relayed_cell}
use Rattle.element_core.specs.Element.{Kept, Heard, own_packet}
use Rattle.element_core.specs.Noted.{own_pattern, decided_by}
use Rattle.element_core.specs.Phases.{no_cells}
use Rattle.element_core.specs.Alone.{IsSound, IsInput, AreRelays, Takes, HoldsItsPart, part_of, before_rounds}
use Rattle.element_core.specs.Together.{Carried, said_to, heard_of}
use Rattle.element_core.specs.ElementValue.{cells_taken, frames_in}
use Rattle.element_core.specs.Steps.{IsTaken}
use Rattle.element_core.proofs.Alone.{each_alone}
use Rattle.element_core.proofs.Together.{said_patterns, said_packets, copy-faulty, relayed-faulty, relayed-fine}
use Rattle.cluster.proofs.Reading.{read_count, read_cell}
use Rattle.run_frames.specs.NodeInRun.{Coming, AreComing, from_others}
use Rattle.run_frames.proofs.SentFrames.{sent_read}

-- ---- the frames that an element takes

-- by round and sender, as a node reads them
abbrev pub rows_of : ℕ → ℕ → Coming → Coming
rows_of n me frames round sender = frames_in (from_others n me (frames round)) sender

-- those of another element are the ones that came
row_other : (n me : ℕ) (frames : Coming) (round : Round) (sender : ℕ) → sender < n → sender ≢ me → rows_of n me frames round sender ≡ frames round sender
row_other n me frames round sender l away =
    at_place n (λ k. if k == me then [] else frames round k) sender [] l ∙ ap (λ (b : Bool). cond b [] (frames round sender)) (ne_eqb sender me away)

-- nothing heard, and both rounds of patterns
abbrev nothing : Heard
nothing = record { patterns = []; relayed_patterns = []; packets = []; relayed_packets = [] }

abbrev heard_first : Kept → Coming → Heard
heard_first kept rows = record {
  patterns = each_below kept.table.n (λ s. cell_at (cells_taken kept nothing A1 (rows A1) s) 0);
  relayed_patterns = each_below kept.table.n (cells_taken kept nothing A2 (rows A2));
  packets = [];
  relayed_packets = [];
}

-- the cells that an element takes of each sender
abbrev pub taken_by : Kept → Coming → Carried
taken_by kept rows A1 sender to = cells_taken kept nothing A1 (rows A1) sender
taken_by kept rows A2 sender to = cells_taken kept nothing A2 (rows A2) sender
taken_by kept rows B1 sender to = cells_taken kept (heard_first kept rows) B1 (rows B1) sender
taken_by kept rows B2 sender to = cells_taken kept nothing B2 (rows B2) sender

-- they are those of its steps
pub is_taken : (kept : Kept) (rows : Coming) → IsTaken kept rows (taken_by kept rows)
is_taken kept rows A1 sender = refl
is_taken kept rows A2 sender = refl
is_taken kept rows B1 sender = refl
is_taken kept rows B2 sender = refl

-- of another element they are what its frame reads as
taken_other : (kept : Kept) (rows : Coming) (round : Round) (sender to : ℕ) → sender ≢ kept.me
    → taken_by kept rows round sender to ≡ reads_as kept.table.n (record { cycle = kept.cycle; round = round }) sender (rows round sender)
taken_other kept rows A1 sender to away =
    ap (λ (b : Bool). cond b (own_pattern kept ∷ []) (reads_as kept.table.n (record { cycle = kept.cycle; round = A1 }) sender (rows A1 sender))) (ne_eqb sender kept.me away)
taken_other kept rows A2 sender to away =
    ap (λ (b : Bool). cond b (no_cells kept.table.n) (reads_as kept.table.n (record { cycle = kept.cycle; round = A2 }) sender (rows A2 sender))) (ne_eqb sender kept.me away)
taken_other kept rows B1 sender to away =
    let first = heard_first kept rows in
    ap (λ (b : Bool). cond b (own_packet kept (decided_by kept first.patterns first.relayed_patterns) ∷ []) (reads_as kept.table.n (record { cycle = kept.cycle; round = B1 }) sender (rows B1 sender)))
    (ne_eqb sender kept.me away)
taken_other kept rows B2 sender to away =
    ap (λ (b : Bool). cond b (no_cells kept.table.n) (reads_as kept.table.n (record { cycle = kept.cycle; round = B2 }) sender (rows B2 sender))) (ne_eqb sender kept.me away)

-- ---- what they are in a run

module _ (s : State) (input : Input) (me : ℕ) (frames : Coming) (sound : IsSound s) (is : IsInput s.table.n input) (good : is_this input.faulty me ≡ false) (come : AreComing (step s input).shown input me frames) where
  -- what the element takes
  abbrev carried : Carried
  carried = taken_by (part_of (before_rounds s input) me) (rows_of s.table.n me frames)

  -- of another one it is what the frame that came reads as
  taken_came : (round : Round) (sender : ℕ) → sender < s.table.n → sender ≢ me → carried round sender me ≡ reads_as s.table.n (record { cycle = s.cycle; round = round }) sender (frames round sender)
  taken_came round sender l away =
      taken_other (part_of (before_rounds s input) me) (rows_of s.table.n me frames) round sender me away
      ∙ ap (reads_as s.table.n (record { cycle = s.cycle; round = round }) sender) (row_other s.table.n me frames round sender l away)

  -- of a fault-free one it is what the run says that it sends
  taken_honest : (round : Round) (sender : ℕ) → sender < s.table.n → sender ≢ me → is_this input.faulty sender ≡ false → carried round sender me ≡ cells_sent (step s input).shown round sender
  unfolding step shown_by
  taken_honest round sender l away fine =
      taken_came round sender l away
      ∙ ap (reads_as s.table.n (record { cycle = s.cycle; round = round }) sender) (come.honest round sender l away fine)
      ∙ sent_read s input round sender sound is

  -- as many cells as the round has
  taken_count : (round : Round) (sender : ℕ) → sender < s.table.n → sender ≢ me → length (carried round sender me) ≡ cells_in s.table.n round
  taken_count round sender l away =
      ap length (taken_came round sender l away) ∙ read_count s.table.n (record { cycle = s.cycle; round = round }) sender (frames round sender)

  -- a fact of a sender, by whether it is the faulty one
  by_fault : {P : Type 0} (k : ℕ) → (is_this input.faulty k ≡ true → P) → (is_this input.faulty k ≡ false → P) → P
  by_fault {P} k wrong right = by (is_this input.faulty k) refl where
    by : (b : Bool) → is_this input.faulty k ≡ b → P
    by true e = wrong e
    by false e = right e

  -- the first rounds have the cells that came from outside
  patterns_heard : (step s input).shown.patterns.heard ≡ input.patterns
  unfolding step shown_by
  patterns_heard = refl

  packets_heard : (step s input).shown.packets.heard ≡ input.packets
  unfolding step shown_by
  packets_heard = refl

  -- its copies of patterns
  pattern_copy : (k : ℕ) → k < s.table.n → k ≢ me → cell_at (carried A1 k me) 0 ≡ copy_at (step s input).shown.patterns me k
  unfolding step shown_by
  pattern_copy k l away =
      let round = (step s input).shown.patterns in
      by_fault k
      (λ bad. ap first_cell (taken_came A1 k l away) ∙ come.patterns k bad ∙ sym (copy-faulty round me k bad (λ e. away (sym e))))
      (λ fine. ap first_cell (taken_honest A1 k l away fine) ∙ sym (copy-fine round me k fine))

  -- and of packets
  packet_copy : (k : ℕ) → k < s.table.n → k ≢ me → cell_at (carried B1 k me) 0 ≡ copy_at (step s input).shown.packets me k
  unfolding step shown_by
  packet_copy k l away =
      let round = (step s input).shown.packets in
      by_fault k
      (λ bad. ap first_cell (taken_came B1 k l away) ∙ come.packets k bad ∙ sym (copy-faulty round me k bad (λ e. away (sym e))))
      (λ fine. ap first_cell (taken_honest B1 k l away fine) ∙ sym (copy-fine round me k fine))

  -- what the faulty one tells it in the second rounds
  abbrev told : Relays
  told = said_to carried input.faulty me

  -- the copies that others relay
  pattern_relayed : (k j : ℕ) → k < s.table.n → k ≢ me → j < s.table.n → cell_at (carried A2 k me) j ≡ relayed_cell (step s input).shown.patterns told.patterns k j
  unfolding step shown_by
  pattern_relayed k j l away m =
      let round = (step s input).shown.patterns in
      by_fault k
      (λ bad. ap (λ cells. cell_at cells j) (said_patterns input.faulty carried k me bad) ∙ sym (relayed-faulty round told.patterns k j bad))
      (λ fine. ap (λ cells. cell_at cells j) (taken_honest A2 k l away fine) ∙ at_place s.table.n (copy_at round k) j None m ∙ sym (relayed-fine round told.patterns k j fine))

  packet_relayed : (k j : ℕ) → k < s.table.n → k ≢ me → j < s.table.n → is_relayed (step s input).shown.decision j ≡ true → cell_at (carried B2 k me) j ≡ relayed_cell (step s input).shown.packets told.packets k j
  unfolding step shown_by
  packet_relayed k j l away m counts =
      let shown = (step s input).shown in
      let round = shown.packets in
      by_fault k
      (λ bad. ap (λ cells. cell_at cells j) (said_packets input.faulty carried k me bad) ∙ sym (relayed-faulty round told.packets k j bad))
      (λ fine. ap (λ cells. cell_at cells j) (taken_honest B2 k l away fine) ∙ at_place s.table.n (relayed_packet shown k) j None m
      ∙ ap (λ (b : Bool). cond b (copy_at round k j) None) counts ∙ sym (relayed-fine round told.packets k j fine))

  -- it takes its part of the rounds
  pub takes : Takes (step s input).shown told me (heard_of carried s.table.n me)
  unfolding step shown_by
  takes =
      let n = s.table.n in
      record {
        patterns = record {
          count = length-map-range_with_len (λ k. cell_at (carried A1 k me) 0) 0 n;
          copy = λ k l away. at_place n (λ j. cell_at (carried A1 j me) 0) k None l ∙ pattern_copy k l away;
          cells = λ k l away. ap length (at_place n (λ j. carried A2 j me) k [] l) ∙ taken_count A2 k l away;
          relay = λ k j l away m counts. ap (λ xs. cell_at xs j) (at_place n (λ i. carried A2 i me) k [] l) ∙ pattern_relayed k j l away m;
        };
        packets = record {
          count = length-map-range_with_len (λ k. cell_at (carried B1 k me) 0) 0 n;
          copy = λ k l away. at_place n (λ j. cell_at (carried B1 j me) 0) k None l ∙ packet_copy k l away;
          cells = λ k l away. ap length (at_place n (λ j. carried B2 j me) k [] l) ∙ taken_count B2 k l away;
          relay = λ k j l away m counts. ap (λ xs. cell_at xs j) (at_place n (λ i. carried B2 i me) k [] l) ∙ packet_relayed k j l away m counts;
        };
      }

  -- the faulty one is another
  faulty_away : (ne : ℕ) → input.faulty ≡ Some ne → ne ≢ me
  faulty_away ne e same = let bad : is_this input.faulty me ≡ true = ap (λ o. is_this o me) e ∙ eq-eqb ne me same in cc

  -- a cell that it tells is one of bytes
  told_cell : (round : Round) (ne k : ℕ) → input.faulty ≡ Some ne → IsCell (width_in round) (cell_at (carried round ne me) k)
  told_cell round ne k e =
      let bad : is_this input.faulty ne ≡ true = ap (λ o. is_this o ne) e ∙ eq-eqb ne ne refl in
      subst (λ cells. IsCell (width_in round) (cell_at cells k)) (sym (taken_came round ne (is.faulty ne e) (faulty_away ne e)))
      (read_cell s.table.n (record { cycle = s.cycle; round = round }) ne (frames round ne) k (λ i. come.bytes round ne i bad))

  -- so what it tells has cells of their widths
  pub told_cells : AreRelays told
  told_cells = by input.faulty refl where
    by : (o : Option ℕ) → input.faulty ≡ o → AreRelays (said_to carried o me)
    by None e = record { patterns = λ k. tt; packets = λ k. tt }
    by (Some ne) e = record { patterns = λ k. told_cell A2 ne k e; packets = λ k. told_cell B2 ne k e }

  -- The element holds its part of the cycle.
  pub holds : me < s.table.n → HoldsItsPart (step s input) told me (part_of (before_rounds s input) me) (heard_of carried s.table.n me)
  holds l = each_alone s input told me (heard_of carried s.table.n me) sound is told_cells l takes
