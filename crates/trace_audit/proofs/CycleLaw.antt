-- The frames of each cycle of a run are expected, and what is known after it is the state's.
use Rattle.std.proofs.Common.{◌≡◌, ◌≢◌, ℕ, ◌<◌, ◌≤◌, Bool, true, false, cond, List, [], ◌∷◌, length, refl, sym, ◌∙◌, ap, arith, subst, ◌⊎◌, inl, inr}
use Rattle.std.specs.Prelude.{Option, Some, None, is_some, is_none, option_map, unwrap_or, replicate, ◌&&◌, ◌==◌}
use Rattle.std.specs.List.{list_all, AllByRecursion}
use Rattle.std.proofs.lemmas.Bool.{and_from, and_parts, cases_lt, eqb-true, eqb-false}
use Rattle.std.proofs.lemmas.List.{get_or_past}
use Rattle.std.proofs.lemmas.List.FromFn.{length-map-range_with_len}
use Rattle.ftpp_base.specs.Bits.{eight}
use Rattle.ftpp_base.specs.Lists.{each_below, cell_at, is_this}
use Rattle.ftpp_base.specs.declared.element.Proc.{Proc}
use Rattle.ftpp_base.specs.declared.element.Round.{Round}
use Rattle.ftpp_base.specs.declared.element.Round.TheVariants.{A1, A2, B1, B2}
use Rattle.packet_format.specs.Packets.{same_bytes}
use Rattle.bit_vote.specs.Vote.{Cell, IsCell}
use Rattle.bit_vote.specs.Agreed.{copy_at}
use Rattle.bit_vote.proofs.Majority.{same_cell-refl}
use Rattle.two_round.proofs.Agreement.{at_place}
use Rattle.two_round.proofs.Others.{IsSize}
use Rattle.local_pattern.specs.Pattern.{entry_of, column_bytes, entry_bytes, read_entry}
use Rattle.frame_format.specs.Frames.{frame_bytes, reads_as, decoded, first_cell, IsWide, IsOfOne, width_in, cells_in}
use Rattle.frame_format.proofs.Decoded.{decoded-frame}
use Rattle.config_table.specs.declared.decisions.Decision.{Decision}
use Rattle.config_table.specs.declared.decisions.Decision.TheVariants.{Idle, Discard, Exchange}
use Rattle.config_table.specs.declared.decisions.Service.{Service}
use Rattle.config_table.specs.Table.{TableValue}
use Rattle.flag_vote.specs.Flags.{Pattern, voted_flags}
use Rattle.scoreboard.specs.Choice.{scoreboard_decision, scoreboard_after}
use Rattle.data_exchange.specs.Entries.{contributes, own_row, packet_of_head, senders, may_send, member_at}
use Rattle.processor_buffers.specs.Queues.{Posted, first, Queues}
use Rattle.element_core.specs.Processors.{head_at, entry_shown, column_shown, cleared, emptied_at}
use Rattle.element_core.proofs.Outputs.{deliveries-output}
use Rattle.element_core.proofs.PatternLaws.{entry-own, entry_shown-plain}
use Rattle.element_core.proofs.Sound.{size-table_after, before_sound}
use Rattle.scoreboard.specs.Board.{after_update}
use Rattle.table_update.specs.declared.Update.{Update}
use Rattle.table_update.specs.declared.Applied.{Applied}
use Rattle.table_update.specs.declared.Applied.TheVariants as applied_variant
use Rattle.table_update.specs.Updates.{applied, table_after, named_group}
use Rattle.ftpp_base.specs.Sets.{has}
use Rattle.element_core.specs.Cycle.{served, with_update, changed_by, after_service, after_deliveries, State, Input, step, shown_by, after_rejoin, pattern_sent, row_sent, update_packet, update_in}
use Rattle.local_pattern.specs.declared.Entry.{Entry}
use Rattle.packet_format.specs.declared.Packet.{Packet}
use Rattle.config_table.specs.Kinds.{is_relayed}
use Rattle.element_core.specs.Alone.{IsSound, IsInput, before_rounds}
use Rattle.element_core.proofs.RoundShapes.{packet_shape}
use Rattle.element_core.proofs.AloneLaws.{patterns_in, pattern_in, decision_in, packets_in, size_of}
use Rattle.element_core.proofs.AdmittedMembers.{Admitted, admitted_has}
use Rattle.trace_audit.specs.Known.{is_entry, keeps_head, Known, known_served, known_by, known_with, known_after, is_among, popped, Frames, slot_of, least_receiver, cell_told, own_told, heard_told, round_told, pattern_told, decision_told, update_told, shows_port, shows_ports, sends_packet, is_frame_with, copy_relayed, is_expected, AreExpected}
use Rattle.trace_audit.specs.Laws.{AreFramesOf, IsKnown, request_of, Stands, CycleFollows}
use Rattle.trace_audit.proofs.Rounds.{each_same, SameRounds, copy_same, pattern_same, packet_same}
use Rattle.trace_audit.proofs.Standing.{port_good, head_shown, still_stands, cleared_others, service_others, acts_stand, shown_stands}

-- ---- what is given of a cycle

-- what is known at a state, with what stands
abbrev pub seen : State → Pattern → Known
seen t standing = record { cycle = t.cycle; table = t.table; scoreboard = t.scoreboard; standing = standing }

-- The frames of the rounds after a state: those of the fault-free elements are of what the rounds give.
pub record IsHeard (t : State) (input : Input) (frames : Frames) : Type 0 where
  pub sound : IsSound t
  pub is : IsInput t.table.n input
  pub first_patterns : (s r : ℕ) → s < t.table.n → r < t.table.n → s ≢ r → is_this input.faulty s ≡ false
      → frames A1 s r ≡ frame_bytes (record { cycle = t.cycle; round = A1 }) s (pattern_sent t.table t.queues s ∷ [])
  pub second_patterns : (s r : ℕ) → s < t.table.n → r < t.table.n → s ≢ r → is_this input.faulty s ≡ false
      → frames A2 s r ≡ frame_bytes (record { cycle = t.cycle; round = A2 }) s (each_below t.table.n (copy_at (patterns_in t input) s))
  pub first_packets : (s r : ℕ) → s < t.table.n → r < t.table.n → s ≢ r → is_this input.faulty s ≡ false
      → frames B1 s r ≡ frame_bytes (record { cycle = t.cycle; round = B1 }) s (row_sent t.table t.queues (decision_in t input) s ∷ [])
  pub second_packets : (s r : ℕ) → s < t.table.n → r < t.table.n → s ≢ r → is_this input.faulty s ≡ false
      → frames B2 s r ≡ frame_bytes (record { cycle = t.cycle; round = B2 }) s (each_below t.table.n (copy_relayed (decision_in t input) (packets_in t input) s))
  pub patterns : (s r : ℕ) → r < t.table.n → s ≢ r → is_this input.faulty s ≡ true
      → first_cell (reads_as t.table.n (record { cycle = t.cycle; round = A1 }) s (frames A1 s r)) ≡ cell_at input.patterns r
  pub packets : (s r : ℕ) → r < t.table.n → s ≢ r → is_this input.faulty s ≡ true
      → first_cell (reads_as t.table.n (record { cycle = t.cycle; round = B1 }) s (frames B1 s r)) ≡ cell_at input.packets r

-- ---- frames of one cell

-- a frame of one cell is decoded to it
one_decoded : (n cycle s : ℕ) (round : Round) (cell : Cell) (bytes : List ℕ) → IsOfOne round → IsWide (width_in round) cell
    → bytes ≡ frame_bytes (record { cycle = cycle; round = round }) s (cell ∷ []) → decoded n (record { cycle = cycle; round = round }) s bytes ≡ Some (cell ∷ [])
one_decoded n cycle s A1 cell bytes is wide e = decoded-frame n (record { cycle = cycle; round = A1 }) s bytes (cell ∷ []) (record { spelled = e; count = refl; wide = (wide, tt) })
one_decoded n cycle s A2 cell bytes is wide e = absurd is
one_decoded n cycle s B1 cell bytes is wide e = decoded-frame n (record { cycle = cycle; round = B1 }) s bytes (cell ∷ []) (record { spelled = e; count = refl; wide = (wide, tt) })
one_decoded n cycle s B2 cell bytes is wide e = absurd is

-- so it is read
one_read : (n cycle s : ℕ) (round : Round) (cell : Cell) (bytes : List ℕ) → IsOfOne round → IsWide (width_in round) cell
    → bytes ≡ frame_bytes (record { cycle = cycle; round = round }) s (cell ∷ []) → first_cell (reads_as n (record { cycle = cycle; round = round }) s bytes) ≡ cell
one_read n cycle s round cell bytes is wide e =
    ap (λ (o : Option (List Cell)). first_cell (unwrap_or o (replicate (cells_in n round) None))) (one_decoded n cycle s round cell bytes is wide e)

-- a cell of a width is as wide
wide_cell : (wide : ℕ) (cell : Cell) → IsCell wide cell → IsWide wide cell
wide_cell wide None is = tt
wide_cell wide (Some row) is = is.long

-- the least receiver is another, and is there
pub least_by : (n s : ℕ) (b : Bool) → (s == 0) ≡ b → 1 < n → (cond b 1 0 < n) × (s ≢ cond b 1 0)
least_by n s true e l = let at = eqb-true s 0 e in (omega arith, λ f. let never : ⊥ = omega arith in never)
least_by n s false e l = let away = eqb-false s 0 e in (omega arith, away)

pub two_there : (n : ℕ) → IsSize n → 1 < n
two_there n (inl e) = omega arith
two_there n (inr e) = omega arith

-- what is so of each of eight is so of all
all_numbers : (p : ℕ → Bool) (ks : List ℕ) → AllByRecursion (λ k. p k ≡ true) ks → list_all p ks ≡ true
all_numbers p [] a = refl
all_numbers p (k ∷ ks) a = and_from (p k) (list_all p ks) a.0 (all_numbers p ks a.1)

-- equal bytes are the same
bytes_equal : (xs ys : List ℕ) → xs ≡ ys → same_bytes xs ys ≡ true
bytes_equal xs ys e = ap (λ zs. same_bytes xs zs) (sym e) ∙ same_cell-refl (Some xs)

module _ (t : State) (input : Input) (frames : Frames) (standing : Pattern) (h : IsHeard t input frames) where
  abbrev n : ℕ
  n = t.table.n

  abbrev known : Known
  known = seen t standing

  least : (s : ℕ) → (least_receiver s < n) × (s ≢ least_receiver s)
  least s = least_by n s (s == 0) refl (two_there n (size_of t h.sound))

  -- ---- the round of patterns

  -- a fault-free element's own pattern is read of its frame
  pattern_own : (s : ℕ) → s < n → is_this input.faulty s ≡ false → own_told known frames A1 s ≡ pattern_sent t.table t.queues s
  pattern_own s l good =
      let to = least s in
      one_read n t.cycle s A1 (pattern_sent t.table t.queues s) (frames A1 s (least_receiver s)) tt refl (h.first_patterns s (least_receiver s) l to.0 to.1 good)

  -- own values, told and shown, are the same
  own_same : (f g : ℕ → Cell) → ((s : ℕ) → s < n → is_this input.faulty s ≡ false → f s ≡ g s) → (s : ℕ) → is_this input.faulty s ≡ false → cell_at (each_below n f) s ≡ cell_at (each_below n g) s
  own_same f g e s good = by (cases_lt s n) where
    by : (s < n) ⊎ (n ≤ s) → cell_at (each_below n f) s ≡ cell_at (each_below n g) s
    by (inl l) = at_place n f s None l ∙ e s l good ∙ sym (at_place n g s None l)
    by (inr l) =
        let long : length (each_below n f) ≡ n = length-map-range_with_len f 0 n in
        let wide : length (each_below n g) ≡ n = length-map-range_with_len g 0 n in
        get_or_past (each_below n f) s None (omega arith) ∙ sym (get_or_past (each_below n g) s None (omega arith))

  -- what is heard of the faulty one
  heard_same : (round : Round) (given : List Cell) (faulty : Option ℕ) → ((s r : ℕ) → r < n → s ≢ r → is_this faulty s ≡ true → cell_told known frames round s r ≡ cell_at given r)
      → (s r : ℕ) → is_this faulty s ≡ true → r < n → s ≢ r → cell_at (each_below n (heard_told known faulty frames round)) r ≡ cell_at given r
  heard_same round given None e s r bad l away = cc
  heard_same round given (Some f) e s r bad l away =
      let at : f ≡ s = eqb-true f s bad in
      at_place n (heard_told known (Some f) frames round) r None l ∙ ap (λ k. cell_told known frames round k r) at ∙ e s r l away bad

  -- the first round of patterns, as it is told and as it is
  patterns_same : SameRounds n input.faulty (each_below n (own_told known frames A1)) (each_below n (pattern_sent t.table t.queues)) (each_below n (heard_told known input.faulty frames A1)) input.patterns
  patterns_same = record {
    own = own_same (own_told known frames A1) (pattern_sent t.table t.queues) pattern_own;
    heard = heard_same A1 input.patterns input.faulty h.patterns;
    heard_count = length-map-range_with_len (heard_told known input.faulty frames A1) 0 n;
    told_count = h.is.patterns;
  }

  -- so is the pattern
  pub pattern_is : pattern_told known input.faulty frames ≡ pattern_in t input
  unfolding pattern_told round_told
  pattern_is = pattern_same n input.faulty _ _ _ _ patterns_same t.table

  -- and the decision
  pub decision_is : decision_told known input.faulty frames ≡ decision_in t input
  unfolding decision_told
  decision_is = ap (λ (pattern : Pattern). scoreboard_decision t.table t.cycle (voted_flags t.table pattern) t.scoreboard) pattern_is

  pattern_copy : (e s : ℕ) → e < n → is_this input.faulty e ≡ false → copy_at (round_told known input.faulty frames A1) e s ≡ copy_at (patterns_in t input) e s
  unfolding round_told
  pattern_copy e s l good = copy_same n input.faulty _ _ _ _ patterns_same e s l good

  -- ---- the round of packets

  packet_wide : (s : ℕ) → s < n → IsWide 64 (row_sent t.table t.queues (decision_in t input) s)
  packet_wide s l =
      subst (IsWide 64) (at_place n (row_sent t.table t.queues (decision_in t input)) s None l)
      (wide_cell 64 (cell_at (packets_in t input).own s) ((packet_shape t.table t.queues (decision_in t input) input h.sound.waiting h.is).own s))

  packet_decoded : (s : ℕ) → s < n → is_this input.faulty s ≡ false
      → decoded n (slot_of known B1) s (frames B1 s (least_receiver s)) ≡ Some (row_sent t.table t.queues (decision_in t input) s ∷ [])
  packet_decoded s l good =
      let to = least s in
      one_decoded n t.cycle s B1 (row_sent t.table t.queues (decision_in t input) s) (frames B1 s (least_receiver s)) tt (packet_wide s l) (h.first_packets s (least_receiver s) l to.0 to.1 good)

  packet_own : (s : ℕ) → s < n → is_this input.faulty s ≡ false → own_told known frames B1 s ≡ row_sent t.table t.queues (decision_in t input) s
  packet_own s l good =
      let to = least s in
      one_read n t.cycle s B1 (row_sent t.table t.queues (decision_in t input) s) (frames B1 s (least_receiver s)) tt (packet_wide s l) (h.first_packets s (least_receiver s) l to.0 to.1 good)

  packets_same : SameRounds n input.faulty (each_below n (own_told known frames B1)) (each_below n (row_sent t.table t.queues (decision_in t input))) (each_below n (heard_told known input.faulty frames B1)) input.packets
  packets_same = record {
    own = own_same (own_told known frames B1) (row_sent t.table t.queues (decision_in t input)) packet_own;
    heard = heard_same B1 input.packets input.faulty h.packets;
    heard_count = length-map-range_with_len (heard_told known input.faulty frames B1) 0 n;
    told_count = h.is.packets;
  }

  packet_copy : (e s : ℕ) → e < n → is_this input.faulty e ≡ false → copy_at (round_told known input.faulty frames B1) e s ≡ copy_at (packets_in t input) e s
  unfolding round_told
  packet_copy e s l good = copy_same n input.faulty _ _ _ _ packets_same e s l good

  -- the update is the same
  pub update_is : update_told known input.faulty frames ≡ update_in (update_packet t.table (decision_in t input) (packets_in t input))
  unfolding update_told round_told
  update_is =
      ap (λ (d : Decision). update_in (update_packet t.table d (round_told known input.faulty frames B1))) decision_is
      ∙ ap update_in (packet_same n input.faulty _ _ _ _ packets_same t.table (decision_in t input))

  -- ---- each frame is expected

  -- a frame to the least receiver by its test, and to another as the same bytes
  passes_by : (round : Round) (s r : ℕ) (passes b : Bool) → passes ≡ true → frames round s r ≡ frames round s (least_receiver s)
      → cond b passes (same_bytes (frames round s r) (frames round s (least_receiver s))) ≡ true
  passes_by round s r passes true e same = e
  passes_by round s r passes false e same = bytes_equal _ _ same

  second_pattern : (s r : ℕ) → s < n → r < n → s ≢ r → is_this input.faulty s ≡ false → is_expected known input.faulty frames A2 s r ≡ true
  unfolding is_expected
  second_pattern s r l m away good =
      bytes_equal _ _ (h.second_patterns s r l m away good
      ∙ ap (frame_bytes (slot_of known A2) s) (each_same n (copy_at (patterns_in t input) s) (copy_at (round_told known input.faulty frames A1) s) (λ k c. sym (pattern_copy s k l good))))

  packet_relayed : (s k : ℕ) → s < n → is_this input.faulty s ≡ false
      → copy_relayed (decision_in t input) (packets_in t input) s k ≡ copy_relayed (decision_told known input.faulty frames) (round_told known input.faulty frames B1) s k
  packet_relayed s k l good = λ i. cond (is_relayed (sym decision_is i) k) (sym (packet_copy s k l good) i) None

  second_packet : (s r : ℕ) → s < n → r < n → s ≢ r → is_this input.faulty s ≡ false → is_expected known input.faulty frames B2 s r ≡ true
  unfolding is_expected
  second_packet s r l m away good =
      bytes_equal _ _ (h.second_packets s r l m away good
      ∙ ap (frame_bytes (slot_of known B2) s) (each_same n (copy_relayed (decision_in t input) (packets_in t input) s)
      (copy_relayed (decision_told known input.faulty frames) (round_told known input.faulty frames B1) s) (λ k c. packet_relayed s k l good)))

  module _ (stands : (proc : Proc) → proc.ne < n → proc.port < 8 → is_this input.faulty proc.ne ≡ false → Stands (entry_of standing proc) (head_at t.queues proc)) where
    -- a port's bytes show its entry, and the head that stands
    port_shown : (s port : ℕ) → s < n → port < 8 → is_this input.faulty s ≡ false
        → (is_entry (entry_bytes (entry_shown t.table t.queues (record { ne = s; port = port })))
        && keeps_head (entry_of standing (record { ne = s; port = port })) (read_entry (entry_bytes (entry_shown t.table t.queues (record { ne = s; port = port }))))) ≡ true
    port_shown s port l m good =
        let proc : Proc = record { ne = s; port = port } in
        port_good (entry_of standing proc) (entry_shown t.table t.queues proc) (entry_shown-plain t.table t.queues proc)
        (λ e. head_shown (head_at t.queues proc) (entry_of standing proc).desc (stands proc l m good e))

    ports_shown : (s : ℕ) → s < n → is_this input.faulty s ≡ false → shows_ports standing s (pattern_sent t.table t.queues s) ≡ true
    unfolding shows_port
    ports_shown s l good =
        all_numbers (shows_port standing s (column_bytes (column_shown t.table t.queues s))) eight (
          port_shown s 0 l (omega arith) good,
          (
            port_shown s 1 l (omega arith) good,
            (
              port_shown s 2 l (omega arith) good,
              (
                port_shown s 3 l (omega arith) good,
                (port_shown s 4 l (omega arith) good, (port_shown s 5 l (omega arith) good, (port_shown s 6 l (omega arith) good, (port_shown s 7 l (omega arith) good, tt)))),
              ),
            ),
          ),
        )

    first_pattern : (s r : ℕ) → s < n → r < n → s ≢ r → is_this input.faulty s ≡ false → is_expected known input.faulty frames A1 s r ≡ true
    unfolding is_expected
    first_pattern s r l m away good =
        let to = least s in
        passes_by A1 s r (shows_ports standing s (own_told known frames A1 s)) (r == least_receiver s)
        (ap (shows_ports standing s) (pattern_own s l good) ∙ ports_shown s l good)
        (h.first_patterns s r l m away good ∙ sym (h.first_patterns s (least_receiver s) l to.0 to.1 good))

  -- the row of a member whose head carries the request is there
  row_there : (service : Service) (s : ℕ) → Admitted t service s
      → is_some (unwrap_or (option_map (λ (proc : Proc). packet_of_head service.desc (head_at t.queues proc)) (member_at (senders t.table service.vid) s)) None) ≡ true
  row_there service s a =
      ap (λ (o : Option Proc). is_some (unwrap_or (option_map (λ (proc : Proc). packet_of_head service.desc (head_at t.queues proc)) o) None)) a.live
      ∙ ap (λ (o : Option Posted). is_some (packet_of_head service.desc o)) a.held
      ∙ ap (λ (b : Bool). is_some (cond b (Some a.head.1.bytes) None)) a.carries

  row_by : (service : Service) (s : ℕ) (b : Bool) → contributes service s ≡ b → decision_in t input ≡ Exchange service → s < n → is_this input.faulty s ≡ false
      → cond b (is_some (own_row t.table (head_at t.queues) service s)) (is_none (own_row t.table (head_at t.queues) service s)) ≡ true
  row_by service s true e decided l good =
      let parts = and_parts (has service.admitted s) (may_send service.kind s) e in
      let row : Cell = unwrap_or (option_map (λ (proc : Proc). packet_of_head service.desc (head_at t.queues proc)) (member_at (senders t.table service.vid) s)) None in
      ap (λ (b : Bool). is_some (cond b row None)) e ∙ row_there service s (admitted_has t input service s h.sound decided l good parts.0)
  row_by service s false e decided l good =
      let row : Cell = unwrap_or (option_map (λ (proc : Proc). packet_of_head service.desc (head_at t.queues proc)) (member_at (senders t.table service.vid) s)) None in
      ap (λ (b : Bool). is_none (cond b row None)) e

  sends_by : (decision : Decision) (s : ℕ) → decision_in t input ≡ decision → s < n → is_this input.faulty s ≡ false
      → is_frame_with (sends_packet decision s) (Some (row_sent t.table t.queues decision s ∷ [])) ≡ true
  sends_by Idle s decided l good = refl
  sends_by (Discard vid desc number admitted waited) s decided l good = refl
  sends_by (Exchange service) s decided l good = row_by service s (contributes service s) refl decided l good

  first_packet : (s r : ℕ) → s < n → r < n → s ≢ r → is_this input.faulty s ≡ false → is_expected known input.faulty frames B1 s r ≡ true
  unfolding is_expected
  first_packet s r l m away good =
      let to = least s in
      passes_by B1 s r (is_frame_with (sends_packet (decision_told known input.faulty frames) s) (decoded n (slot_of known B1) s (frames B1 s (least_receiver s)))) (r == least_receiver s)
      ((λ i. is_frame_with (sends_packet (decision_is i) s) (packet_decoded s l good i)) ∙ sends_by (decision_in t input) s refl l good)
      (h.first_packets s r l m away good ∙ sym (h.first_packets s (least_receiver s) l to.0 to.1 good))

  -- so each frame is expected
  pub all_expected : ((proc : Proc) → proc.ne < n → proc.port < 8 → is_this input.faulty proc.ne ≡ false → Stands (entry_of standing proc) (head_at t.queues proc)) → AreExpected known input.faulty frames
  all_expected stands A1 s r l m away good = first_pattern stands s r l m away good
  all_expected stands A2 s r l m away good = second_pattern s r l m away good
  all_expected stands B1 s r l m away good = first_packet s r l m away good
  all_expected stands B2 s r l m away good = second_packet s r l m away good

-- ---- from the frames of a cycle

-- the frames of a cycle of a run are those of the rounds after its state
frames_heard : (s : State) (input : Input) (frames : Frames) → IsSound s → IsInput s.table.n input → AreFramesOf (step s input).shown input frames → IsHeard (before_rounds s input) input frames
unfolding step shown_by
frames_heard s input frames sound is f =
    let t = before_rounds s input in
    record {
      sound = before_sound s input sound is.acts;
      is = is;
      first_patterns = λ e r l m away good. f.honest A1 e r l m away good
          ∙ ap (λ (c : Cell). frame_bytes (record { cycle = t.cycle; round = A1 }) e (c ∷ [])) (at_place t.table.n (pattern_sent t.table t.queues) e None l);
      second_patterns = λ e r l m away good. f.honest A2 e r l m away good;
      first_packets = λ e r l m away good. f.honest B1 e r l m away good
          ∙ ap (λ (c : Cell). frame_bytes (record { cycle = t.cycle; round = B1 }) e (c ∷ [])) (at_place t.table.n (row_sent t.table t.queues (decision_in t input)) e None l);
      second_packets = λ e r l m away good. f.honest B2 e r l m away good;
      patterns = f.patterns;
      packets = f.packets;
    }

-- ---- what is known after it

module _ (s : State) (input : Input) (frames : Frames) (standing : Pattern) (h : IsHeard (before_rounds s input) input frames) where
  abbrev t : State
  t = before_rounds s input

  abbrev k : Known
  k = seen t standing

  -- the queues after the heads were popped and the packets delivered
  head_after : (proc : Proc) → is_among (popped t.table (decision_in t input)) proc ≡ false
      → (entries : List (Option Packet)) → head_at (after_deliveries t.table t.cycle (decision_in t input) entries (after_service t.table (decision_in t input) t.queues)) proc ≡ head_at t.queues proc
  head_after proc away entries =
      ap first (deliveries-output t.table t.cycle (decision_in t input) entries (after_service t.table (decision_in t input) t.queues) proc)
      ∙ ap (λ (q : Queues). first q.output) (service_others t.table (decision_in t input) t.queues proc away)

  -- what a port showed stands for its head
  entry_stands : (proc : Proc) (head : Option Posted) → proc.ne < t.table.n → proc.port < 8 → is_this input.faulty proc.ne ≡ false → head ≡ head_at t.queues proc
      → Stands (entry_of (pattern_told k input.faulty frames) proc) head
  entry_stands proc head l m good e =
      subst (λ (entry : Entry). Stands entry head)
      (sym (ap (λ (pattern : Pattern). entry_of pattern proc) (pattern_is t input frames standing h) ∙ entry-own t.table t.queues input proc l m good))
      (λ there. ap request_of e ∙ shown_stands (head_at t.queues proc) there)

  -- before an update
  served_known : IsKnown (served (after_rejoin s input.rejoined) (step s input).shown) input.faulty (known_served k input.faulty frames)
  unfolding step shown_by served known_served
  served_known = record {
    cycle = refl;
    table = refl;
    scoreboard = ap (λ (pattern : Pattern). scoreboard_after t.table t.cycle (voted_flags t.table pattern) t.scoreboard) (pattern_is t input frames standing h);
    standing = λ proc l m good.
        still_stands t.table.n (pattern_told k input.faulty frames) (popped t.table (decision_told k input.faulty frames)) proc _ l m
        (λ away. entry_stands proc _ l m good
        (head_after proc (ap (λ (d : Decision). is_among (popped t.table d) proc) (sym (decision_is t input frames standing h)) ∙ away) _));
  }

-- an update changes what is known as it changes the state
changed_known : (a : Applied) (update : Update) (x : State) (faulty : Option ℕ) (k : Known) → IsKnown x faulty k → IsKnown (changed_by a update x) faulty (known_by a update k)
changed_known (applied_variant.Done procs) update x faulty k is =
    let size = size-table_after x.table update in
    record {
      cycle = is.cycle;
      table = ap (λ (table : TableValue). table_after table update) is.table;
      scoreboard = λ i. after_update (table_after (is.table i) update) (named_group update) (is.scoreboard i);
      standing = λ proc l m good.
          let there : proc.ne < x.table.n = omega arith in
          let known_there : proc.ne < k.table.n = subst (λ (table : TableValue). proc.ne < table.n) (sym is.table) there in
          still_stands k.table.n k.standing procs.items proc (head_at (cleared x.queues procs.items) proc) known_there m
          (λ away. subst (λ (q : Queues). Stands (entry_of k.standing proc) (first q.output)) (sym (cleared_others x.queues procs.items proc away)) (is.standing proc there m good));
    }
changed_known (applied_variant.Refused error) update x faulty k is = is
changed_known applied_variant.Absent update x faulty k is = is

update_known : (u : Option Update) (x : State) (faulty : Option ℕ) (k : Known) → IsKnown x faulty k → IsKnown (with_update u x) faulty (known_with u k)
update_known None x faulty k is = is
update_known (Some update) x faulty k is =
    subst (λ (table : TableValue). IsKnown (changed_by (applied x.table update) update x) faulty (known_by (applied table update) update k)) (sym is.table)
    (changed_known (applied x.table update) update x faulty k is)

-- after the cycle
after_known : (s : State) (input : Input) (frames : Frames) (standing : Pattern) → IsHeard (before_rounds s input) input frames
    → IsKnown (step s input).state input.faulty (known_after (seen s standing) input.faulty frames)
unfolding step shown_by known_after
after_known s input frames standing h =
    let t = before_rounds s input in
    let u = update_in (update_packet t.table (decision_in t input) (packets_in t input)) in
    subst (λ (v : Option Update). IsKnown (with_update u (served (after_rejoin s input.rejoined) (step s input).shown)) input.faulty (known_with v (known_served (seen s standing) input.faulty frames)))
    (sym (update_is t input frames standing h))
    (update_known u (served (after_rejoin s input.rejoined) (step s input).shown) input.faulty (known_served (seen s standing) input.faulty frames) (served_known s input frames standing h))

-- ---- the cycle

-- heads that stand stand after the acts, where none rejoined
before_stands : (s : State) (input : Input) (proc : Proc) (before : Entry) → input.rejoined ≡ None → Stands before (head_at s.queues proc) → Stands before (head_at (before_rounds s input).queues proc)
before_stands s input proc before calm stands =
    acts_stand s.table (emptied_at s.queues input.rejoined) input.acts proc before
    (subst (λ (rejoined : Option ℕ). Stands before (head_at (emptied_at s.queues rejoined) proc)) (sym calm) stands)

-- The frames of each cycle of a run are expected, and what is known after it is the state's.
pub cycle_follows : CycleFollows
cycle_follows s input known frames sound is calm known_is f =
    let h = frames_heard s input frames sound is f in
    let k : Known = seen s known.standing in
    let same : known ≡ k = λ i. record { cycle = known_is.cycle i; table = known_is.table i; scoreboard = known_is.scoreboard i; standing = known.standing } in
    subst (λ (k : Known). AreExpected k input.faulty frames × IsKnown (step s input).state input.faulty (known_after k input.faulty frames)) (sym same) (
      all_expected (before_rounds s input) input frames known.standing h (λ proc l m good. before_stands s input proc (entry_of known.standing proc) calm (known_is.standing proc l m good)),
      after_known s input frames known.standing h,
    )
