-- An overrun at a fault-free element comes only where the input was full before the rounds, and its member lags by more than its timeout.
use Rattle.std.proofs.Common.{◌≡◌, ℕ, ◌<◌, ◌≤◌, Bool, true, false, cond, length, refl, ap, arith, sym, ◌∙◌, ◌⊎◌, inl, inr, subst}
use Rattle.std.specs.Prelude.{Option, Some, None, option_map, filter, nat_lt, slice_get, slice_index, Contains, ◌||◌, ◌==◌}
use Rattle.std.proofs.lemmas.Bool.{ltb-true, ltb-false, cases_lt}
use Rattle.std.proofs.lemmas.List.{get_or_past}
use Rattle.std.proofs.lemmas.List.Elements.{All-from_recursion, All-contains}
use Rattle.std.proofs.lemmas.List.FromFn.{length-map-range_with_len}
use Rattle.ftpp_base.specs.Lists.{cell_at, is_this, is_in}
use Rattle.ftpp_base.specs.Sets.{has, set_of}
use Rattle.ftpp_base.specs.declared.element.Proc.{Proc}
use Rattle.ftpp_base.proofs.SetLaws.{has-set_where}
use Rattle.packet_format.specs.declared.Packet.{Packet}
use Rattle.two_round.proofs.Agreement.{at_place}
use Rattle.config_table.specs.declared.groups.Group.{Group}
use Rattle.config_table.specs.declared.decisions.Decision.{Decision}
use Rattle.config_table.specs.declared.decisions.Decision.TheVariants.{Exchange}
use Rattle.config_table.specs.declared.decisions.Service.{Service}
use Rattle.config_table.specs.Groups.{members_of, live_members, live_seats, elements_of}
use Rattle.config_table.specs.Table.{TableValue, IsValid, is_named, group_named, in_limit}
use Rattle.flag_vote.specs.Flags.{Pattern, has_space, flags_of, voted_flags}
use Rattle.scoreboard.specs.Board.{Scoreboard, marked, line_of, lag_of}
use Rattle.scoreboard.specs.Choice.{takes_at, after_decision}
use Rattle.processor_buffers.specs.Queues.{has_in_room}
use Rattle.processor_buffers.specs.declared.Handed.TheVariants.{Overrun}
use Rattle.data_exchange.specs.Entries.{member_at, members_vote, packet_in}
use Rattle.bit_vote.specs.Agreed.{agreed}
use Rattle.element_core.specs.Processors.{queues_of}
use Rattle.element_core.specs.Cycle.{State, Input, after_service, handed_at, update_packet, update_in, with_update, after_rejoin, shown_by, served, step, is_delivered}
use Rattle.element_core.specs.Alone.{IsSound, IsInput, before_rounds}
use Rattle.whole_run.specs.Laws.{OverrunsOnlyFull}
use Rattle.element_core.proofs.PortLaws.{IsAt, IsAt-member_at}
use Rattle.element_core.proofs.Sound.{before_sound}
use Rattle.element_core.proofs.DecisionLaws.{IfExchange, HasVid, HasVid-named, flags_named-voted}
use Rattle.element_core.proofs.AdmittedMembers.{below_eight, small_by}
use Rattle.element_core.proofs.AloneLaws.{pattern_in, decision_in, packets_in, entries_in, handed_in, size_of}
use Rattle.whole_run.proofs.OverrunLaws.{Overran, handed_overran, service_input, Receives, receives_found, not_three, IsGranted, decision_granted, granted_seats, IsSeat, live_seats_are, seat_found, one_place, lag-without}
use Rattle.element_core.proofs.Accepted.{slice_get-all}
use Rattle.config_table.proofs.ValidTable.{AreApart}
use Rattle.config_table.proofs.NamedGroups.{AreApart-groups, AreApart-named, InRange, InRange-named, elements-kept, IsGroupOf, IsGroupOf-valid}
use Rattle.ftpp_base.proofs.Among.{all-found, all-both}
use Rattle.element_core.proofs.PatternLaws.{entry-own}

-- ---- the input was full

-- a delivery is that of an element that is there
handed_there : (t : State) (input : Input) (ne : ℕ) (proc : Proc) → (ne < t.table.n) ⊎ (t.table.n ≤ ne) → cell_at (handed_in t input) ne ≡ Some (proc, Overrun)
    → (ne < t.table.n) × Overran t.table (after_service t.table (decision_in t input) t.queues) (decision_in t input) ne proc
handed_there t input ne proc (inl l) e =
    let queues = after_service t.table (decision_in t input) t.queues in
    (l, handed_overran t.table queues (decision_in t input) (entries_in t input) ne proc (sym (at_place t.table.n (handed_at t.table queues (decision_in t input) (entries_in t input)) ne None l) ∙ e))
handed_there t input ne proc (inr l) e =
    let queues = after_service t.table (decision_in t input) t.queues in
    let long : length (handed_in t input) ≡ t.table.n = length-map-range_with_len (handed_at t.table queues (decision_in t input) (entries_in t input)) 0 t.table.n in
    let none : cell_at (handed_in t input) ne ≡ None = get_or_past (handed_in t input) ne None (omega arith) in cc

-- before the heads went, too
was_full : (t : State) (decision : Decision) (proc : Proc) → has_in_room (in_limit t.table proc) (queues_of (after_service t.table decision t.queues) proc) ≡ false
    → has_in_room (in_limit t.table proc) (queues_of t.queues proc) ≡ false
was_full t decision proc e = ap (λ xs. nat_lt (length xs) (in_limit t.table proc)) (sym (service_input t.table decision t.queues proc)) ∙ e

-- so it held as many as its limit
as_many : (limit many : ℕ) → nat_lt many limit ≡ false → many ≤ limit → many ≡ limit
as_many limit many e l = let more = ltb-false many limit e in omega arith

-- ---- its member lags

-- the elements of those that say not full
space_set : (pattern : Pattern) (g : Group) → (flags_of pattern g).space ≡ set_of (elements_of (filter (has_space pattern) (live_members g)))
unfolding flags_of
space_set pattern g = refl

-- a fault-free member whose input is full has no space
no_space : (t : State) (input : Input) (vid : ℕ) (g : Group) (proc : Proc) → IsSound t → t.table.n < 6 → group_named t.table vid ≡ Some g → member_at (live_members g) proc.ne ≡ Some proc
    → is_this input.faulty proc.ne ≡ false → has_in_room (in_limit t.table proc) (queues_of t.queues proc) ≡ false
    → has (flags_of (pattern_in t input) g).space proc.ne ≡ false
no_space t input vid g proc sound small named found good full =
    let pattern = pattern_in t input in
    let kept = elements_of (filter (has_space pattern) (live_members g)) in
    let test = λ (p : Proc). p.ne == proc.ne in
    let there = all-found (InRange t.table.n) test (live_members g) proc (InRange-named t.table vid g sound.valid named) found in
    let Kept : Proc → Type 0 = λ p. is_in kept p.ne ≡ has_space pattern p in
    let same = all-found Kept test (live_members g) proc (elements-kept (has_space pattern) (live_members g) (AreApart-named t.table vid g sound.valid named)) found in
    ap (λ set. has set proc.ne) (space_set pattern g)
    ∙ has-set_where (is_in kept) proc.ne (below_eight t.table.n proc.ne small there.ne)
    ∙ same
    ∙ ap (λ entry. entry.not_full) (entry-own t.table t.queues input proc there.ne there.port good)
    ∙ full

-- where the first test fails, the second passes
lags_by : (a b : Bool) → ((a || b) ≡ true) → a ≡ false → b ≡ true
lags_by true b e f = cc
lags_by false b e f = e

-- a group of a valid table that has a processor at a place is the one found, and the place is that of its seat
one_group : (table : TableValue) (vid : ℕ) (g h : Group) (proc : Proc) (index : ℕ) → IsValid table → group_named table vid ≡ Some h → Contains table.groups g
    → slice_get (members_of g) index ≡ Some proc → (seat : ℕ) → IsSeat 0 (members_of h) (seat, proc) → (h ≡ g) × (seat ≡ index)
one_group table vid g h proc index valid named contains placed seat at =
    let owned = IsGroupOf-valid table valid in
    let own = slice_get-all _ (members_of g) index proc (All-contains (IsGroupOf table.groups) table.groups g (All-from_recursion (IsGroupOf table.groups) table.groups owned) contains) placed in
    let other = slice_get-all _ (members_of h) at.0 proc (all-found (IsGroupOf table.groups) (is_named vid) table.groups h owned named) at.2 in
    let same : h ≡ g = cc in
    let apart = all-found (λ k. AreApart (members_of k)) (is_named vid) table.groups h (AreApart-groups table valid) named in
    let far = at.1 in
    let place : at.0 ≡ index = one_place (members_of h) at.0 index proc apart at.2 (ap (λ k. slice_get (members_of k) index) same ∙ placed) in
    (same, omega arith)

-- the scoreboard after the pattern
abbrev board_in : State → Input → Scoreboard
board_in t input = marked t.table (voted_flags t.table (pattern_in t input)) t.cycle t.scoreboard

-- the member that overran lags by more than its group's timeout
lags_more : (t : State) (input : Input) (service : Service) (ne : ℕ) (proc : Proc) (g : Group) (index : ℕ) → IsSound t
    → decision_in t input ≡ Exchange service → Receives t.table service ne proc
    → is_this input.faulty ne ≡ false → has_in_room (in_limit t.table proc) (queues_of t.queues proc) ≡ false
    → Contains t.table.groups g → slice_get (members_of g) index ≡ Some proc
    → g.tr < lag_of (board_in t input) g.vid index
lags_more t input service ne proc g index sound decided r good full contains placed =
    let flags = voted_flags t.table (pattern_in t input) in
    let h = r.group in
    let dest = service.desc.dest in
    let at : proc.ne ≡ ne = subst (IsAt ne) r.found (IsAt-member_at ne (live_members h)) in
    let found : member_at (live_members h) proc.ne ≡ Some proc = ap (member_at (live_members h)) at ∙ r.found in
    let fine : is_this input.faulty proc.ne ≡ false = ap (is_this input.faulty) at ∙ good in
    let granted : IsGranted t.table flags (board_in t input) service = subst (IfExchange (IsGranted t.table flags (board_in t input))) decided (decision_granted t.table flags t.cycle (board_in t input)) in
    let one = flags_of (pattern_in t input) h in
    let flagged = flags_named-voted t.table (pattern_in t input) dest ∙ ap (option_map (flags_of (pattern_in t input))) r.named in
    let line = line_of (board_in t input) dest in
    let Takes : ℕ × Proc → Type 0 = λ seat. takes_at h one line seat ≡ true in
    let Seat : ℕ × Proc → Type 0 = IsSeat 0 (members_of h) in
    let Both : ℕ × Proc → Type 0 = λ seat. (Takes seat) × (Seat seat) in
    let seats = all-both Takes Seat Both (live_seats h) (λ seat a b. (a, b))
    (granted_seats t.table flags (board_in t input) dest h one (granted r.delivered) r.named flagged) (live_seats_are h) in
    let seat = seat_found Both (λ p. p.ne == ne) (live_seats h) proc seats r.found in
    let blank = no_space t input dest h proc sound (small_by t.table.n (size_of t sound)) r.named found fine full in
    let more : h.tr < slice_index line.lags seat.0 = ltb-true h.tr (slice_index line.lags seat.0) (lags_by (has one.space proc.ne) (nat_lt h.tr (slice_index line.lags seat.0)) seat.1.0 blank) in
    let same = one_group t.table dest g h proc index sound.valid r.named contains placed seat.0 seat.1.1 in
    let vid : h.vid ≡ dest = subst (HasVid dest) r.named (HasVid-named t.table dest) in
    let here : g.vid ≡ dest = ap (λ k. k.vid) (sym same.0) ∙ vid in
    let tr : h.tr ≡ g.tr = ap (λ k. k.tr) same.0 in
    let lag : slice_index line.lags seat.0 ≡ lag_of (board_in t input) g.vid index = λ i. lag_of (board_in t input) (sym here i) (same.1 i) in
    omega arith

-- ---- the scoreboard after the cycle

-- where it is not of class 3
no_update : (b : Bool) (table : TableValue) (x : State) (o : Option (Option Packet)) → b ≡ false → (with_update (update_in (cond b o None)) x).scoreboard ≡ x.scoreboard
no_update true table x o e = cc
no_update false table x o e = refl

-- an exchange of class 1 or 2 leaves the lags
lag_after : (s : State) (input : Input) (service : Service) (vid index : ℕ) → decision_in (before_rounds s input) input ≡ Exchange service → is_delivered service.desc.class ≡ true
    → lag_of (step s input).state.scoreboard vid index ≡ lag_of (board_in (before_rounds s input) input) vid index
unfolding step shown_by served
lag_after s input service vid index decided delivered =
    let t = before_rounds s input in
    let after = after_rejoin s input.rejoined in
    let shown = shown_by after input in
    ap (λ d. lag_of (with_update (update_in (update_packet t.table d (packets_in t input))) (served after shown)).scoreboard vid index) decided
    ∙ ap (λ board. lag_of board vid index)
    (no_update (service.desc.class == 3) t.table (served after shown) (Some (packet_in (members_vote t.table service (agreed (packets_in t input))))) (not_three service.desc.class delivered))
    ∙ ap (λ d. lag_of (after_decision d (board_in t input)) vid index) decided
    ∙ lag-without service.vid (board_in t input) vid index

-- from the rounds to the whole cycle
overran_so : (s : State) (input : Input) (ne : ℕ) (proc : Proc) (g : Group) (index : ℕ) → IsSound s → IsInput s.table.n input → is_this input.faulty ne ≡ false
    → cell_at (handed_in (before_rounds s input) input) ne ≡ Some (proc, Overrun) → Contains s.table.groups g → slice_get (members_of g) index ≡ Some proc
    → (length (queues_of (before_rounds s input).queues proc).input ≡ in_limit s.table proc) × (g.tr < lag_of (step s input).state.scoreboard g.vid index)
overran_so s input ne proc g index sound is good handed contains placed =
    let t = before_rounds s input in
    let here = before_sound s input sound is.acts in
    let o = (handed_there t input ne proc (cases_lt ne t.table.n) handed).1 in
    let full = was_full t (decision_in t input) proc o.full in
    let r = receives_found t.table o.service ne proc o.found in
    let more = lags_more t input o.service ne proc g index here o.decided r good full contains placed in
    let same = lag_after s input o.service g.vid index o.decided r.delivered in
    (as_many (in_limit t.table proc) (length (queues_of t.queues proc).input) full (here.within proc), omega arith)

-- An overrun comes only where the input was full, and the member lags.
pub only_full : OverrunsOnlyFull
unfolding step shown_by
only_full s input sound is ne proc g index good handed contains placed = overran_so s input ne proc g index sound is good handed contains placed
