-- What a processor is handed in a run is the log in order, and two of one group are handed the same.
use Rattle.std.proofs.Common.{◌≡◌, ℕ, suc, ◌<◌, Bool, true, false, cond, List, [], ◌∷◌, ◌++◌, length, take, refl, ap, arith, sym, ◌∙◌, subst}
use Rattle.std.specs.Prelude.{Option, Some, None, IfSome, option_map, unwrap_or, not, ◌&&◌}
use Rattle.std.specs.List.{AllByRecursion, filter, filter_map, flat_map, cons_option}
use Rattle.std.proofs.lemmas.Bool.{and_parts}
use Rattle.std.proofs.lemmas.List.Elements.{filter-append}
use Rattle.ftpp_base.specs.Lists.{cell_at, is_this}
use Rattle.ftpp_base.specs.declared.element.Proc.{Proc}
use Rattle.packet_format.specs.declared.Packet.{Packet}
use Rattle.packet_format.specs.declared.Delivered.{Delivered}
use Rattle.config_table.specs.declared.decisions.Decision.{Decision}
use Rattle.config_table.specs.declared.decisions.Decision.TheVariants.{Idle, Discard, Exchange}
use Rattle.config_table.specs.declared.decisions.Service.{Service}
use Rattle.config_table.specs.declared.groups.Group.{Group}
use Rattle.config_table.specs.Bounds.{InRange}
use Rattle.config_table.specs.Table.{TableValue, IsValid, group_named}
use Rattle.config_table.specs.Members.{member_at}
use Rattle.config_table.proofs.Procs.{same_proc-true}
use Rattle.element_core.specs.Cycle.{State, Input, Shown, start, step, shown_by, receivers, delivered_by}
use Rattle.element_core.specs.Run.{Journal, LogEntry, log_entry, run, run_from, history, history_from, state_at, input_at, shown_at, log_of}
use Rattle.element_core.specs.Premises.{is_split_in}
use Rattle.element_core.specs.Alone.{IsSound, IsInput}
use Rattle.element_core.proofs.Calm.{state_at-cycle}
use Rattle.element_core.proofs.SoundRuns.{sound_at}
use Rattle.whole_run.specs.LogOrder.{handed_in, handed_of, is_proc, is_receiver, overran, due_in, due_of, is_whole, takes_part, is_common, is_shared}
use Rattle.whole_run.proofs.Equal.{equal_entries}
use Rattle.whole_run.proofs.HandedIn.{log_here, handed-log, receiver_there}

-- ---- from each cycle to the run

-- what holds of each cycle holds of all that was shown
pub all_shown : (P : Shown → Type 0) (s : State) (journal : Journal) → ((k : ℕ) → k < length journal → P (step (run_from s (take k journal)) (input_at journal k)).shown)
    → AllByRecursion P (history_from s journal)
all_shown P s [] each = tt
all_shown P s (input ∷ journal) each = (each 0 (omega arith), all_shown P (step s input).state journal (λ k l. each (suc k) (omega arith)))

-- so in a run
pub all_of_run : (P : Shown → Type 0) (table : TableValue) (journal : Journal) → ((k : ℕ) → k < length journal → P (shown_at table journal k)) → AllByRecursion P (history table journal)
unfolding run history
all_of_run P table journal each = all_shown P (start table) journal each

-- what an exchange leaves in the log, if there is one
abbrev logged : Shown → Option LogEntry
logged shown = log_entry shown.cycle shown.entries shown.decision

-- one that is made of an item, and those of the others
apart_of : (due : LogEntry → Option Delivered) (o : Option LogEntry) (xs : List LogEntry) → filter_map due (cons_option o xs) ≡ filter_map due (cons_option o []) ++ filter_map due xs
apart_of due None xs = refl
apart_of due (Some entry) xs = by (due entry) where
  by : (o : Option Delivered) → cons_option o (filter_map due xs) ≡ cons_option o [] ++ filter_map due xs
  by None = refl
  by (Some d) = refl

-- what each cycle leaves in the log, the run does
log_fused : (due : LogEntry → Option Delivered) (f : Shown → List Delivered) (xs : List Shown) → AllByRecursion (λ shown. f shown ≡ filter_map due (log_here shown)) xs
    → flat_map f xs ≡ filter_map due (filter_map logged xs)
log_fused due f [] a = refl
log_fused due f (shown ∷ xs) a =
    (λ i. a.0 i ++ log_fused due f xs a.1 i) ∙ sym (apart_of due (logged shown) (filter_map logged xs))

-- what two are given alike in each cycle, they are in the run
pub kept_alike : (test : Delivered → Bool) (f g : Shown → List Delivered) (xs : List Shown) → AllByRecursion (λ shown. filter test (f shown) ≡ filter test (g shown)) xs
    → filter test (flat_map f xs) ≡ filter test (flat_map g xs)
kept_alike test f g [] a = refl
kept_alike test f g (shown ∷ xs) a =
    filter-append test (f shown) (flat_map f xs) ∙ (λ i. a.0 i ++ kept_alike test f g xs a.1 i) ∙ sym (filter-append test (g shown) (flat_map g xs))

-- ---- the log

-- the number of a cycle is what it shows
shown_number : (s : State) (input : Input) → (step s input).shown.cycle ≡ s.cycle
unfolding step shown_by
shown_number s input = refl

-- so the entry that a cycle leaves names it
pub named_cycle : (table : TableValue) (journal : Journal) (k : ℕ) → k < length journal → (shown_at table journal k).cycle ≡ k
named_cycle table journal k l = shown_number (state_at table journal k) (input_at journal k) ∙ state_at-cycle table journal k (omega arith)

-- an entry gives the same by the cycle that it names
due_named : (table : TableValue) (journal : Journal) (p : Proc) (shown : Shown) → shown_at table journal shown.cycle ≡ shown
    → filter_map (due_in p shown) (log_here shown) ≡ filter_map (due_of table journal p) (log_here shown)
due_named table journal p shown e = by shown.decision where
  by : (d : Decision) → filter_map (due_in p shown) (cons_option (log_entry shown.cycle shown.entries d) []) ≡ filter_map (due_of table journal p) (cons_option (log_entry shown.cycle shown.entries d) [])
  by Idle = refl
  by (Discard vid desc number admitted waited) = refl
  by (Exchange service) = ap (λ (x : Shown). cons_option (due_in p x (record { cycle = shown.cycle; service = service; entries = shown.entries })) []) (sym e)

-- What a processor is handed in a run is the log.
pub handed-is-log : (table : TableValue) (journal : Journal) (p : Proc) → IsValid table → AllByRecursion (IsInput table.n) journal
    → handed_of table journal p ≡ filter_map (due_of table journal p) (log_of table journal)
handed-is-log table journal p valid are =
    log_fused (due_of table journal p) (handed_in p) (history table journal)
    (all_of_run (λ shown. handed_in p shown ≡ filter_map (due_of table journal p) (log_here shown)) table journal
    (λ k l.
    let at = sound_at table journal k valid are l in
    handed-log (state_at table journal k) (input_at journal k) p at.0 at.1
    ∙ due_named table journal p (shown_at table journal k) (ap (shown_at table journal) (named_cycle table journal k l))))

-- ---- two processors in one cycle

-- a packet of a cycle that passes a test, or not
dated_kept : (test : Delivered → Bool) (o : Option Delivered) (b : Bool) → IfSome o (λ d. test d ≡ b) → filter test (cons_option o []) ≡ cond b (cons_option o []) []
dated_kept test None true e = refl
dated_kept test None false e = refl
dated_kept test (Some d) b e = ap (λ (c : Bool). cond c (d ∷ []) []) e

-- what an entry gives a processor is of its cycle
due_dated : (test : Delivered → Bool) (p : Proc) (shown : Shown) (entry : LogEntry) (b : Bool) → ((d : Delivered) → d.cycle ≡ entry.cycle → test d ≡ b) → IfSome (due_in p shown entry) (λ d. test d ≡ b)
due_dated test p shown entry b dated = by (is_receiver shown.table entry.service p && not (overran shown p)) (cell_at entry.entries p.ne) where
  by : (c : Bool) (o : Option Packet) → IfSome (cond c (option_map (delivered_by entry.cycle entry.service) o) None) (λ d. test d ≡ b)
  by true None = tt
  by true (Some packet) = dated (delivered_by entry.cycle entry.service packet) refl
  by false o = tt

-- the entry that an exchange leaves
abbrev pub entry_of : Shown → Service → LogEntry
entry_of shown service = record { cycle = shown.cycle; service = service; entries = shown.entries }

-- equal, or none kept
kept_by : (b : Bool) (one other : List Delivered) → (b ≡ true → one ≡ other) → cond b one [] ≡ cond b other []
kept_by true one other same = same refl
kept_by false one other same = refl

-- two that are given the same of an exchange, where its cycle passes a test, are handed the same that passes it
pub cycle_alike : (test : Delivered → Bool) (b : Bool) (one other : Proc) (shown : Shown) (decision : Decision) → ((d : Delivered) → d.cycle ≡ shown.cycle → test d ≡ b)
    → ((service : Service) → decision ≡ Exchange service → b ≡ true → due_in one shown (entry_of shown service) ≡ due_in other shown (entry_of shown service))
    → filter test (filter_map (due_in one shown) (cons_option (log_entry shown.cycle shown.entries decision) []))
    ≡ filter test (filter_map (due_in other shown) (cons_option (log_entry shown.cycle shown.entries decision) []))
cycle_alike test b one other shown Idle dated same = refl
cycle_alike test b one other shown (Discard vid desc number admitted waited) dated same = refl
cycle_alike test b one other shown (Exchange service) dated same =
    let entry = entry_of shown service in
    dated_kept test (due_in one shown entry) b (due_dated test one shown entry b dated)
    ∙ kept_by b (cons_option (due_in one shown entry) []) (cons_option (due_in other shown entry) []) (λ e. ap (λ o. cons_option o []) (same service refl e))
    ∙ sym (dated_kept test (due_in other shown entry) b (due_dated test other shown entry b dated))

-- Two that are given the same of each exchange whose cycle passes a test are handed the same that passes it in a run.
pub run_alike : (test : Delivered → Bool) (passes : ℕ → Bool) (table : TableValue) (journal : Journal) (one other : Proc) → IsValid table → AllByRecursion (IsInput table.n) journal
    → ((d : Delivered) (k : ℕ) → d.cycle ≡ k → test d ≡ passes k)
    → ((k : ℕ) → k < length journal → (service : Service) → (shown_at table journal k).decision ≡ Exchange service → passes k ≡ true
    → due_in one (shown_at table journal k) (entry_of (shown_at table journal k) service) ≡ due_in other (shown_at table journal k) (entry_of (shown_at table journal k) service))
    → filter test (handed_of table journal one) ≡ filter test (handed_of table journal other)
run_alike test passes table journal one other valid are dated same =
    kept_alike test (handed_in one) (handed_in other) (history table journal)
    (all_of_run (λ shown. filter test (handed_in one shown) ≡ filter test (handed_in other shown)) table journal
    (λ k l.
    let s = state_at table journal k in
    let input = input_at journal k in
    let shown = shown_at table journal k in
    let at = sound_at table journal k valid are l in
    ap (filter test) (handed-log s input one at.0 at.1)
    ∙ cycle_alike test (passes k) one other shown shown.decision (λ d e. dated d k (e ∙ named_cycle table journal k l)) (same k l)
    ∙ sym (ap (filter test) (handed-log s input other at.0 at.1))))

-- ---- what both are given of an exchange

-- a receiver is found at its element
pub receiver_found : (p : Proc) (found : Option Proc) → is_proc p found ≡ true → found ≡ Some p
receiver_found p None e = cc
receiver_found p (Some q) e = ap (λ r. let o : Option Proc = Some r in o) (same_proc-true q p e)

-- so its element is there
receiver_below : (table : TableValue) (service : Service) (p : Proc) → IsValid table → is_receiver table service p ≡ true → p.ne < table.n
receiver_below table service p valid e =
    let range = subst (λ (o : Option Proc). IfSome o (InRange table.n)) (receiver_found p (member_at (receivers table service) p.ne) e) (receiver_there table service p.ne valid) in range.ne

-- Of a processor that takes part: it is a receiver, is fault-free and did not overrun.
pub record TakesPart (shown : Shown) (service : Service) (p : Proc) : Type 0 where
  pub receives : is_receiver shown.table service p ≡ true
  pub fine : is_this shown.packets.faulty p.ne ≡ false
  pub stored : overran shown p ≡ false

-- what is not so
not_so : (b : Bool) → not b ≡ true → b ≡ false
not_so true e = cc
not_so false e = refl

-- the three of it
three_parts : (shown : Shown) (service : Service) (p : Proc) → takes_part shown service p ≡ true → TakesPart shown service p
three_parts shown service p e =
    let one = and_parts (is_receiver shown.table service p && not (is_this shown.packets.faulty p.ne)) (not (overran shown p)) e in
    let two = and_parts (is_receiver shown.table service p) (not (is_this shown.packets.faulty p.ne)) one.0 in
    record { receives = two.0; fine = not_so (is_this shown.packets.faulty p.ne) two.1; stored = not_so (overran shown p) one.1 }

-- it is given the packet at its element
given_entry : (shown : Shown) (service : Service) (p : Proc) → TakesPart shown service p
    → due_in p shown (entry_of shown service) ≡ option_map (delivered_by shown.cycle service) (cell_at shown.entries p.ne)
given_entry shown service p t =
    λ i. cond (t.receives i && not (t.stored i)) (option_map (delivered_by shown.cycle service) (cell_at shown.entries p.ne)) None

-- a whole exchange is of a group that is there, and not split
whole_named : (shown : Shown) (service : Service) → is_whole shown service ≡ true → (g : Group) × (group_named shown.table service.vid ≡ Some g) × (is_split_in shown g service ≡ false)
whole_named shown service e = by (group_named shown.table service.vid) refl e where
  by : (o : Option Group) → group_named shown.table service.vid ≡ o → unwrap_or (option_map (λ g. not (is_split_in shown g service)) o) false ≡ true
      → (g : Group) × (group_named shown.table service.vid ≡ Some g) × (is_split_in shown g service ≡ false)
  by None named f = cc
  by (Some g) named f = (g, named, not_so (is_split_in shown g service) f)

-- the table of a cycle is that of its state
pub shown_table : (s : State) (input : Input) → (step s input).shown.table ≡ s.table
unfolding step shown_by
shown_table s input = refl

-- so two that take part in a whole exchange are given the same
pub given_same : (s : State) (input : Input) (service : Service) (one other : Proc) → IsSound s → IsInput s.table.n input → (step s input).shown.decision ≡ Exchange service
    → is_whole (step s input).shown service ≡ true → TakesPart (step s input).shown service one → TakesPart (step s input).shown service other
    → due_in one (step s input).shown (entry_of (step s input).shown service) ≡ due_in other (step s input).shown (entry_of (step s input).shown service)
given_same s input service one other sound is decided whole t u =
    let shown = (step s input).shown in
    let g = whole_named shown service whole in
    let valid : IsValid shown.table = subst IsValid (sym (shown_table s input)) sound.valid in
    given_entry shown service one t
    ∙ ap (option_map (delivered_by shown.cycle service))
    (equal_entries s input sound is service g.0 one.ne other.ne decided g.1 (receiver_below shown.table service one valid t.receives) (receiver_below shown.table service other valid u.receives) t.fine u.fine g.2)
    ∙ sym (given_entry shown service other u)

-- ---- what is common to both

-- whether the cycle of a number is common to both
abbrev common_at : TableValue → Journal → Proc → Proc → ℕ → Bool
common_at table journal one other k = let shown = shown_at table journal k in is_common shown one other shown.decision

-- they are given the same of an exchange that is common
common_same : (s : State) (input : Input) (service : Service) (one other : Proc) → IsSound s → IsInput s.table.n input → (step s input).shown.decision ≡ Exchange service
    → is_common (step s input).shown one other (Exchange service) ≡ true
    → due_in one (step s input).shown (entry_of (step s input).shown service) ≡ due_in other (step s input).shown (entry_of (step s input).shown service)
common_same s input service one other sound is decided e =
    let shown = (step s input).shown in
    let parts = and_parts (is_whole shown service && takes_part shown service one) (takes_part shown service other) e in
    let both = and_parts (is_whole shown service) (takes_part shown service one) parts.0 in
    given_same s input service one other sound is decided both.0 (three_parts shown service one both.1) (three_parts shown service other parts.1)

-- Two processors are handed the same in the cycles that are common to them.
pub handed-alike : (table : TableValue) (journal : Journal) (one other : Proc) → IsValid table → AllByRecursion (IsInput table.n) journal
    → filter (is_shared table journal one other) (handed_of table journal one) ≡ filter (is_shared table journal one other) (handed_of table journal other)
handed-alike table journal one other valid are =
    run_alike (is_shared table journal one other) (common_at table journal one other) table journal one other valid are (λ d k e. ap (common_at table journal one other) e)
    (λ k l service e c.
    let at = sound_at table journal k valid are l in
    let shown = shown_at table journal k in
    common_same (state_at table journal k) (input_at journal k) service one other at.0 at.1 e (ap (is_common shown one other) (sym e) ∙ c))
