-- What a cycle hands to a processor is what its exchange leaves in the log for it.
use Rattle.std.proofs.Common.{◌≡◌, ℕ, ◌<◌, Bool, true, false, cond, List, [], ◌∷◌, ◌++◌, length, drop, refl, ap, arith, sym, ◌∙◌, subst}
use Rattle.std.specs.Prelude.{Option, Some, None, IfSome, option_map, not, ◌&&◌, ◌==◌}
use Rattle.std.specs.List.{filter_map, cons_option}
use Rattle.std.proofs.Math.Seq.{drop-append_seam}
use Rattle.std.proofs.lemmas.List.{append-nil}
use Rattle.std.proofs.lemmas.List.Elements.{All-from_recursion}
use Rattle.ftpp_base.specs.Lists.{cell_at}
use Rattle.ftpp_base.specs.declared.element.Proc.{Proc}
use Rattle.ftpp_base.proofs.Among.{all-found}
use Rattle.ftpp_base.proofs.Changed.{change_at-same, change_at-either}
use Rattle.packet_format.specs.declared.Packet.{Packet}
use Rattle.packet_format.specs.declared.Delivered.{Delivered}
use Rattle.two_round.proofs.Agreement.{at_place}
use Rattle.config_table.specs.declared.decisions.Decision.{Decision}
use Rattle.config_table.specs.declared.decisions.Decision.TheVariants.{Idle, Discard, Exchange}
use Rattle.config_table.specs.declared.decisions.Service.{Service}
use Rattle.config_table.specs.Bounds.{InRange}
use Rattle.config_table.specs.Groups.{same_proc, live_members}
use Rattle.config_table.specs.Table.{TableValue, IsValid, in_limit}
use Rattle.config_table.specs.Members.{member_at}
use Rattle.config_table.proofs.NamedGroups.{InRange-named}
use Rattle.config_table.proofs.Procs.{same_proc-true, same_proc-refl}
use Rattle.processor_buffers.specs.Queues.{Queues, no_queues, has_in_room, after_delivery, handed_by}
use Rattle.processor_buffers.specs.declared.Handed.{Handed}
use Rattle.processor_buffers.specs.declared.Handed.TheVariants.{Stored, Overrun}
use Rattle.element_ports.specs.PortQueues.{port_queues, delivered_by, after_entry, delivered_to}
use Rattle.element_core.specs.Processors.{AllQueues, ports_of, queues_of}
use Rattle.element_core.specs.Cycle.{State, Input, Shown, step, shown_by, receivers, after_service, after_deliveries, handed_to, handed_at}
use Rattle.element_core.specs.Run.{LogEntry, log_entry}
use Rattle.element_core.specs.Alone.{IsSound, IsInput, HasPorts, HasEight, before_rounds}
use Rattle.element_core.proofs.AloneLaws.{decision_in, entries_in, handed_in as deliveries_in}
use Rattle.element_core.proofs.OwnLaws.{own_delivery-ports}
use Rattle.element_core.proofs.Places.{IsPlace}
use Rattle.element_core.proofs.PortLaws.{IsAt, IsAt-member_at}
use Rattle.element_core.proofs.Sound.{before_sound}
use Rattle.whole_run.specs.LogOrder.{queues_delivered, handed_in, is_proc, is_receiver, is_overrun, due_in}
use Rattle.whole_run.proofs.NextQueues.{service-place}
use Rattle.whole_run.proofs.OverrunLaws.{service_input, receives_found}

-- ---- one delivery

-- what a delivery appends, by whether there is room
one_delivered : (limit : ℕ) (d : Delivered) (q : Queues) (p : Proc)
    → (after_delivery limit d q).input ≡ q.input ++ cons_option (cond (not (is_overrun (Some (p, handed_by limit q)))) (Some d) None) []
one_delivered limit d q p = by (has_in_room limit q) where
  by : (b : Bool) → (cond b (record q { input = q.input ++ d ∷ [] }) q).input ≡ q.input ++ cons_option (cond (not (is_overrun (Some (p, cond b Stored Overrun)))) (Some d) None) []
  by true = refl
  by false = sym (append-nil q.input)

-- without an entry nothing is appended
none_more : (xs : List Delivered) (b : Bool) → xs ≡ xs ++ cons_option (cond b None None) []
none_more xs true = sym (append-nil xs)
none_more xs false = sym (append-nil xs)

-- a processor that the test finds different is another
differs : (q p : Proc) → same_proc q p ≡ false → q ≡ p → ⊥
differs q p e same = let yes : same_proc q p ≡ true = ap (λ r. same_proc r p) same ∙ same_proc-refl p in cc

-- what is appended to the input of a processor where the member that was found is handed an entry
abbrev Appended : TableValue → ℕ → Service → Option Packet → AllQueues → Proc → Option Proc → Type 0
Appended table cycle service entry all p found =
    (port_queues (delivered_to table cycle service entry (ports_of all p.ne) found) p.port).input
    ≡ (queues_of all p).input ++ cons_option (cond (is_proc p found && not (is_overrun (handed_to table all found entry))) (option_map (delivered_by cycle service) entry) None) []

-- the processor itself is handed a packet
to_itself : (table : TableValue) (cycle : ℕ) (service : Service) (packet : Packet) (all : AllQueues) (p : Proc) → p.port < length (ports_of all p.ne)
    → Appended table cycle service (Some packet) all p (Some p)
to_itself table cycle service packet all p fits =
    let limit = in_limit table p in
    let d = delivered_by cycle service packet in
    let q = queues_of all p in
    ap (λ (x : Queues). x.input) (change_at-same (after_entry limit cycle service (Some packet)) (ports_of all p.ne) p.port no_queues fits)
    ∙ one_delivered limit d q p
    ∙ ap (λ b. q.input ++ cons_option (cond (b && not (is_overrun (Some (p, handed_by limit q)))) (Some d) None) []) (sym (same_proc-refl p))

-- another one at its element is
to_another : (table : TableValue) (cycle : ℕ) (service : Service) (packet : Packet) (all : AllQueues) (p q : Proc) → q.ne ≡ p.ne → same_proc q p ≡ false
    → Appended table cycle service (Some packet) all p (Some q)
to_another table cycle service packet all p q at e =
    let xs = (queues_of all p).input in
    let Same : Queues → Type 0 = λ x. x.input ≡ xs in
    change_at-either Same (after_entry (in_limit table q) cycle service (Some packet)) (ports_of all p.ne) q.port p.port no_queues
    (λ on. absurd (differs q p e (λ i. record { ne = at i; port = on i }))) refl
    ∙ sym (append-nil xs)
    ∙ ap (λ b. xs ++ cons_option (cond (b && not (is_overrun (handed_to table all (Some q) (Some packet)))) (Some (delivered_by cycle service packet)) None) []) (sym e)

-- by who was found
to_found : (table : TableValue) (cycle : ℕ) (service : Service) (entry : Option Packet) (all : AllQueues) (p : Proc) (found : Option Proc)
    → IsAt p.ne found → IfSome found (λ q. q.port < length (ports_of all p.ne)) → Appended table cycle service entry all p found
to_found table cycle service entry all p None at fits = sym (append-nil (queues_of all p).input)
to_found table cycle service None all p (Some q) at fits =
    let xs = (queues_of all p).input in
    let Same : Queues → Type 0 = λ x. x.input ≡ xs in
    change_at-either Same (after_entry (in_limit table q) cycle service None) (ports_of all p.ne) q.port p.port no_queues (λ on. refl) refl
    ∙ none_more xs (same_proc q p && true)
to_found table cycle service (Some packet) all p (Some q) at fits = by (same_proc q p) refl where
  by : (b : Bool) → same_proc q p ≡ b → Appended table cycle service (Some packet) all p (Some q)
  by true e =
      let same = same_proc-true q p e in
      subst (λ r. Appended table cycle service (Some packet) all p (Some r)) (sym same)
      (to_itself table cycle service packet all p (subst (λ (r : Proc). r.port < length (ports_of all p.ne)) same fits))
  by false e = to_another table cycle service packet all p q at e

-- ---- the delivery of a decision

-- the receiver at an element is there
pub receiver_there : (table : TableValue) (service : Service) (ne : ℕ) → IsValid table → IfSome (member_at (receivers table service) ne) (InRange table.n)
receiver_there table service ne valid = by (member_at (receivers table service) ne) refl where
  by : (found : Option Proc) → member_at (receivers table service) ne ≡ found → IfSome found (InRange table.n)
  by None e = tt
  by (Some q) e =
      let r = receives_found table service ne q e in
      all-found (InRange table.n) (λ p. p.ne == ne) (live_members r.group) q (InRange-named table service.desc.dest r.group valid r.named) r.found

-- so its port is one of its element's
port_there : (n : ℕ) (all : AllQueues) (ne : ℕ) (found : Option Proc) → IsAt ne found → IfSome found (InRange n) → ((q : Proc) → q.ne < n → q.port < 8 → IsPlace all q)
    → IfSome found (λ q. q.port < length (ports_of all ne))
port_there n all ne None at range places = tt
port_there n all ne (Some q) at range places = subst (λ k. q.port < length (ports_of all k)) at (places q range.ne range.port).port

-- a record that is the same where there is a receiver shows the same
seen_by : (o : Option Delivered) (p : Proc) (n : ℕ) (found : Option Proc) (one other : Option (Proc × Handed)) → IsAt p.ne found → IfSome found (InRange n) → (p.ne < n → other ≡ one)
    → cond (is_proc p found && not (is_overrun one)) o None ≡ cond (is_proc p found && not (is_overrun other)) o None
seen_by o p n None one other at range same = refl
seen_by o p n (Some q) one other at range same =
    let l : p.ne < n = subst (λ k. k < n) at range.ne in
    ap (λ h. cond (same_proc q p && not (is_overrun h)) o None) (sym (same l))

-- what an entry of the log gives a processor, by the table and the deliveries of its cycle
abbrev due_with : TableValue → List (Option (Proc × Handed)) → Proc → LogEntry → Option Delivered
due_with table handed p entry =
    cond (is_receiver table entry.service p && not (is_overrun (cell_at handed p.ne))) (option_map (delivered_by entry.cycle entry.service) (cell_at entry.entries p.ne)) None

-- the deliveries of a decision append what it leaves in the log
by_decision : (t : State) (decision : Decision) (entries : List (Option Packet)) (handed : List (Option (Proc × Handed))) (all : AllQueues) (p : Proc) → IsValid t.table
    → ((q : Proc) → q.ne < t.table.n → q.port < 8 → IsPlace all q) → (p.ne < t.table.n → cell_at handed p.ne ≡ handed_at t.table all decision entries p.ne)
    → (queues_of (after_deliveries t.table t.cycle decision entries all) p).input
    ≡ (queues_of all p).input ++ filter_map (due_with t.table handed p) (cons_option (log_entry t.cycle entries decision) [])
by_decision t Idle entries handed all p valid places same = sym (append-nil (queues_of all p).input)
by_decision t (Discard vid desc number admitted waited) entries handed all p valid places same = sym (append-nil (queues_of all p).input)
by_decision t (Exchange service) entries handed all p valid places same =
    let found = member_at (receivers t.table service) p.ne in
    let entry = cell_at entries p.ne in
    let at = IsAt-member_at p.ne (receivers t.table service) in
    let range = receiver_there t.table service p.ne valid in
    ap (λ ports. (port_queues ports p.port).input) (sym (own_delivery-ports t p.ne (Exchange service) entries all valid))
    ∙ to_found t.table t.cycle service entry all p found at (port_there t.table.n all p.ne found at range places)
    ∙ ap (λ o. (queues_of all p).input ++ cons_option o [])
    (seen_by (option_map (delivered_by t.cycle service) entry) p t.table.n found (handed_to t.table all found entry) (cell_at handed p.ne) at range same)

-- ---- the delivery of a cycle

-- a processor has a place among the ports of all elements
pub place_of : (n : ℕ) (all : AllQueues) (p : Proc) → HasPorts n all → p.ne < n → p.port < 8 → IsPlace all p
place_of n all p has l w =
    let long = has.0 in
    let within : p.ne < length all = omega arith in
    let eight : length (ports_of all p.ne) ≡ 8 = All-from_recursion HasEight all has.1 p.ne [] within in
    record { element = within; port = omega arith }

-- what an exchange leaves in the log
abbrev pub log_here : Shown → List LogEntry
log_here shown = cons_option (log_entry shown.cycle shown.entries shown.decision) []

-- the deliveries of a cycle append what its exchange leaves in the log
pub handed-appended : (s : State) (input : Input) (p : Proc) → IsSound s → IsInput s.table.n input
    → (queues_of (queues_delivered (step s input).shown) p).input
    ≡ (queues_of (step s input).shown.queues p).input ++ filter_map (due_in p (step s input).shown) (log_here (step s input).shown)
unfolding step shown_by
handed-appended s input p sound is =
    let t = before_rounds s input in
    let here = before_sound s input sound is.acts in
    let decision = decision_in t input in
    let entries = entries_in t input in
    let all = after_service t.table decision t.queues in
    let handed = deliveries_in t input in
    by_decision t decision entries handed all p here.valid
    (λ q l w. service-place t.table decision t.queues q (place_of t.table.n t.queues q here.ports l w))
    (λ l. at_place t.table.n (handed_at t.table all decision entries) p.ne None l)
    ∙ ap (λ xs. xs ++ filter_map (due_with t.table handed p) (cons_option (log_entry t.cycle entries decision) [])) (service_input t.table decision t.queues p)

-- so that is what a processor is handed in it
pub handed-log : (s : State) (input : Input) (p : Proc) → IsSound s → IsInput s.table.n input
    → handed_in p (step s input).shown ≡ filter_map (due_in p (step s input).shown) (log_here (step s input).shown)
handed-log s input p sound is =
    let shown = (step s input).shown in
    let xs = (queues_of shown.queues p).input in
    ap (drop (length xs)) (handed-appended s input p sound is) ∙ drop-append_seam xs (filter_map (due_in p shown) (log_here shown))

-- and what its input gets
pub handed-more : (s : State) (input : Input) (p : Proc) → IsSound s → IsInput s.table.n input
    → (queues_of (queues_delivered (step s input).shown) p).input ≡ (queues_of (step s input).shown.queues p).input ++ handed_in p (step s input).shown
handed-more s input p sound is =
    let shown = (step s input).shown in
    handed-appended s input p sound is ∙ ap (λ ys. (queues_of shown.queues p).input ++ ys) (sym (handed-log s input p sound is))
