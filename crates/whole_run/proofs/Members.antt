-- Where the request that is taken is held alike, what is noted of its members accuses the faulty element.
use Rattle.std.proofs.Common.{◌≡◌, ℕ, zero, suc, ◌+◌, ◌<◌, Bool, true, false, cond, List, [], ◌∷◌, refl, ap, arith, map, sym, ◌∙◌, subst, Contains}
use Rattle.std.specs.Prelude.{Option, Some, None, not, option_map, unwrap_or, filter, ◌==◌}
use Rattle.std.specs.List.{AllByRecursion, range_with_len}
use Rattle.std.proofs.lemmas.Bool.{eqb-true, and_parts, and_from, or_cases, not-true}
use Rattle.std.proofs.lemmas.List.Elements.{All-from_recursion}
use Rattle.ftpp_base.specs.Lists.{below, others, cell_at, is_this}
use Rattle.ftpp_base.specs.Sets.{has}
use Rattle.ftpp_base.specs.declared.element.Proc.{Proc}
use Rattle.bit_vote.specs.Vote.{Cell, same_cell}
use Rattle.bit_vote.specs.Agreed.{FirstRound, agreed, copy_at}
use Rattle.bit_vote.proofs.Majority.{same_cell-refl}
use Rattle.two_round.proofs.Agreement.{at_place}
use Rattle.two_round.proofs.Held.{is_this-true}
use Rattle.config_table.specs.declared.groups.Group.{Group}
use Rattle.config_table.specs.declared.decisions.Kind.{Kind}
use Rattle.config_table.specs.declared.decisions.Kind.TheVariants.{Voted, Source, Every}
use Rattle.config_table.specs.declared.decisions.Decision.{Decision}
use Rattle.config_table.specs.declared.decisions.Decision.TheVariants.{Idle, Discard, Exchange}
use Rattle.config_table.specs.declared.decisions.Service.{Service}
use Rattle.config_table.specs.Groups.{live_members}
use Rattle.config_table.specs.Table.{group_named}
use Rattle.processor_buffers.specs.Queues.{Posted}
use Rattle.data_exchange.specs.Entries.{may_send, contributes, senders, member_at, packet_of_head, entry_at, is_fault_free, fault_free_members, held_alike}
use Rattle.syndrome_log.specs.declared.Syndrome.{Syndrome}
use Rattle.syndrome_log.specs.declared.SyndromeKind.{SyndromeKind}
use Rattle.syndrome_log.specs.declared.SyndromeKind.TheVariants as kind
use Rattle.syndrome_log.specs.Log.{noted}
use Rattle.element_core.specs.Processors.{head_at}
use Rattle.element_core.specs.Cycle.{State, Input, Shown, row_sent, step, shown_by}
use Rattle.element_core.specs.Sent.{is_relayed}
use Rattle.element_core.specs.Syndromes.{accused_where, copies_by, relayed_copies, stands_at, is_left_out, full_members, is_full_at, has_three, compared, differs, is_outvoted, outvoted_members, is_wrong_copy, is_wrong_relay, syndromes_at}
use Rattle.scoreboard.specs.Service.{takes_of}
use Rattle.element_core.specs.Noted.{absent_ones}
use Rattle.element_core.specs.Alone.{IsSound, IsInput, before_rounds}
use Rattle.element_core.specs.Claims.{is_source, is_of_members}
use Rattle.whole_run.specs.Laws.{AlwaysAccurateAlike}
use Rattle.element_core.proofs.AloneNotes.{absent-same}
use Rattle.ftpp_base.proofs.Among.{all-append, find-passes, contains-filter}
use Rattle.whole_run.proofs.Accuracy.{all_flat, kept_all, all_kept}
use Rattle.element_core.proofs.PortLaws.{IsAt, IsAt-member_at}
use Rattle.element_core.proofs.Sound.{before_sound}
use Rattle.element_core.proofs.DecisionLaws.{Serves, IfTaken, decision_takes}
use Rattle.whole_run.proofs.HeldAlike.{Alike, entry_alike, carries-voted, head-common, admitted-common}
use Rattle.element_core.proofs.AdmittedMembers.{There, there_by, admitted_has}
use Rattle.element_core.proofs.AloneLaws.{pattern_in, decision_in, packets_in}
use Rattle.bit_vote.proofs.Copies.{copy-fine, agreed-fine}

-- an entry on a member accuses the faulty element
abbrev Accuses : Option ℕ → Syndrome → Type 0
Accuses faulty s = is_of_members s.kind ≡ true → faulty ≡ Some s.accused

-- ---- lists of entries

-- what holds of what is made of each number below n that passes
below_kept : {B : Type 0} (P : B → Type 0) (f : ℕ → B) (test : ℕ → Bool) (a n m : ℕ) → a + n ≡ m → ((x : ℕ) → x < m → test x ≡ true → P (f x)) → AllByRecursion P (map f (filter test (range_with_len a n)))
below_kept P f test a zero m e h = tt
below_kept P f test a (suc n) m e h =
    kept_all P f (test a) a (filter test (range_with_len (a + 1) n)) (h a (omega arith)) (below_kept P f test (a + 1) n m (omega arith) h)

-- entries of another sort accuse nobody
other_first : (faulty : Option ℕ) (cycle : ℕ) (sort : SyndromeKind) (test : ℕ → Bool) (nes : List ℕ) → is_of_members sort ≡ false → AllByRecursion (Accuses faulty) (accused_where cycle sort test nes)
other_first faulty cycle sort test nes wrong = all_kept (Accuses faulty) (λ ne. noted cycle sort ne ne) test nes (λ ne passes right. cc)

-- nor do those of relays
other_relayed : (faulty : Option ℕ) (cycle : ℕ) (sort : SyndromeKind) (round : FirstRound) (said : List Cell) (n me : ℕ) (counts : ℕ → Bool) → is_of_members sort ≡ false
    → AllByRecursion (Accuses faulty) (relayed_copies cycle sort round said n me counts)
other_relayed faulty cycle sort round said n me counts wrong =
    all_flat (Accuses faulty) (copies_by cycle sort round said n counts) (others n me)
    (λ relay. all_kept (Accuses faulty) (λ s. noted cycle sort relay s) (is_wrong_relay round said counts relay) (others n relay) (λ s passes right. cc))

-- nor those of members that say full
other_full : (faulty : Option ℕ) (shown : Shown) (decision : Decision) → AllByRecursion (Accuses faulty) (full_members shown decision)
other_full faulty shown Idle = tt
other_full faulty shown (Discard vid desc number admitted waited) = tt
other_full faulty shown (Exchange service) = other_first faulty shown.cycle kind.O (is_full_at shown service) (below shown.table.n) refl

-- ---- a fault-free live member is admitted, and has the common head

-- the member at a fault-free element is a fault-free one
fine_member : (faulty : Option ℕ) (g : Group) (ne : ℕ) (p : Proc) → is_this faulty ne ≡ false → member_at (live_members g) ne ≡ Some p
    → (Contains (fault_free_members faulty g) p) × (p.ne ≡ ne)
fine_member faulty g ne p good found =
    let at : p.ne ≡ ne = subst (IsAt ne) found (IsAt-member_at ne (live_members g)) in
    let fine : is_fault_free faulty p ≡ true = ap (λ k. not (is_this faulty k)) at ∙ ap not good in
    (contains-filter (is_fault_free faulty) (live_members g) p (find-passes (λ q. q.ne == ne) (live_members g) p found).0 fine, at)

-- its head is the common one
head_of_fine : (t : State) (input : Input) (service : Service) (g : Group) (head : Posted) (ne : ℕ) (p : Proc) → Alike t input service g head
    → is_this input.faulty ne ≡ false → member_at (live_members g) ne ≡ Some p → head_at t.queues p ≡ Some head
head_of_fine t input service g head ne p a good found = head-common t input service g head a p (fine_member input.faulty g ne p good found).0

-- so it is admitted
admitted_fine : (t : State) (input : Input) (service : Service) (g : Group) (head : Posted) (ne : ℕ) (p : Proc) → Alike t input service g head
    → is_this input.faulty ne ≡ false → member_at (live_members g) ne ≡ Some p → has service.admitted ne ≡ true
admitted_fine t input service g head ne p a good found =
    let m = fine_member input.faulty g ne p good found in
    ap (has service.admitted) (sym m.1) ∙ admitted-common t input service g head a p m.0

-- ---- members that are not admitted

-- where one stands at an element, a member is there
member_stands : (ps : List Proc) (ne : ℕ) → stands_at ps ne ≡ true → There (member_at ps ne)
member_stands [] ne e = cc
member_stands (p ∷ ps) ne e = there_by p ps ne (stands_at ps ne) (or_cases (p.ne == ne) (stands_at ps ne) e) (member_stands ps ne)

-- one that is not admitted is at the faulty element
left_out : (b : Bool) (t : State) (input : Input) (service : Service) (g : Group) (head : Posted) (ne : ℕ) → Alike t input service g head
    → is_this input.faulty ne ≡ b → is_left_out t.table service.vid service.admitted ne ≡ true → input.faulty ≡ Some ne
left_out true t input service g head ne a e left = is_this-true input.faulty ne e
left_out false t input service g head ne a e left =
    let both = and_parts (stands_at (senders t.table service.vid) ne) (not (has service.admitted ne)) left in
    let there = member_stands (senders t.table service.vid) ne both.0 in
    let found : member_at (live_members g) ne ≡ Some there.0 = ap (λ o. member_at (unwrap_or (option_map live_members o) []) ne) (sym a.named) ∙ there.1 in
    let admitted = admitted_fine t input service g head ne there.0 a e found in
    let out = not-true (has service.admitted ne) both.1 in
    cc

-- ---- members whose value differs

-- the value of an admitted, fault-free member is the common packet
own_value : (t : State) (input : Input) (service : Service) (g : Group) (head : Posted) (ne : ℕ) → Alike t input service g head → decision_in t input ≡ Exchange service → ne < t.table.n
    → is_this input.faulty ne ≡ false → has service.admitted ne ≡ true → may_send service.kind ne ≡ true → cell_at (packets_in t input).own ne ≡ Some head.1.bytes
own_value t input service g head ne a decided l good admitted sends =
    let m = admitted_has t input service ne a.sound decided l good admitted in
    let found : member_at (live_members g) ne ≡ Some m.proc = ap (λ o. member_at (unwrap_or (option_map live_members o) []) ne) (sym a.named) ∙ m.live in
    let held = head_of_fine t input service g head ne m.proc a good found in
    let counts : contributes service ne ≡ true = and_from (has service.admitted ne) (may_send service.kind ne) admitted sends in
    at_place t.table.n (row_sent t.table t.queues (decision_in t input)) ne None l
    ∙ ap (λ d. row_sent t.table t.queues d ne) decided
    ∙ (λ i. cond (counts i) (unwrap_or (option_map (λ p. packet_of_head service.desc (head_at t.queues p)) (m.live i)) None) None)
    ∙ ap (packet_of_head service.desc) held
    ∙ ap (λ b. cond b (Some head.1.bytes) None) (carries-voted t input service g head a)

-- equal values do not differ
same_differs : (cell result own : Cell) → cell ≡ own → result ≡ own → differs result (Some cell) ≡ false
same_differs cell result own e f = (λ i. not (same_cell (e i) (f i))) ∙ ap not (same_cell-refl own)

-- whether they are compared or not
same_three : (b : Bool) (cell result own : Cell) → cell ≡ own → result ≡ own → differs result (cond b (Some cell) None) ≡ false
same_three true cell result own e f = same_differs cell result own e f
same_three false cell result own e f = refl

-- its value is the result, where the kind compares
compared_same : (sort : Kind) (shown : Shown) (service : Service) (me ne : ℕ) (result own : Cell)
    → (is_source sort ≡ false → result ≡ own) → (may_send sort ne ≡ true → copy_at shown.packets me ne ≡ own) → (may_send sort ne ≡ true → agreed shown.packets ne ≡ own)
    → differs result (compared shown service sort me ne) ≡ false
compared_same Voted shown service me ne result own r c v = same_differs (copy_at shown.packets me ne) result own (c refl) (r refl)
compared_same (Source s) shown service me ne result own r c v = refl
compared_same Every shown service me ne result own r c v = same_three (has_three shown.table service.vid) (agreed shown.packets ne) result own (v refl) (r refl)

-- ---- all entries of a cycle

-- a request of the group is taken
alike_taken : (t : State) (input : Input) (g : Group) (head : Posted) (decision : Decision) → IsSound t → IfTaken (Serves t.table (pattern_in t input)) decision → takes_of g.vid decision ≡ true
    → group_named t.table g.vid ≡ Some g → held_alike input.faulty (head_at t.queues) g ≡ Some head → IfTaken (λ service. Alike t input service g head) decision
alike_taken t input g head Idle sound serves takes named alike = tt
alike_taken t input g head (Discard vid desc number admitted waited) sound serves takes named alike =
    record { sound = sound; serves = serves; named = ap (group_named t.table) (eqb-true vid g.vid takes) ∙ named; alike = alike }
alike_taken t input g head (Exchange service) sound serves takes named alike =
    record { sound = sound; serves = serves; named = ap (group_named t.table) (eqb-true service.vid g.vid takes) ∙ named; alike = alike }

-- those that are not admitted
absent_alike : (t : State) (input : Input) (cycle : ℕ) (g : Group) (head : Posted) (decision : Decision) → IfTaken (λ service. Alike t input service g head) decision
    → AllByRecursion (Accuses input.faulty) (absent_ones cycle t.table decision)
absent_alike t input cycle g head Idle a = tt
absent_alike t input cycle g head (Discard vid desc number admitted waited) a =
    let service : Service = record { vid = vid; desc = desc; kind = Every; admitted = admitted; waited = waited } in
    below_kept (Accuses input.faulty) (λ ne. noted cycle kind.R ne ne) (is_left_out t.table vid admitted) 0 t.table.n t.table.n (omega arith)
    (λ ne l e right. left_out (is_this input.faulty ne) t input service g head ne a refl e)
absent_alike t input cycle g head (Exchange service) a =
    below_kept (Accuses input.faulty) (λ ne. noted cycle kind.R ne ne) (is_left_out t.table service.vid service.admitted) 0 t.table.n t.table.n (omega arith)
    (λ ne l e right. left_out (is_this input.faulty ne) t input service g head ne a refl e)

-- one whose value differs
outvoted_by : (b : Bool) (s : State) (input : Input) (service : Service) (g : Group) (head : Posted) (me ne : ℕ) → IsInput s.table.n input → Alike (before_rounds s input) input service g head
    → decision_in (before_rounds s input) input ≡ Exchange service → ne < s.table.n → is_this input.faulty ne ≡ b
    → is_outvoted (step s input).shown service me ne ≡ true → input.faulty ≡ Some ne
unfolding step shown_by
outvoted_by true s input service g head me ne is a decided l e wrong = is_this-true input.faulty ne e
outvoted_by false s input service g head me ne is a decided l e wrong =
    let t = before_rounds s input in
    let shown = (step s input).shown in
    let both = and_parts (has service.admitted ne) (differs (entry_at t.table service (packets_in t input) me) (compared shown service service.kind me ne)) wrong in
    let own = λ (sends : may_send service.kind ne ≡ true). own_value t input service g head ne a decided l e both.0 sends in
    let never = compared_same service.kind shown service me ne (entry_at t.table service (packets_in t input) me) (Some head.1.bytes)
    (λ many. entry_alike t input service g head me a.sound is decided many a.named a.alike)
    (λ sends. copy-fine (packets_in t input) me ne e ∙ own sends) (λ sends. agreed-fine (packets_in t input) ne e ∙ own sends) in
    let right = both.1 in
    cc

-- all whose value differs
outvoted_alike : (s : State) (input : Input) (g : Group) (head : Posted) (me : ℕ) (decision : Decision) → IsInput s.table.n input → IfTaken (λ service. Alike (before_rounds s input) input service g head) decision
    → decision_in (before_rounds s input) input ≡ decision → AllByRecursion (Accuses input.faulty) (outvoted_members (step s input).shown me decision)
unfolding step shown_by
outvoted_alike s input g head me Idle is a decided = tt
outvoted_alike s input g head me (Discard vid desc number admitted waited) is a decided = tt
outvoted_alike s input g head me (Exchange service) is a decided =
    let shown = (step s input).shown in
    below_kept (Accuses input.faulty) (λ ne. noted shown.cycle kind.V ne ne) (is_outvoted shown service me) 0 s.table.n s.table.n (omega arith)
    (λ ne l e right. outvoted_by (is_this input.faulty ne) s input service g head me ne is a decided l refl e)

-- Where the request that is taken is held alike, what is noted of its members accuses the faulty element.
pub always_accurate_alike : AlwaysAccurateAlike
unfolding step shown_by syndromes_at
always_accurate_alike s input sound is said me g head l takes named alike =
    let t = before_rounds s input in
    let shown = (step s input).shown in
    let here = before_sound s input sound is.acts in
    let P = Accuses input.faulty in
    let taken = alike_taken t input g head (decision_in t input) here (decision_takes t.table (pattern_in t input) t.cycle t.scoreboard) takes named alike in
    let absent = subst (AllByRecursion P) (absent-same shown (decision_in t input)) (absent_alike t input t.cycle g head (decision_in t input) taken) in
    All-from_recursion P (syndromes_at shown said me)
    (all-append P _ _ (all-append P _ _ (all-append P _ _ (all-append P _ _ (all-append P _ _ (all-append P _ _
    (other_first input.faulty shown.cycle kind.P1 (is_wrong_copy shown.patterns (λ k. true) me) (others shown.table.n me) refl)
    (other_relayed input.faulty shown.cycle kind.P2 shown.patterns said.patterns shown.table.n me (λ k. true) refl))
    absent)
    (other_full input.faulty shown shown.decision))
    (other_first input.faulty shown.cycle kind.D1 (is_wrong_copy shown.packets (is_relayed shown.decision) me) (others shown.table.n me) refl))
    (other_relayed input.faulty shown.cycle kind.D2 shown.packets said.packets shown.table.n me (is_relayed shown.decision) refl))
    (outvoted_alike s input g head me (decision_in t input) is taken refl))
