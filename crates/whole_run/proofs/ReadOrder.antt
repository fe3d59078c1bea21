-- What a processor reads, and what waits at it, is what it was handed, in order.
use Rattle.std.proofs.Common.{◌≡◌, ℕ, zero, suc, ◌<◌, ◌≤◌, Bool, true, false, cond, List, [], ◌∷◌, ◌++◌, length, take, drop, refl, ap, arith, sym, ◌∙◌, subst, append_assoc}
use Rattle.std.specs.Prelude.{Option, Some, None, ◌||◌}
use Rattle.std.specs.List.{AllByRecursion, flat_map, list_any}
use Rattle.std.proofs.lemmas.Bool.{eqb-false}
use Rattle.std.proofs.Math.Seq.{take-suc}
use Rattle.std.proofs.lemmas.List.{append-nil, take-append-drop}
use Rattle.std.proofs.lemmas.List.Concat.{flat_map-append}
use Rattle.std.proofs.lemmas.List.Elements.{All-from_recursion, All-take, All-drop, recursion_from_All}
use Rattle.ftpp_base.specs.Lists.{is_this}
use Rattle.ftpp_base.specs.declared.element.Proc.{Proc}
use Rattle.ftpp_base.proofs.Among.{all-get_or, all-replicate}
use Rattle.ftpp_base.proofs.Changed.{change_at-other, change_at-keeps, fold-keeps}
use Rattle.packet_format.specs.declared.Delivered.{Delivered}
use Rattle.packet_format.specs.declared.acts.Act.{Act}
use Rattle.packet_format.specs.declared.acts.Act.TheVariants.{Post, Read}
use Rattle.config_table.specs.Groups.{same_proc}
use Rattle.config_table.specs.Table.{TableValue, IsValid, out_limit}
use Rattle.config_table.proofs.Procs.{same_proc-true}
use Rattle.processor_buffers.specs.Queues.{Queues, Posted, no_queues, first, rest, has_out_room, after_post, after_read}
use Rattle.table_update.specs.declared.Update.{Update}
use Rattle.table_update.specs.declared.Applied.{Applied}
use Rattle.table_update.specs.declared.Applied.TheVariants as applied_variant
use Rattle.table_update.specs.Updates.{applied}
use Rattle.element_core.specs.Processors.{AllQueues, empty_ports, empty_queues, port_queues, queues_of, with_queues, emptied_at, read_answer, after_act, answer_to, after_acts, answers_to}
use Rattle.element_core.specs.Cycle.{State, Input, start, step, shown_by, served, after_rejoin, changed_by, with_update, update_packet, update_in}
use Rattle.element_core.specs.Run.{Journal, run, run_from, history, no_input, state_at, input_at, shown_at}
use Rattle.element_core.specs.Alone.{IsSound, IsInput}
use Rattle.element_core.proofs.Accepted.{acts-place}
use Rattle.element_core.proofs.Places.{IsPlace, with_queues-is, with_queues-keeps, fold-others}
use Rattle.element_core.proofs.RunLaws.{history-append, state_at-suc}
use Rattle.element_core.proofs.Sound.{rejoin_sound, step_sound, step_size}
use Rattle.element_core.proofs.SoundRuns.{runs_stay_sound, sound_at}
use Rattle.whole_run.specs.LogOrder.{queues_delivered, handed_in, handed_from, handed_of, read_by, read_among, read_from, cleared_by, cleared_with, is_emptied, IsNeverEmptied, ReadsInOrder}
use Rattle.whole_run.proofs.HandedIn.{place_of, handed-more}

-- ---- one act

-- a post leaves the input
post_input : (limit : ℕ) (posted : Posted) (q : Queues) → (after_post limit posted q).input ≡ q.input
post_input limit posted q = by (has_out_room limit q) where
  by : (b : Bool) → (cond b (record q { output = q.output ++ posted ∷ [] }) q).input ≡ q.input
  by true = refl
  by false = refl

-- also where it may be a post elsewhere
post_where : (limit : ℕ) (posted : Posted) (q : Queues) (b : Bool) → q.input ≡ (cond b (after_post limit posted q) q).input
post_where limit posted q true = sym (post_input limit posted q)
post_where limit posted q false = refl

-- a read at the processor takes the first
read_here : (q p : Proc) (xs : List Delivered) → same_proc q p ≡ true → xs ≡ read_by p (Read q) (read_answer (first xs)) ++ rest xs
read_here q p [] e = refl
read_here q p (d ∷ xs) e = sym (ap (λ (b : Bool). cond b (d ∷ []) [] ++ xs) e)

-- one elsewhere reads nothing there
read_there : (q p : Proc) (xs : List Delivered) → same_proc q p ≡ false → read_by p (Read q) (read_answer (first xs)) ≡ []
read_there q p [] e = refl
read_there q p (d ∷ xs) e = ap (λ (b : Bool). cond b (d ∷ []) []) e

-- an input is what an act reads there, and what the act leaves
act_input : (table : TableValue) (all : AllQueues) (p : Proc) (act : Act) → IsPlace all p
    → (queues_of all p).input ≡ read_by p act (answer_to table all act) ++ (queues_of (after_act table all act) p).input
act_input table all p (Post q desc packet) place =
    post_where (out_limit table q) (desc, packet) (queues_of all p) (same_proc q p)
    ∙ ap (λ (x : Queues). x.input) (sym (with_queues-is (after_post (out_limit table q) (desc, packet)) all q p place))
act_input table all p (Read q) place = by (same_proc q p) refl where
  left : (b : Bool) → same_proc q p ≡ b → (cond b (after_read (queues_of all p)) (queues_of all p)).input ≡ (queues_of (after_act table all (Read q)) p).input
  left b e = ap (λ (c : Bool). (cond c (after_read (queues_of all p)) (queues_of all p)).input) (sym e) ∙ ap (λ (x : Queues). x.input) (sym (with_queues-is after_read all q p place))

  by : (b : Bool) → same_proc q p ≡ b → (queues_of all p).input ≡ read_by p (Read q) (read_answer (first (queues_of all q).input)) ++ (queues_of (after_act table all (Read q)) p).input
  by true e =
      let same = same_proc-true q p e in
      read_here q p (queues_of all p).input e
      ∙ (λ i. read_by p (Read q) (read_answer (first (queues_of all (sym same i)).input)) ++ left true e i)
  by false e =
      let none = read_there q p (queues_of all q).input e in
      left false e ∙ ap (λ xs. xs ++ (queues_of (after_act table all (Read q)) p).input) (sym none)

-- a place stays one after an act
act_place : (table : TableValue) (all : AllQueues) (p : Proc) (act : Act) → IsPlace all p → IsPlace (after_act table all act) p
act_place table all p act place = acts-place table all p (act ∷ []) place

-- an input is what the acts of a cycle read there, and what they leave
acts_input : (table : TableValue) (all : AllQueues) (p : Proc) (acts : List Act) → IsPlace all p
    → (queues_of all p).input ≡ read_among p acts (answers_to table all acts) ++ (queues_of (after_acts table all acts) p).input
acts_input table all p [] place = refl
acts_input table all p (act ∷ acts) place =
    let one = read_by p act (answer_to table all act) in
    let next = after_act table all act in
    act_input table all p act place
    ∙ ap (λ xs. one ++ xs) (acts_input table next p acts (act_place table all p act place))
    ∙ sym (append_assoc one (read_among p acts (answers_to table next acts)) (queues_of (after_acts table next acts) p).input)

-- ---- what empties queues

-- a rejoin of another element
rejoin_keeps : (rejoined : Option ℕ) (all : AllQueues) (p : Proc) → is_this rejoined p.ne ≡ false → queues_of (emptied_at all rejoined) p ≡ queues_of all p
rejoin_keeps None all p e = refl
rejoin_keeps (Some ne) all p e = ap (λ ports. port_queues ports p.port) (change_at-other (λ ports. empty_ports) all ne p.ne [] (eqb-false ne p.ne e))

-- neither of two
neither : (a b : Bool) → (a || b) ≡ false → (a ≡ false) × (b ≡ false)
neither true b e = cc
neither false b e = (refl, e)

-- none of them
none_of : (test : Proc → Bool) (ps : List Proc) → list_any test ps ≡ false → AllByRecursion (λ q. test q ≡ false) ps
none_of test [] e = tt
none_of test (p ∷ ps) e = let both = neither (test p) (list_any test ps) e in (both.0, none_of test ps both.1)

-- an update that does not clear its port
changed_keeps : (a : Applied) (update : Update) (s : State) (p : Proc) → list_any (λ q. same_proc q p) (cleared_by a) ≡ false → queues_of (changed_by a update s).queues p ≡ queues_of s.queues p
changed_keeps (applied_variant.Done ports) update s p e = fold-others (λ q. no_queues) s.queues ports.items p (none_of (λ q. same_proc q p) ports.items e)
changed_keeps (applied_variant.Refused error) update s p e = refl
changed_keeps applied_variant.Absent update s p e = refl

-- also where there may be none
update_keeps : (update : Option Update) (s : State) (p : Proc) → list_any (λ q. same_proc q p) (cleared_with s.table update) ≡ false → queues_of (with_update update s).queues p ≡ queues_of s.queues p
update_keeps None s p e = refl
update_keeps (Some update) s p e = changed_keeps (applied s.table update) update s p e

-- ---- one cycle

-- what waits is what is read, and what still waits before the rounds
begins : (s : State) (input : Input) (p : Proc) → IsSound s → p.ne < s.table.n → p.port < 8 → is_this input.rejoined p.ne ≡ false
    → (queues_of s.queues p).input ≡ read_among p input.acts (step s input).shown.answers ++ (queues_of (step s input).shown.queues p).input
unfolding step shown_by
begins s input p sound l w e =
    let all = emptied_at s.queues input.rejoined in
    ap (λ (x : Queues). x.input) (sym (rejoin_keeps input.rejoined s.queues p e))
    ∙ acts_input s.table all p input.acts (place_of s.table.n all p (rejoin_sound s input.rejoined sound).ports l w)

-- an update that does not empty its queues leaves what was delivered
ends : (s : State) (input : Input) (p : Proc) → is_emptied p (step s input).shown ≡ false → queues_of (step s input).state.queues p ≡ queues_of (queues_delivered (step s input).shown) p
unfolding step shown_by served
ends s input p e =
    let after = after_rejoin s input.rejoined in
    let shown = shown_by after input in
    update_keeps (update_in (update_packet s.table shown.decision shown.packets)) (served after shown) p e

-- what waits and what is handed is what is read and what waits then
cycle_reads : (s : State) (input : Input) (p : Proc) → IsSound s → IsInput s.table.n input → p.ne < s.table.n → p.port < 8 → is_this input.rejoined p.ne ≡ false → is_emptied p (step s input).shown ≡ false
    → (queues_of s.queues p).input ++ handed_in p (step s input).shown ≡ read_among p input.acts (step s input).shown.answers ++ (queues_of (step s input).state.queues p).input
cycle_reads s input p sound is l w rejoin emptied =
    let shown = (step s input).shown in
    let read = read_among p input.acts shown.answers in
    ap (λ xs. xs ++ handed_in p shown) (begins s input p sound l w rejoin)
    ∙ append_assoc read (queues_of shown.queues p).input (handed_in p shown)
    ∙ ap (λ xs. read ++ xs) (sym (handed-more s input p sound is) ∙ ap (λ (x : Queues). x.input) (sym (ends s input p emptied)))

-- ---- many cycles

-- the later inputs are those among the elements that are there then
later_inputs : (s : State) (input : Input) (journal : Journal) → AllByRecursion (IsInput s.table.n) journal → AllByRecursion (IsInput (step s input).state.table.n) journal
later_inputs s input journal = subst (λ n. AllByRecursion (IsInput n) journal) (sym (step_size s input))

-- A processor reads in order.
pub reads_in_order : ReadsInOrder
reads_in_order s [] p sound are l w never = append-nil (queues_of s.queues p).input
reads_in_order s (input ∷ journal) p sound are l w never =
    let next = (step s input).state in
    let shown = (step s input).shown in
    let read = read_among p input.acts shown.answers in
    let more = handed_from next journal p in
    let size = step_size s input in
    sym (append_assoc (queues_of s.queues p).input (handed_in p shown) more)
    ∙ ap (λ xs. xs ++ more) (cycle_reads s input p sound are.0 l w never.rejoins.0 never.updates.0)
    ∙ append_assoc read (queues_of next.queues p).input more
    ∙ ap (λ xs. read ++ xs)
    (reads_in_order next journal p (step_sound s input sound are.0) (later_inputs s input journal are.1) (omega arith) w (record { rejoins = never.rejoins.1; updates = never.updates.1 }))
    ∙ sym (append_assoc read (read_from next journal p) (queues_of (run_from next journal).queues p).input)

-- a run goes on from where its first cycles ended
goes_on : (s : State) (front back : Journal) → run_from s (front ++ back) ≡ run_from (run_from s front) back
goes_on s [] back = refl
goes_on s (input ∷ front) back = goes_on (step s input).state front back

-- so in a run
ends_so : (table : TableValue) (journal : Journal) (k : ℕ) → run_from (state_at table journal k) (drop k journal) ≡ run table journal
unfolding run
ends_so table journal k = sym (goes_on (start table) (take k journal) (drop k journal)) ∙ ap (run_from (start table)) (take-append-drop k journal)

-- what comes in the first cycles, and in the others
first_inputs : (n k : ℕ) (journal : Journal) → AllByRecursion (IsInput n) journal → AllByRecursion (IsInput n) (take k journal)
first_inputs n k journal are = recursion_from_All (IsInput n) (take k journal) (All-take (IsInput n) k journal (All-from_recursion (IsInput n) journal are))

other_inputs : (n k : ℕ) (journal : Journal) → AllByRecursion (IsInput n) journal → AllByRecursion (IsInput n) (drop k journal)
other_inputs n k journal are = recursion_from_All (IsInput n) (drop k journal) (All-drop (IsInput n) k journal (All-from_recursion (IsInput n) journal are))

-- What a processor reads from a cycle on is what waits there, and what it is handed from then on.
pub reads-from : (table : TableValue) (journal : Journal) (p : Proc) (k : ℕ) → IsValid table → AllByRecursion (IsInput table.n) journal → p.ne < table.n → p.port < 8
    → IsNeverEmptied (state_at table journal k) (drop k journal) p
    → (queues_of (state_at table journal k).queues p).input ++ handed_from (state_at table journal k) (drop k journal) p
    ≡ read_from (state_at table journal k) (drop k journal) p ++ (queues_of (run table journal).queues p).input
reads-from table journal p k valid are l w never =
    let s = state_at table journal k in
    let rest = drop k journal in
    let at = runs_stay_sound table (take k journal) valid (first_inputs table.n k journal are) in
    let size = at.1 in
    reads_in_order s rest p at.0 (subst (λ n. AllByRecursion (IsInput n) rest) (sym size) (other_inputs table.n k journal are)) (omega arith) w never
    ∙ ap (λ (t : State). read_from s rest p ++ (queues_of t.queues p).input) (ends_so table journal k)

-- ---- what waits is the end of what was handed

-- a list is the end of another
abbrev IsEnd : List Delivered → List Delivered → Type 0
IsEnd whole xs = (gone : List Delivered) × (whole ≡ gone ++ xs)

-- queues whose input is
abbrev HasEnd : List Delivered → Queues → Type 0
HasEnd whole q = IsEnd whole q.input

-- so is nothing
end_none : (whole : List Delivered) → IsEnd whole []
end_none whole = (whole, sym (append-nil whole))

-- and the rest
end_rest : (whole xs : List Delivered) → IsEnd whole xs → IsEnd whole (rest xs)
end_rest whole [] h = h
end_rest whole (d ∷ xs) h = (h.0 ++ d ∷ [], h.1 ∙ sym (append_assoc h.0 (d ∷ []) xs))

-- and with more behind both
end_more : (whole xs ys : List Delivered) → IsEnd whole xs → IsEnd (whole ++ ys) (xs ++ ys)
end_more whole xs ys h = (h.0, ap (λ zs. zs ++ ys) h.1 ∙ append_assoc h.0 xs ys)

-- an act keeps it
end_act : (whole : List Delivered) (table : TableValue) (all : AllQueues) (p : Proc) (act : Act) → HasEnd whole (queues_of all p) → HasEnd whole (queues_of (after_act table all act) p)
end_act whole table all p (Post q desc packet) h =
    with_queues-keeps (HasEnd whole) (after_post (out_limit table q) (desc, packet)) all q p (λ x e. subst (IsEnd whole) (sym (post_input (out_limit table q) (desc, packet) x)) e) h
end_act whole table all p (Read q) h = with_queues-keeps (HasEnd whole) after_read all q p (λ x e. end_rest whole x.input e) h

-- so do the acts of a cycle
end_acts : (whole : List Delivered) (table : TableValue) (all : AllQueues) (p : Proc) (acts : List Act) → HasEnd whole (queues_of all p) → HasEnd whole (queues_of (after_acts table all acts) p)
end_acts whole table all p [] h = h
end_acts whole table all p (act ∷ acts) h = end_acts whole table (after_act table all act) p acts (end_act whole table all p act h)

-- all ports of an element have it
abbrev HaveEnd : List Delivered → List Queues → Type 0
HaveEnd whole ports = (port : ℕ) → HasEnd whole (port_queues ports port)

-- empty ports do
end_empty : (whole : List Delivered) → HaveEnd whole empty_ports
end_empty whole port = all-get_or (HasEnd whole) empty_ports port no_queues (all-replicate (HasEnd whole) 8 no_queues (end_none whole)) (end_none whole)

-- a rejoin keeps it
end_rejoin : (whole : List Delivered) (rejoined : Option ℕ) (all : AllQueues) (p : Proc) → HasEnd whole (queues_of all p) → HasEnd whole (queues_of (emptied_at all rejoined) p)
end_rejoin whole None all p h = h
end_rejoin whole (Some ne) all p h =
    change_at-keeps (λ ports. HasEnd whole (port_queues ports p.port)) (λ ports. empty_ports) all ne p.ne [] (λ ports e. end_empty whole p.port) h

-- so does an update
end_changed : (whole : List Delivered) (a : Applied) (update : Update) (s : State) (p : Proc) → HasEnd whole (queues_of s.queues p) → HasEnd whole (queues_of (changed_by a update s).queues p)
end_changed whole (applied_variant.Done ports) update s p h =
    fold-keeps (λ all. HasEnd whole (queues_of all p)) (with_queues (λ q. no_queues)) ports.items s.queues
    (λ all q i e. with_queues-keeps (HasEnd whole) (λ x. no_queues) all q p (λ x f. end_none whole) e) h
end_changed whole (applied_variant.Refused error) update s p h = h
end_changed whole applied_variant.Absent update s p h = h

end_update : (whole : List Delivered) (update : Option Update) (s : State) (p : Proc) → HasEnd whole (queues_of s.queues p) → HasEnd whole (queues_of (with_update update s).queues p)
end_update whole None s p h = h
end_update whole (Some update) s p h = end_changed whole (applied s.table update) update s p h

-- before the rounds
end_before : (whole : List Delivered) (s : State) (input : Input) (p : Proc) → HasEnd whole (queues_of s.queues p) → HasEnd whole (queues_of (step s input).shown.queues p)
unfolding step shown_by
end_before whole s input p h = end_acts whole s.table (emptied_at s.queues input.rejoined) p input.acts (end_rejoin whole input.rejoined s.queues p h)

-- after the update
end_after : (whole : List Delivered) (s : State) (input : Input) (p : Proc) → HasEnd whole (queues_of (queues_delivered (step s input).shown) p) → HasEnd whole (queues_of (step s input).state.queues p)
unfolding step shown_by served
end_after whole s input p h =
    let after = after_rejoin s input.rejoined in
    let shown = shown_by after input in
    end_update whole (update_in (update_packet s.table shown.decision shown.packets)) (served after shown) p h

-- a cycle keeps it, with what it hands
end_cycle : (whole : List Delivered) (s : State) (input : Input) (p : Proc) → IsSound s → IsInput s.table.n input → HasEnd whole (queues_of s.queues p)
    → HasEnd (whole ++ handed_in p (step s input).shown) (queues_of (step s input).state.queues p)
end_cycle whole s input p sound is h =
    let shown = (step s input).shown in
    let all = whole ++ handed_in p shown in
    end_after all s input p
    (subst (IsEnd all) (sym (handed-more s input p sound is)) (end_more whole (queues_of shown.queues p).input (handed_in p shown) (end_before whole s input p h)))

-- nothing waits at the start
end_start : (table : TableValue) (p : Proc) → HasEnd [] (queues_of (start table).queues p)
end_start table p = all-get_or (HaveEnd []) (empty_queues table.n) p.ne [] (all-replicate (HaveEnd []) table.n empty_ports (end_empty [])) (λ port. end_none []) p.port

-- what was handed before the next cycle
handed_next : (table : TableValue) (journal : Journal) (p : Proc) (k : ℕ) → k < length journal
    → handed_of table (take (suc k) journal) p ≡ handed_of table (take k journal) p ++ handed_in p (shown_at table journal k)
handed_next table journal p k l =
    ap (λ (j : Journal). handed_of table j p) (take-suc journal k no_input l)
    ∙ ap (flat_map (handed_in p)) (history-append table (take k journal) (input_at journal k))
    ∙ flat_map-append (handed_in p) (history table (take k journal)) (shown_at table journal k ∷ [])
    ∙ ap (λ xs. handed_of table (take k journal) p ++ xs) (append-nil (handed_in p (shown_at table journal k)))

-- before the first cycle
handed_first : (table : TableValue) (journal : Journal) (p : Proc) → HasEnd (handed_of table (take 0 journal) p) (queues_of (state_at table journal 0).queues p)
unfolding run history
handed_first table journal p = end_start table p

-- What waits at a processor is always the end of what it was handed.
pub waits-end : (table : TableValue) (journal : Journal) (p : Proc) (k : ℕ) → IsValid table → AllByRecursion (IsInput table.n) journal → k ≤ length journal
    → HasEnd (handed_of table (take k journal) p) (queues_of (state_at table journal k).queues p)
waits-end table journal p zero valid are l = handed_first table journal p
waits-end table journal p (suc k) valid are l =
    let less : k < length journal = omega arith in
    let at = sound_at table journal k valid are less in
    let whole = handed_of table (take k journal) p in
    let one = end_cycle whole (state_at table journal k) (input_at journal k) p at.0 at.1 (waits-end table journal p k valid are (omega arith)) in
    subst (λ xs. HasEnd xs (queues_of (state_at table journal (suc k)).queues p)) (sym (handed_next table journal p k less))
    (subst (λ (t : State). HasEnd (whole ++ handed_in p (shown_at table journal k)) (queues_of t.queues p)) (sym (state_at-suc table journal k less)) one)
