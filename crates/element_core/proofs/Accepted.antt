-- The accepted posts of a processor, and what they make of its output.
use Rattle.std.proofs.Common.{◌≡◌, ℕ, zero, suc, ◌<◌, Bool, true, false, cond, List, [], ◌∷◌, ◌++◌, length, map, drop, refl, ap, arith, sym, ◌∙◌, subst, append-nil, append_assoc, slice_get, Some, option_map}
use Rattle.std.specs.List.{AllByRecursion}
use Rattle.std.proofs.lemmas.List.{map-append}
use Rattle.ftpp_base.specs.declared.element.Proc.{Proc}
use Rattle.packet_format.specs.declared.Packet.{Packet}
use Rattle.packet_format.specs.declared.Descriptor.{Descriptor}
use Rattle.packet_format.specs.declared.acts.Act.{Act}
use Rattle.packet_format.specs.declared.acts.Act.TheVariants.{Post, Read}
use Rattle.packet_format.specs.declared.acts.ActAnswer.{ActAnswer}
use Rattle.packet_format.specs.declared.acts.ActAnswer.TheVariants.{Posted as Accepted, PostFull, Got, Nothing}
use Rattle.config_table.specs.Groups.{same_proc}
use Rattle.config_table.specs.Table.{TableValue, out_limit}
use Rattle.processor_buffers.specs.Queues.{Queues, Posted, first, rest, has_out_room, after_post, after_read}
use Rattle.element_core.specs.Processors.{AllQueues, queues_of, after_act, after_acts, answer_to, answers_to}
use Rattle.element_core.specs.Alone.{IsAct}
use Rattle.element_core.specs.Premises.{accepted_among, posted_of}
use Rattle.ftpp_base.proofs.Among.{all-append}
use Rattle.config_table.proofs.Procs.{same_proc-true}
use Rattle.element_core.proofs.Places.{IsPlace, place-kept, with_queues-is}
pub use Rattle.data_exchange.specs.Laws.{HasRow}

-- what waits to be sent at a processor
abbrev pub output_of : AllQueues → Proc → List Posted
output_of all p = (queues_of all p).output

-- ---- one act

-- what one act adds to the accepted posts
abbrev accepted_one : ℕ → Proc → Act → ActAnswer → List (ℕ × Posted)
accepted_one cycle p (Post q desc packet) Accepted = cond (same_proc q p) ((cycle, (desc, packet)) ∷ []) []
accepted_one cycle p (Post q desc packet) PostFull = []
accepted_one cycle p (Post q desc packet) (Got d) = []
accepted_one cycle p (Post q desc packet) Nothing = []
accepted_one cycle p (Read q) answer = []

-- the accepted posts of a cycle, the first act apart
one_more : (cycle : ℕ) (p : Proc) (act : Act) (answer : ActAnswer) (acts : List Act) (answers : List ActAnswer)
    → accepted_among cycle p (act ∷ acts) (answer ∷ answers) ≡ accepted_one cycle p act answer ++ accepted_among cycle p acts answers
one_more cycle p (Post q desc packet) Accepted acts answers = refl
one_more cycle p (Post q desc packet) PostFull acts answers = refl
one_more cycle p (Post q desc packet) (Got d) acts answers = refl
one_more cycle p (Post q desc packet) Nothing acts answers = refl
one_more cycle p (Read q) answer acts answers = refl

-- the queues after a post
abbrev posting : ℕ → Descriptor → Packet → Queues → Queues
posting limit desc packet q = after_post limit (desc, packet) q

-- a post at the processor itself, with or without room, or elsewhere
post_by : (limit cycle : ℕ) (x : Queues) (p q : Proc) (desc : Descriptor) (packet : Packet) (room same : Bool) → has_out_room limit x ≡ room → same_proc q p ≡ same
    → (cond same (posting limit desc packet x) x).output ≡ x.output ++ map posted_of (accepted_one cycle p (Post q desc packet) (cond room Accepted PostFull))
post_by limit cycle x p q desc packet true true e f =
    ap (λ (b : Bool). (cond b (record x { output = x.output ++ (desc, packet) ∷ [] }) x).output) e
    ∙ ap (λ (b : Bool). x.output ++ map posted_of (cond b ((cycle, (desc, packet)) ∷ []) [])) (sym f)
post_by limit cycle x p q desc packet true false e f = sym (ap (λ (b : Bool). x.output ++ map posted_of (cond b ((cycle, (desc, packet)) ∷ []) [])) f ∙ append-nil x.output)
post_by limit cycle x p q desc packet false true e f = ap (λ (b : Bool). (cond b (record x { output = x.output ++ (desc, packet) ∷ [] }) x).output) e ∙ sym (append-nil x.output)
post_by limit cycle x p q desc packet false false e f = sym (append-nil x.output)

-- a post at any processor, by the room there
post_at : (table : TableValue) (cycle : ℕ) (all : AllQueues) (p q : Proc) (desc : Descriptor) (packet : Packet) (same : Bool) → same_proc q p ≡ same
    → (cond same (posting (out_limit table q) desc packet (queues_of all p)) (queues_of all p)).output
    ≡ output_of all p ++ map posted_of (accepted_one cycle p (Post q desc packet) (answer_to table all (Post q desc packet)))
post_at table cycle all p q desc packet true e =
    let same : q ≡ p = same_proc-true q p e in
    post_by (out_limit table q) cycle (queues_of all p) p q desc packet (has_out_room (out_limit table q) (queues_of all p)) true refl e
    ∙ ap (λ (r : Proc). output_of all p ++ map posted_of (accepted_one cycle p (Post q desc packet) (cond (has_out_room (out_limit table q) (queues_of all r)) Accepted PostFull))) (sym same)
post_at table cycle all p q desc packet false e = other (has_out_room (out_limit table q) (queues_of all q)) where
  other : (room : Bool) → output_of all p ≡ output_of all p ++ map posted_of (accepted_one cycle p (Post q desc packet) (cond room Accepted PostFull))
  other true = sym (ap (λ (b : Bool). output_of all p ++ map posted_of (cond b ((cycle, (desc, packet)) ∷ []) [])) e ∙ append-nil (output_of all p))
  other false = sym (append-nil (output_of all p))

-- a read leaves the output
read_by : (x : Queues) (b : Bool) → (cond b (after_read x) x).output ≡ x.output ++ []
read_by x true = sym (append-nil x.output)
read_by x false = sym (append-nil x.output)

-- an output after one act
act_output : (table : TableValue) (cycle : ℕ) (all : AllQueues) (p : Proc) (act : Act) → IsPlace all p
    → output_of (after_act table all act) p ≡ output_of all p ++ map posted_of (accepted_one cycle p act (answer_to table all act))
act_output table cycle all p (Post q desc packet) place =
    ap (λ (x : Queues). x.output) (with_queues-is (posting (out_limit table q) desc packet) all q p place)
    ∙ post_at table cycle all p q desc packet (same_proc q p) refl
act_output table cycle all p (Read q) place =
    ap (λ (x : Queues). x.output) (with_queues-is after_read all q p place) ∙ read_by (queues_of all p) (same_proc q p)

-- a place stays one after an act
act_place : (table : TableValue) (all : AllQueues) (p : Proc) (act : Act) → IsPlace all p → IsPlace (after_act table all act) p
act_place table all p (Post q desc packet) place = place-kept (posting (out_limit table q) desc packet) all q p place
act_place table all p (Read q) place = place-kept after_read all q p place

-- ---- all acts

-- a place stays one after the acts of a cycle
pub acts-place : (table : TableValue) (all : AllQueues) (p : Proc) (acts : List Act) → IsPlace all p → IsPlace (after_acts table all acts) p
acts-place table all p [] place = place
acts-place table all p (act ∷ acts) place = acts-place table (after_act table all act) p acts (act_place table all p act place)

-- an output after the acts of a cycle: the accepted posts stand behind what stood there
pub acts-output : (table : TableValue) (cycle : ℕ) (all : AllQueues) (p : Proc) (acts : List Act) → IsPlace all p
    → output_of (after_acts table all acts) p ≡ output_of all p ++ map posted_of (accepted_among cycle p acts (answers_to table all acts))
acts-output table cycle all p [] place = sym (append-nil (output_of all p))
acts-output table cycle all p (act ∷ acts) place =
    let one = accepted_one cycle p act (answer_to table all act) in
    let more = accepted_among cycle p acts (answers_to table (after_act table all act) acts) in
    acts-output table cycle (after_act table all act) p acts (act_place table all p act place)
    ∙ ap (λ (xs : List Posted). xs ++ map posted_of more) (act_output table cycle all p act place)
    ∙ append_assoc (output_of all p) (map posted_of one) (map posted_of more)
    ∙ ap (λ (xs : List Posted). output_of all p ++ xs) (sym (map-append posted_of one more))
    ∙ ap (λ (xs : List (ℕ × Posted)). output_of all p ++ map posted_of xs) (sym (one_more cycle p act (answer_to table all act) acts (answers_to table (after_act table all act) acts)))

-- ---- what holds of each accepted post of a cycle

-- a post of the cycle, or none
dated_by : (cycle : ℕ) (posted : Posted) (b : Bool) → AllByRecursion (λ (post : ℕ × Posted). post.0 ≡ cycle) (cond b ((cycle, posted) ∷ []) [])
dated_by cycle posted true = (refl, tt)
dated_by cycle posted false = tt

-- what one act adds is of the cycle
dated_one : (cycle : ℕ) (p : Proc) (act : Act) (answer : ActAnswer) → AllByRecursion (λ (post : ℕ × Posted). post.0 ≡ cycle) (accepted_one cycle p act answer)
dated_one cycle p (Post q desc packet) Accepted = dated_by cycle (desc, packet) (same_proc q p)
dated_one cycle p (Post q desc packet) PostFull = tt
dated_one cycle p (Post q desc packet) (Got d) = tt
dated_one cycle p (Post q desc packet) Nothing = tt
dated_one cycle p (Read q) answer = tt

-- each is of that cycle
pub accepted-dated : (cycle : ℕ) (p : Proc) (acts : List Act) (answers : List ActAnswer) → AllByRecursion (λ (post : ℕ × Posted). post.0 ≡ cycle) (accepted_among cycle p acts answers)
accepted-dated cycle p [] answers = tt
accepted-dated cycle p (act ∷ acts) [] = tt
accepted-dated cycle p (act ∷ acts) (answer ∷ answers) =
    let P : ℕ × Posted → Type 0 = λ (post : ℕ × Posted). post.0 ≡ cycle in
    subst (AllByRecursion P) (sym (one_more cycle p act answer acts answers))
    (all-append P (accepted_one cycle p act answer) (accepted_among cycle p acts answers) (dated_one cycle p act answer) (accepted-dated cycle p acts answers))

-- a post of a packet of 64 bytes, or none
row_by : (cycle : ℕ) (posted : Posted) (b : Bool) → HasRow posted → AllByRecursion HasRow (map posted_of (cond b ((cycle, posted) ∷ []) []))
row_by cycle posted true h = (h, tt)
row_by cycle posted false h = tt

-- what one act adds has 64 bytes
row_one : (cycle : ℕ) (p : Proc) (act : Act) (answer : ActAnswer) → IsAct act → AllByRecursion HasRow (map posted_of (accepted_one cycle p act answer))
row_one cycle p (Post q desc packet) Accepted h = row_by cycle (desc, packet) (same_proc q p) h.row
row_one cycle p (Post q desc packet) PostFull h = tt
row_one cycle p (Post q desc packet) (Got d) h = tt
row_one cycle p (Post q desc packet) Nothing h = tt
row_one cycle p (Read q) answer h = tt

-- each has 64 bytes, where each post of the acts has
pub accepted-rows : (cycle : ℕ) (p : Proc) (acts : List Act) (answers : List ActAnswer) → AllByRecursion IsAct acts → AllByRecursion HasRow (map posted_of (accepted_among cycle p acts answers))
accepted-rows cycle p [] answers h = tt
accepted-rows cycle p (act ∷ acts) [] h = tt
accepted-rows cycle p (act ∷ acts) (answer ∷ answers) h =
    subst (AllByRecursion HasRow) (sym (ap (map posted_of) (one_more cycle p act answer acts answers) ∙ map-append posted_of (accepted_one cycle p act answer) (accepted_among cycle p acts answers)))
    (all-append HasRow (map posted_of (accepted_one cycle p act answer)) (map posted_of (accepted_among cycle p acts answers)) (row_one cycle p act answer h.0) (accepted-rows cycle p acts answers h.1))

-- ---- entries of lists by their number

-- the first after c went is the one of number c
pub first-drop : {A B : Type 0} (f : A → B) (c : ℕ) (xs : List A) → first (map f (drop c xs)) ≡ option_map f (slice_get xs c)
first-drop f zero [] = refl
first-drop f zero (x ∷ xs) = refl
first-drop f (suc c) [] = refl
first-drop f (suc c) (x ∷ xs) = first-drop f c xs

-- without it, one more went
pub rest-drop : {A B : Type 0} (f : A → B) (c : ℕ) (xs : List A) → rest (map f (drop c xs)) ≡ map f (drop (suc c) xs)
rest-drop f zero [] = refl
rest-drop f zero (x ∷ xs) = refl
rest-drop f (suc c) [] = refl
rest-drop f (suc c) (x ∷ xs) = rest-drop f c xs

-- what holds of all items holds of the one of a number
pub slice_get-all : {A : Type 0} (P : A → Type 0) (xs : List A) (k : ℕ) (x : A) → AllByRecursion P xs → slice_get xs k ≡ Some x → P x
slice_get-all P [] k x a e = cc
slice_get-all P (y ∷ ys) zero x a e = let same : y ≡ x = cc in subst P same a.0
slice_get-all P (y ∷ ys) (suc k) x a e = slice_get-all P ys k x a.1 e

-- an entry stays in its place where more is appended
pub slice_get-left : {A : Type 0} (xs ys : List A) (k : ℕ) (x : A) → slice_get xs k ≡ Some x → slice_get (xs ++ ys) k ≡ Some x
slice_get-left [] ys k x e = cc
slice_get-left (y ∷ xs) ys zero x e = e
slice_get-left (y ∷ xs) ys (suc k) x e = slice_get-left xs ys k x e

-- an entry with a test that no later one passes stands in the first part
pub slice_get-early : {A : Type 0} (P : A → Type 0) (xs ys : List A) (k : ℕ) (x : A) → AllByRecursion P ys → (P x → ⊥) → slice_get (xs ++ ys) k ≡ Some x → slice_get xs k ≡ Some x
slice_get-early P [] ys k x a never e = absurd (never (slice_get-all P ys k x a e))
slice_get-early P (y ∷ xs) ys zero x a never e = e
slice_get-early P (y ∷ xs) ys (suc k) x a never e = slice_get-early P xs ys k x a never e

-- an entry stands within the list
pub slice_get-long : {A : Type 0} (xs : List A) (k : ℕ) (x : A) → slice_get xs k ≡ Some x → k < length xs
slice_get-long [] k x e = cc
slice_get-long (y ∷ ys) zero x e = omega arith
slice_get-long (y ∷ ys) (suc k) x e = let l = slice_get-long ys k x e in omega arith
