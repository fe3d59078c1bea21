-- A round and the four rounds of a cycle, as their parts follow one another.
use Rattle.std.proofs.Common.{◌≡◌, ◌≢◌, ◌⊎◌, inl, inr, arith, ℕ, ◌<◌, ◌==◌, false, List, [], ◌++◌, take, Option, subst, Result, Ok, Err, IfErr, OnOk, refl, ap, sym, ◌∙◌}
use Rattle.std.specs.Prelude.{if◌then◌else◌}
use Rattle.std.proofs.lemmas.Bool.{ne_eqb}
use Rattle.packet_format.specs.declared.acts.Act.{Act}
use Rattle.ftpp_outside.specs.Told.{Adds}
use Rattle.ftpp_base.specs.declared.element.Round.{Round}
use Rattle.ftpp_base.specs.declared.element.Round.TheVariants.{A1, A2, B1, B2}
use Rattle.element_core.specs.ElementValue.{ElementValue, after_emit, after_absorb, frame_of, frames_in}
use Rattle.element_node.specs.Dialog.{Dialog, after_text, and_then, ready, write_then}
use Rattle.element_node.specs.Input.{read_acts, read_frames}
use Rattle.element_node.specs.Node.{after_own_acts, answers_acts, answers_text, cycle_dialog, framed, heard, round_dialog, rounds_from_b1, rounds_from_a2, rounds_dialog}
use Rattle.element_node.specs.Progress.{Between, Halts}
use Rattle.element_node.specs.declared.Halt.{Halt}
use Rattle.element_node.specs.declared.Halt.TheVariants.{Write}
use Rattle.element_node.proofs.Dialogs.{said_none, joined, called, halts_first, halts_later, between_as, halts_as, between_like, halts_like, wrote_then, wrote_partly, text_first, texts_joined}

-- what the others' frames make of it
abbrev pub hears : Round → ElementValue → Dialog ElementValue
hears round e = and_then (read_frames e.kept.table.n e.kept.me) (heard round (after_emit round e))

-- a round behind a text is one text, and the frames that are read
pub as_one_text : (round : Round) (e : ElementValue) (text all bytes : List ℕ) → all ≡ text ++ framed (frame_of e round)
    → write_then text (round_dialog round e) bytes ≡ write_then all (hears round e) bytes
unfolding round_dialog
as_one_text round e text all bytes same = texts_joined text (framed (frame_of e round)) (hears round e) bytes ∙ ap (λ t. after_text t (hears round e bytes)) (sym same)

-- its frame was not written whole
pub round_unwritten : (round : Round) (e : ElementValue) (text all : List ℕ) (n : ℕ) (l w x : Option (List ℕ)) → all ≡ text ++ framed (frame_of e round)
    → Adds w (take n all) x → Halts (write_then text (round_dialog round e)) Write l l w x
round_unwritten round e text all n l w x same added =
    halts_like (write_then text (round_dialog round e)) (write_then all (hears round e)) Write l l w x (λ bytes. as_one_text round e text all bytes same) (wrote_partly all (hears round e) n l w x added)

pub round_unwritten_as : (round : Round) (e : ElementValue) (text all : List ℕ) (n : ℕ) (halt : Halt) (l w x : Option (List ℕ)) → halt ≡ Write → all ≡ text ++ framed (frame_of e round)
    → Adds w (take n all) x → Halts (write_then text (round_dialog round e)) halt l l w x
round_unwritten_as round e text all n halt l w x is same added = subst (λ h. Halts (write_then text (round_dialog round e)) h l l w x) (sym is) (round_unwritten round e text all n l w x same added)

-- the frames of the others were not read whole
pub round_unread : (round : Round) (e : ElementValue) (text all : List ℕ) (halt : Halt) (l m w x : Option (List ℕ)) → all ≡ text ++ framed (frame_of e round)
    → Adds w all x → Halts (read_frames e.kept.table.n e.kept.me) halt l m x x → Halts (write_then text (round_dialog round e)) halt l m w x
round_unread round e text all halt l m w x same added unread =
    halts_like (write_then text (round_dialog round e)) (write_then all (hears round e)) halt l m w x (λ bytes. as_one_text round e text all bytes same)
    (halts_later (write_then all (hears round e)) (hears round e) halt l l m w x x (wrote_then all (hears round e) l w x added)
    (halts_first (read_frames e.kept.table.n e.kept.me) (heard round (after_emit round e)) halt l m x x unread))

-- a whole round
pub round_served : (round : Round) (e after : ElementValue) (text all : List ℕ) (rows : List (List ℕ)) (l m w x : Option (List ℕ)) → all ≡ text ++ framed (frame_of e round)
    → Adds w all x → Between (read_frames e.kept.table.n e.kept.me) (ready rows) l m x x → after ≡ after_absorb round (frames_in rows) (after_emit round e)
    → Between (write_then text (round_dialog round e)) (ready after) l m w x
round_served round e after text all rows l m w x same added read_all end = rw end (
    between_like (write_then text (round_dialog round e)) (write_then all (hears round e)) (heard round (after_emit round e) rows) l m w x (λ bytes. as_one_text round e text all bytes same)
    (joined (write_then all (hears round e)) (hears round e) (heard round (after_emit round e) rows) l l m w x x (wrote_then all (hears round e) l w x added)
    (called (read_frames e.kept.table.n e.kept.me) rows (heard round (after_emit round e)) l m x x read_all)))

-- ---- one part after another, behind a text

-- the first part was whole
pub part_served : {A B : Type 0} (text : List ℕ) (p : Dialog A) (v : A) (k : A → Dialog B) (l m w x : Option (List ℕ))
    → Between (write_then text p) (ready v) l m w x → Between (write_then text (and_then p k)) (k v) l m w x
part_served text p v k l m w x a = between_like (write_then text (and_then p k)) (and_then (write_then text p) k) (k v) l m w x (text_first text p k) (called (write_then text p) v k l m w x a)

-- the first part halted
pub part_halts : {A B : Type 0} (text : List ℕ) (p : Dialog A) (k : A → Dialog B) (halt : Halt) (l m w x : Option (List ℕ))
    → Halts (write_then text p) halt l m w x → Halts (write_then text (and_then p k)) halt l m w x
part_halts text p k halt l m w x a = halts_like (write_then text (and_then p k)) (and_then (write_then text p) k) halt l m w x (text_first text p k) (halts_first (write_then text p) k halt l m w x a)

-- with no text before it
pub no_text : {A : Type 0} (text : List ℕ) (p q : Dialog A) (l m w x : Option (List ℕ)) → text ≡ [] → Between (write_then text p) q l m w x → Between p q l m w x
no_text text p q l m w x none a = between_like p (write_then text p) q l m w x (λ bytes. rw none (sym (said_none (p bytes)))) a

pub no_text_halts : {A : Type 0} (text : List ℕ) (p : Dialog A) (halt : Halt) (l m w x : Option (List ℕ)) → text ≡ [] → Halts (write_then text p) halt l m w x → Halts p halt l m w x
no_text_halts text p halt l m w x none a = halts_like p (write_then text p) halt l m w x (λ bytes. rw none (sym (said_none (p bytes)))) a

-- a part more, which began with no text before it
pub next_part : {A B : Type 0} (s : Dialog B) (p : Dialog A) (v : A) (k : A → Dialog B) (text : List ℕ) (l m n w x y : Option (List ℕ)) → text ≡ []
    → Between s (and_then p k) l m w x → Between (write_then text p) (ready v) m n x y → Between s (k v) l n w y
next_part s p v k text l m n w x y none a b = joined s (and_then p k) (k v) l m n w x y a (no_text text (and_then p k) (k v) m n x y none (part_served text p v k m n x y b))

pub next_halts : {A B : Type 0} (s : Dialog B) (p : Dialog A) (k : A → Dialog B) (halt : Halt) (text : List ℕ) (l m n w x y : Option (List ℕ)) → text ≡ []
    → Between s (and_then p k) l m w x → Halts (write_then text p) halt m n x y → Halts s halt l n w y
next_halts s p k halt text l m n w x y none a b = halts_later s (and_then p k) halt l m n w x y a (no_text_halts text (and_then p k) halt m n x y none (part_halts text p k halt m n x y b))

-- the last part
pub last_part : {A : Type 0} (s p : Dialog A) (v : A) (text : List ℕ) (l m n w x y : Option (List ℕ)) → text ≡ []
    → Between s p l m w x → Between (write_then text p) (ready v) m n x y → Between s (ready v) l n w y
last_part s p v text l m n w x y none a b = joined s p (ready v) l m n w x y a (no_text text p (ready v) m n x y none b)

pub last_halts : {A : Type 0} (s p : Dialog A) (halt : Halt) (text : List ℕ) (l m n w x y : Option (List ℕ)) → text ≡ []
    → Between s p l m w x → Halts (write_then text p) halt m n x y → Halts s halt l n w y
last_halts s p halt text l m n w x y none a b = halts_later s p halt l m n w x y a (no_text_halts text p halt m n x y none b)

-- the same, of a call that ends as its last part does
pub last_part_if : {A C : Type 0} (s p : Dialog A) (v : A) (text : List ℕ) (r : Result C Halt) (l m n w x y : Option (List ℕ)) → text ≡ []
    → Between s p l m w x → OnOk r (Between (write_then text p) (ready v) m n x y) → OnOk r (Between s (ready v) l n w y)
last_part_if s p v text (Ok c) l m n w x y none a b = last_part s p v text l m n w x y none a b
last_part_if s p v text (Err h) l m n w x y none a b = tt

pub last_halts_if : {A C : Type 0} (s p : Dialog A) (text : List ℕ) (r : Result C Halt) (l m n w x y : Option (List ℕ)) → text ≡ []
    → Between s p l m w x → IfErr r (λ halt. Halts (write_then text p) halt m n x y) → IfErr r (λ halt. Halts s halt l n w y)
last_halts_if s p text (Ok c) l m n w x y none a b = tt
last_halts_if s p text (Err h) l m n w x y none a b = last_halts s p h text l m n w x y none a b

-- ---- acts, and the rounds behind their answers

as_answered : (e b : ElementValue) (acts : List Act) (text : List ℕ) → text ≡ answers_text e acts → b ≡ after_own_acts e acts → answers_acts e acts ≡ write_then text (rounds_dialog b)
as_answered e b acts text t f = sym (ap (λ u. write_then u (rounds_dialog b)) t ∙ ap (λ z. write_then (answers_text e acts) (rounds_dialog z)) f)

pub cycle_served : (e b after : ElementValue) (acts : List Act) (text : List ℕ) (l m n w x : Option (List ℕ)) → text ≡ answers_text e acts → b ≡ after_own_acts e acts
    → Between (read_acts e.kept.me) (ready acts) l m w w → Between (write_then text (rounds_dialog b)) (ready after) m n w x → Between (cycle_dialog e) (ready after) l n w x
unfolding cycle_dialog
cycle_served e b after acts text l m n w x t f read served =
    joined (cycle_dialog e) (answers_acts e acts) (ready after) l m n w w x (called (read_acts e.kept.me) acts (answers_acts e) l m w w read)
    (between_as (answers_acts e acts) (write_then text (rounds_dialog b)) (ready after) m n w x (as_answered e b acts text t f) served)

pub cycle_halts : (e b : ElementValue) (acts : List Act) (text : List ℕ) (halt : Halt) (l m n w x : Option (List ℕ)) → text ≡ answers_text e acts → b ≡ after_own_acts e acts
    → Between (read_acts e.kept.me) (ready acts) l m w w → Halts (write_then text (rounds_dialog b)) halt m n w x → Halts (cycle_dialog e) halt l n w x
unfolding cycle_dialog
cycle_halts e b acts text halt l m n w x t f read halts =
    halts_later (cycle_dialog e) (answers_acts e acts) halt l m n w w x (called (read_acts e.kept.me) acts (answers_acts e) l m w w read)
    (halts_as (answers_acts e acts) (write_then text (rounds_dialog b)) halt m n w x (as_answered e b acts text t f) halts)

-- the acts were not read whole
pub acts_halt : (e : ElementValue) (halt : Halt) (l m w : Option (List ℕ)) → Halts (read_acts e.kept.me) halt l m w w → Halts (cycle_dialog e) halt l m w w
unfolding cycle_dialog
acts_halt e halt l m w a = halts_first (read_acts e.kept.me) (answers_acts e) halt l m w w a

-- the same, of a call that ends as its rounds do
pub cycle_served_if : {C : Type 0} (e b after : ElementValue) (acts : List Act) (text : List ℕ) (r : Result C Halt) (l m n w x : Option (List ℕ)) → text ≡ answers_text e acts → b ≡ after_own_acts e acts
    → Between (read_acts e.kept.me) (ready acts) l m w w → OnOk r (Between (write_then text (rounds_dialog b)) (ready after) m n w x) → OnOk r (Between (cycle_dialog e) (ready after) l n w x)
cycle_served_if e b after acts text (Ok v) l m n w x t f read served = cycle_served e b after acts text l m n w x t f read served
cycle_served_if e b after acts text (Err h) l m n w x t f read served = tt

pub cycle_halts_if : {C : Type 0} (e b : ElementValue) (acts : List Act) (text : List ℕ) (r : Result C Halt) (l m n w x : Option (List ℕ)) → text ≡ answers_text e acts → b ≡ after_own_acts e acts
    → Between (read_acts e.kept.me) (ready acts) l m w w → IfErr r (λ halt. Halts (write_then text (rounds_dialog b)) halt m n w x) → IfErr r (λ halt. Halts (cycle_dialog e) halt l n w x)
cycle_halts_if e b acts text (Ok v) l m n w x t f read halts = tt
cycle_halts_if e b acts text (Err h) l m n w x t f read halts = cycle_halts e b acts text h l m n w x t f read halts

-- ---- its own frame

-- what was put for another element is the frame
pub frame_put : (me to : ℕ) (got old frame : List ℕ) → to ≢ me → got ≡ (if to == me then old else frame) → got ≡ frame
frame_put me to got old frame other e =
    let f : (to == me) ≡ false = ne_eqb to me other in
    e ∙ rw f refl

-- so what is written is the text that waited and the frame
pub all_text : (round : Round) (e b : ElementValue) (me to : ℕ) (text all got there old : List ℕ) → b ≡ after_emit round e → me ≡ b.kept.me → to ≢ me
    → all ≡ text ++ framed got → got ≡ there → there ≡ (if to == e.kept.me then old else frame_of e round) → all ≡ text ++ framed (frame_of e round)
all_text round e b me to text all got there old f m other put same row =
    let mine : me ≡ e.kept.me = m ∙ ap (λ z. z.kept.me) f in
    put ∙ ap (λ t. text ++ framed t) (frame_put e.kept.me to got old (frame_of e round) (λ q. other (q ∙ sym mine)) (same ∙ row))

pub same_readers : (n m me you : ℕ) → n ≡ m → me ≡ you → read_frames n me ≡ read_frames m you
same_readers n m me you e f = rw (e, f) refl

-- one of the first two is there
pub is_there : (n k : ℕ) → (n ≡ 4) ⊎ (n ≡ 5) → k < 2 → k < n
is_there n k (inl e) below = omega (arith, e, below)
is_there n k (inr e) below = omega (arith, e, below)
