-- How calls that read and write follow one another.
use Rattle.std.proofs.Common.{◌≡◌, ℕ, List, [], ◌++◌, take, drop, Option, refl, ap, sym, ◌∙◌, append_assoc, subst, Result, Ok, Err, IsErrAnd, IfErr, IfOk, OnOk}
use Rattle.std.proofs.lemmas.List.{take-append-drop}
use Rattle.ftpp_outside.specs.Told.{Adds}
use Rattle.ftpp_outside.proofs.Told.{gives_none, gives_both, adds_none, adds_both}
use Rattle.element_node.specs.Dialog.{Outcome, Dialog, after_text, continued, and_then, ready, write_then, breaks}
use Rattle.element_node.specs.Dialog.Outcome.{Whole, Waits, Breaks}
use Rattle.element_node.specs.Progress.{Between, StopsAt, Halts}
use Rattle.element_node.specs.declared.Halt.{Halt}
use Rattle.element_node.specs.declared.Halt.TheVariants.{Ended, Broken, Read, Write}

pub said_none : {A : Type 0} (c : Outcome A) → after_text [] c ≡ c
said_none (Whole v t r) = refl
said_none (Waits t) = refl
said_none (Breaks k t r) = refl

pub said_both : {A : Type 0} (u v : List ℕ) (c : Outcome A) → after_text u (after_text v c) ≡ after_text (u ++ v) c
said_both u v (Whole a t r) = ap (λ x. Whole a x r) (sym (append_assoc u v t))
said_both u v (Waits t) = ap (λ x. Waits x) (sym (append_assoc u v t))
said_both u v (Breaks k t r) = ap (λ x. Breaks k x r) (sym (append_assoc u v t))

pub said_onward : {A B : Type 0} (u : List ℕ) (c : Outcome A) (k : A → Dialog B) → continued (after_text u c) k ≡ after_text u (continued c k)
said_onward u (Whole a t r) k = sym (said_both u t (k a r))
said_onward u (Waits t) k = refl
said_onward u (Breaks x t r) k = refl

-- nothing was read or written
pub stays : {A : Type 0} (p : Dialog A) (l w : Option (List ℕ)) → Between p p l l w w
stays p l w = record { read = []; wrote = []; given = gives_none l; added = adds_none w; leads = λ bytes. sym (said_none (p bytes)) }

-- one after the other
pub joined : {A : Type 0} (p q r : Dialog A) (l m n w x y : Option (List ℕ)) → Between p q l m w x → Between q r m n x y → Between p r l n w y
joined p q r l m n w x y a b = record {
  read = a.read ++ b.read;
  wrote = a.wrote ++ b.wrote;
  given = gives_both l m n a.read b.read _ a.given b.given refl;
  added = adds_both w x y a.wrote b.wrote _ a.added b.added refl;
  leads = λ bytes. ap p (append_assoc a.read b.read bytes) ∙ (a.leads (b.read ++ bytes) ∙ (ap (after_text a.wrote) (b.leads bytes) ∙ said_both a.wrote b.wrote (r bytes)));
}

-- within what follows
pub within : {A B : Type 0} (p q : Dialog A) (k : A → Dialog B) (l m w x : Option (List ℕ)) → Between p q l m w x → Between (and_then p k) (and_then q k) l m w x
unfolding and_then
within p q k l m w x a = record {
  read = a.read;
  wrote = a.wrote;
  given = a.given;
  added = a.added;
  leads = λ bytes. ap (λ c. continued c k) (a.leads bytes) ∙ said_onward a.wrote (q bytes) k;
}

-- a value came of it, and what follows goes on with that
pub called : {A B : Type 0} (p : Dialog A) (v : A) (k : A → Dialog B) (l m w x : Option (List ℕ)) → Between p (ready v) l m w x → Between (and_then p k) (k v) l m w x
unfolding and_then
called p v k l m w x a = record {
  read = a.read;
  wrote = a.wrote;
  given = a.given;
  added = a.added;
  leads = λ bytes. ap (λ c. continued c k) (a.leads bytes) ∙ (said_onward a.wrote (ready v bytes) k ∙ ap (after_text a.wrote) (said_none (k v bytes)));
}

-- what comes later halts
pub halts_later : {A : Type 0} (p q : Dialog A) (h : Halt) (l m n w x y : Option (List ℕ)) → Between p q l m w x → Halts q h m n x y → Halts p h l n w y
halts_later p q h l m n w x y a (r, b, s) = (r, joined p q r l m n w x y a b, s)

stuck_within : {A B : Type 0} (q : Dialog A) (k : A → Dialog B) (h : Halt) (m : Option (List ℕ)) → StopsAt q h m → StopsAt (and_then q k) h m
unfolding and_then
stuck_within q k Ended m (e, f) = (ap (λ c. continued c k) e, f)
stuck_within q k (Broken code) m e = λ bytes. ap (λ c. continued c k) (e bytes)
stuck_within q k Read m e = ap (λ c. continued c k) e
stuck_within q k Write m e = tt

-- what comes first halts
pub halts_first : {A B : Type 0} (p : Dialog A) (k : A → Dialog B) (h : Halt) (l m w x : Option (List ℕ)) → Halts p h l m w x → Halts (and_then p k) h l m w x
halts_first p k h l m w x (q, a, s) = (and_then q k, within p q k l m w x a, stuck_within q k h m s)

-- the last byte broke it
pub halts_here : {A : Type 0} (code : ℕ) (l w : Option (List ℕ)) → Halts {A = A} (breaks code) (Broken code) l l w w
halts_here code l w = (breaks code, stays _ l w, λ bytes. refl)

-- the error of a call is handed on
pub passed_on : {T : Type 0} (r : Result T Halt) (h : Halt) (P : Halt → Type 0) → IsErrAnd r (λ x. x ≡ h) → P h → IfErr r P
passed_on (Ok v) h P e p = tt
passed_on (Err x) h P e p = rw e p

-- a call is another, by a name
pub halts_as : {A : Type 0} (p q : Dialog A) (h : Halt) (l m w x : Option (List ℕ)) → p ≡ q → Halts q h l m w x → Halts p h l m w x
halts_as p q h l m w x e a = subst (λ t. Halts t h l m w x) (sym e) a

pub between_as : {A : Type 0} (p q r : Dialog A) (l m w x : Option (List ℕ)) → p ≡ q → Between q r l m w x → Between p r l m w x
between_as p q r l m w x e a = subst (λ t. Between t r l m w x) (sym e) a

-- A call ends as one that follows a value.
pub tail_ok : {A B : Type 0} (t : Dialog B) (p : Dialog A) (v : A) (k : A → Dialog B) (r : Result B Halt) (l m n : Option (List ℕ))
    → t ≡ and_then p k
    → ((w : Option (List ℕ)) → Between p (ready v) l m w w)
    → IfOk r (λ b. (w : Option (List ℕ)) → Between (k v) (ready b) m n w w)
    → IfOk r (λ b. (w : Option (List ℕ)) → Between t (ready b) l n w w)
tail_ok t p v k (Ok b) l m n e first last = λ w. between_as t (and_then p k) (ready b) l n w w e (joined (and_then p k) (k v) (ready b) l m n w w w (called p v k l m w w (first w)) (last w))
tail_ok t p v k (Err h) l m n e first last = tt

pub tail_err : {A B C : Type 0} (t : Dialog B) (p : Dialog A) (v : A) (k : A → Dialog B) (r : Result C Halt) (l m n : Option (List ℕ))
    → t ≡ and_then p k
    → ((w : Option (List ℕ)) → Between p (ready v) l m w w)
    → IfErr r (λ h. (w : Option (List ℕ)) → Halts (k v) h m n w w)
    → IfErr r (λ h. (w : Option (List ℕ)) → Halts t h l n w w)
tail_err t p v k (Ok b) l m n e first last = tt
tail_err t p v k (Err h) l m n e first last = λ w. halts_as t (and_then p k) h l n w w e (halts_later (and_then p k) (k v) h l m n w w w (called p v k l m w w (first w)) (last w))

-- A call ends in the midst of its first part.
pub first_err : {A B C : Type 0} (t : Dialog B) (p : Dialog A) (k : A → Dialog B) (r : Result C Halt) (h : Halt) (l m : Option (List ℕ))
    → t ≡ and_then p k
    → IsErrAnd r (λ x. x ≡ h)
    → ((w : Option (List ℕ)) → Halts p h l m w w)
    → IfErr r (λ x. (w : Option (List ℕ)) → Halts t x l m w w)
first_err t p k r h l m e is first = passed_on r h _ is (λ w. halts_as t (and_then p k) h l m w w e (halts_first p k h l m w w (first w)))

-- The same for a call that fills what it is passed, where the rest of the course has another name.
pub tail_done : {A B C : Type 0} (t : Dialog B) (p : Dialog A) (v : A) (k : A → Dialog B) (q : Dialog B) (b : B) (r : Result C Halt) (l m n : Option (List ℕ))
    → t ≡ and_then p k → k v ≡ q
    → ((w : Option (List ℕ)) → Between p (ready v) l m w w)
    → OnOk r ((w : Option (List ℕ)) → Between q (ready b) m n w w)
    → OnOk r ((w : Option (List ℕ)) → Between t (ready b) l n w w)
tail_done t p v k q b (Ok d) l m n e f first last = λ w. between_as t (and_then p k) (ready b) l n w w e (joined (and_then p k) (k v) (ready b) l m n w w w (called p v k l m w w (first w)) (between_as (k v) q (ready b) m n w w f (last w)))
tail_done t p v k q b (Err h) l m n e f first last = tt

pub tail_halts : {A B : Type 0} (t : Dialog B) (p : Dialog A) (v : A) (k : A → Dialog B) (q : Dialog B) (h : Halt) (l m n : Option (List ℕ))
    → t ≡ and_then p k → k v ≡ q
    → ((w : Option (List ℕ)) → Between p (ready v) l m w w)
    → ((w : Option (List ℕ)) → Halts q h m n w w)
    → (w : Option (List ℕ)) → Halts t h l n w w
tail_halts t p v k q h l m n e f first last w = halts_as t (and_then p k) h l n w w e (halts_later (and_then p k) (k v) h l m n w w w (called p v k l m w w (first w)) (halts_as (k v) q h m n w w f (last w)))

pub tail_halts_if : {A B C : Type 0} (t : Dialog B) (p : Dialog A) (v : A) (k : A → Dialog B) (q : Dialog B) (r : Result C Halt) (l m n : Option (List ℕ))
    → t ≡ and_then p k → k v ≡ q
    → ((w : Option (List ℕ)) → Between p (ready v) l m w w)
    → IfErr r (λ h. (w : Option (List ℕ)) → Halts q h m n w w)
    → IfErr r (λ h. (w : Option (List ℕ)) → Halts t h l n w w)
tail_halts_if t p v k q (Ok d) l m n e f first last = tt
tail_halts_if t p v k q (Err h) l m n e f first last = tail_halts t p v k q h l m n e f first last

-- A loop goes on behind what it did, and halts there.
pub goes_on : {A B : Type 0} (s t : Dialog B) (p : Dialog A) (v : A) (k : A → Dialog B) (l m n : Option (List ℕ))
    → t ≡ and_then p k
    → ((w : Option (List ℕ)) → Between s t l m w w)
    → ((w : Option (List ℕ)) → Between p (ready v) m n w w)
    → (w : Option (List ℕ)) → Between s (k v) l n w w
goes_on s t p v k l m n e before now w = joined s t (k v) l m n w w w (before w) (between_as t (and_then p k) (k v) m n w w e (called p v k m n w w (now w)))

pub stops_there : {A B C : Type 0} (s t : Dialog B) (p : Dialog A) (k : A → Dialog B) (r : Result C Halt) (h : Halt) (l m n : Option (List ℕ))
    → t ≡ and_then p k
    → IsErrAnd r (λ x. x ≡ h)
    → ((w : Option (List ℕ)) → Between s t l m w w)
    → ((w : Option (List ℕ)) → Halts p h m n w w)
    → IfErr r (λ x. (w : Option (List ℕ)) → Halts s x l n w w)
stops_there s t p k r h l m n e is before now = passed_on r h _ is (λ w. halts_later s t h l m n w w w (before w) (halts_as t (and_then p k) h m n w w e (halts_first p k h m n w w (now w))))

-- the rest of the course by another name
pub ends_as : {A : Type 0} (s t u : Dialog A) (l m w x : Option (List ℕ)) → t ≡ u → Between s t l m w x → Between s u l m w x
ends_as s t u l m w x e a = subst (λ r. Between s r l m w x) e a

-- ---- texts that are written

-- a text is written
pub wrote_then : {A : Type 0} (text : List ℕ) (q : Dialog A) (l w x : Option (List ℕ)) → Adds w text x → Between (write_then text q) q l l w x
wrote_then text q l w x a = record { read = []; wrote = text; given = gives_none l; added = a; leads = λ bytes. refl }

-- a text is written in part
pub wrote_partly : {A : Type 0} (text : List ℕ) (q : Dialog A) (n : ℕ) (l w x : Option (List ℕ)) → Adds w (take n text) x → Halts (write_then text q) Write l l w x
wrote_partly text q n l w x a = (
  write_then (drop n text) q,
  record {
    read = [];
    wrote = take n text;
    given = gives_none l;
    added = a;
    leads = λ bytes. ap (λ t. after_text t (q bytes)) (sym (take-append-drop n text)) ∙ sym (said_both (take n text) (drop n text) (q bytes));
  },
  tt,
)

-- two dialogs that come to the same
pub between_like : {A : Type 0} (p q r : Dialog A) (l m w x : Option (List ℕ)) → ((bytes : List ℕ) → p bytes ≡ q bytes) → Between q r l m w x → Between p r l m w x
between_like p q r l m w x e a = record { read = a.read; wrote = a.wrote; given = a.given; added = a.added; leads = λ bytes. e (a.read ++ bytes) ∙ a.leads bytes }

pub halts_like : {A : Type 0} (p q : Dialog A) (h : Halt) (l m w x : Option (List ℕ)) → ((bytes : List ℕ) → p bytes ≡ q bytes) → Halts q h l m w x → Halts p h l m w x
halts_like p q h l m w x e (r, a, s) = (r, between_like p q r l m w x e a, s)

-- a text before what comes first is a text before all
pub text_first : {A B : Type 0} (text : List ℕ) (p : Dialog A) (k : A → Dialog B) (bytes : List ℕ) → write_then text (and_then p k) bytes ≡ and_then (write_then text p) k bytes
unfolding and_then
text_first text p k bytes = sym (said_onward text (p bytes) k)

-- two texts are one
pub texts_joined : {A : Type 0} (t u : List ℕ) (q : Dialog A) (bytes : List ℕ) → write_then t (write_then u q) bytes ≡ write_then (t ++ u) q bytes
texts_joined t u q bytes = said_both t u (q bytes)
