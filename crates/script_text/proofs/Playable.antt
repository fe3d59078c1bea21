-- What is read can be played.
use Rattle.std.proofs.Common.{◌≡◌, ◌≢◌, ℕ, zero, suc, ◌+◌, ◌<◌, ◌≤◌, Bool, true, false, cond, eqb, leb, List, [], ◌∷◌, ◌++◌, refl, ap, sym, subst, ◌∙◌, arith, Option, Some, None, Result, Ok, Err, IsTrue}
use Rattle.std.specs.Prelude.{count_by, nat_le}
use Rattle.std.specs.List.{AllByRecursion}
use Rattle.std.proofs.lemmas.List.{append-nil}
use Rattle.std.proofs.lemmas.Bool.{eqb-true, eqb-false, leb-true, le-leb}
use Rattle.ftpp_base.proofs.Among.{weaker, all-append}
use Rattle.ftpp_base.proofs.Counts.{count_by-cons}
use Rattle.packet_format.specs.declared.acts.Act.{Act}
use Rattle.fault_script.specs.declared.Edit.{Edit}
use Rattle.script_text.specs.declared.items.Item.{Item}
use Rattle.script_text.specs.declared.items.Item.TheVariants.{Cycles, Faulty, Asked, Edited, Rejoined}
use Rattle.script_words.specs.declared.refusals.Refused.{Refused}
use Rattle.script_words.specs.Lines.{is_newline, words_of, lines_of}
use Rattle.script_words.specs.Fields.{◌>>=◌}
use Rattle.script_text.specs.Items.{before, cycles_in, named_in, last_in, asked_in, acts_in, edits_in, rejoins_in, faulty_in}
use Rattle.script_text.specs.Judged.{line_read, may_follow, is_this, asked_at, InOrder}
use Rattle.script_text.specs.Reading.{Refusal, at_line, onto, items_from, Plan, plan_with_items, plan_from, script_of, IsLater}
use Rattle.script_text.specs.Printing.{ActFits, KindFits, IsOther, InRun, Within, is_act_at}
use Rattle.script_text.specs.Playable.{faulty_at, IsThere, AreOthers, Ascend, ActIsThere, EditIsThere, IsPlayable}
use Rattle.script_text.proofs.Steps.{asked_here, later-still}
use Rattle.script_text.proofs.Taken.{IsTaken, bound, line_taken}

-- ---- a list of entries by cycle that grows at its end

-- each cycle is at most the later ones
abbrev pub Rising : {X : Type 0} → (X → ℕ) → List X → Type 0
Rising key [] = Unit {0}
Rising key (x ∷ xs) = AllByRecursion (λ y. key x ≤ key y) xs × Rising key xs

rising_more : {X : Type 0} (key : X → ℕ) (x : X) (xs : List X) → Rising key xs → AllByRecursion (λ y. key y ≤ key x) xs → Rising key (xs ++ x ∷ [])
rising_more key x [] r a = (tt, tt)
rising_more key x (y ∷ ys) r a = (all-append (λ z. key y ≤ key z) ys (x ∷ []) r.0 (a.0, tt), rising_more key x ys r.1 a.1)

-- what is known of such a list, where these are the last line's cycle and the length of the run
record Listed {X : Type 0} (key : X → ℕ) (last cycles : Option ℕ) (xs : List X) : Type 0 where
  later : (c : ℕ) → IsLater last c → AllByRecursion (λ x. key x < c) xs
  below : (t : ℕ) → cycles ≡ Some t → AllByRecursion (λ x. key x < t) xs
  order : Rising key xs

-- the next cycle is later
next_later : (o : Option ℕ) (c : ℕ) → IsTrue (may_follow o c) → IsLater o (c + 1)
next_later None c h = tt
next_later (Some last) c h = let l = leb-true last c h in omega arith

up_to : {X : Type 0} (key : X → ℕ) (c : ℕ) (xs : List X) → AllByRecursion (λ x. key x < c + 1) xs → AllByRecursion (λ x. key x ≤ c) xs
up_to key c xs a = weaker (λ x. key x < c + 1) (λ x. key x ≤ c) (λ x l. omega arith) xs a

under : {X : Type 0} (key : X → ℕ) (c d : ℕ) (xs : List X) → c < d → AllByRecursion (λ x. key x ≤ c) xs → AllByRecursion (λ x. key x < d) xs
under key c d xs l a = weaker (λ x. key x ≤ c) (λ x. key x < d) (λ x k. omega arith) xs a

run_below : (o : Option ℕ) (c t : ℕ) → InRun o c → o ≡ Some t → c < t
run_below None c t r e = absurd r
run_below (Some total) c t r e = let same : total ≡ t = cc in omega arith

-- with an entry more
listed_more : {X : Type 0} (key : X → ℕ) (last cycles : Option ℕ) (x : X) (xs : List X) → Listed key last cycles xs → IsTrue (may_follow last (key x)) → InRun cycles (key x) → Listed key (Some (key x)) cycles (xs ++ x ∷ [])
listed_more key last cycles x xs h f r =
    let a = up_to key (key x) xs (h.later (key x + 1) (next_later last (key x) f)) in
    record {
      later = λ c l. all-append (λ y. key y < c) xs (x ∷ []) (under key (key x) c xs l a) (l, tt);
      below = λ t e. all-append (λ y. key y < t) xs (x ∷ []) (h.below t e) (run_below cycles (key x) t r e, tt);
      order = rising_more key x xs h.order a;
    }

-- with a line of another kind
listed_same : {X : Type 0} (key : X → ℕ) (last cycles : Option ℕ) (c : ℕ) (xs : List X) → Listed key last cycles xs → IsTrue (may_follow last c) → Listed key (Some c) cycles xs
listed_same key last cycles c xs h f =
    let a = up_to key c xs (h.later (c + 1) (next_later last c f)) in
    record { later = λ d l. under key c d xs l a; below = h.below; order = h.order }

-- without a line with a cycle there is no entry
none_listed : {X : Type 0} (key : X → ℕ) (last cycles : Option ℕ) (xs : List X) → last ≡ None → Listed key last cycles xs → xs ≡ []
none_listed key None cycles [] e h = refl
none_listed key None cycles (x ∷ xs) e h = let l = (h.later 0 tt).0 in let no : ⊥ = omega arith in absurd no
none_listed key (Some c) cycles xs e h = absurd cc

-- once the length is said
listed_cycles : {X : Type 0} (key : X → ℕ) (last cycles : Option ℕ) (c : ℕ) (xs : List X) → last ≡ None → Listed key last cycles xs → Listed key last (Some c) xs
listed_cycles key None cycles c xs e h = record { later = h.later; below = λ t k. h.later t tt; order = h.order }
listed_cycles key (Some l) cycles c xs e h = absurd cc

within_from : {X : Type 0} (key : X → ℕ) (from total : ℕ) (xs : List X) → AllByRecursion (λ x. from ≤ key x) xs → AllByRecursion (λ x. key x < total) xs → Rising key xs → Within key from total xs
within_from key from total [] a b r = tt
within_from key from total (x ∷ xs) a b r = (a.0, b.0, within_from key (key x) total xs r.0 b.1 r.1)

from_zero : {X : Type 0} (key : X → ℕ) (xs : List X) → AllByRecursion (λ x. 0 ≤ key x) xs
from_zero key [] = tt
from_zero key (x ∷ xs) = (omega arith, from_zero key xs)

listed_within : {X : Type 0} (key : X → ℕ) (last : Option ℕ) (t : ℕ) (xs : List X) → Listed key last (Some t) xs → Within key 0 t xs
listed_within key last t xs h = within_from key 0 t xs (from_zero key xs) (h.below t refl) h.order

-- ---- the element that is faulty

-- after all rejoins
abbrev pub faulty_after : Option ℕ → List (ℕ × Option ℕ) → Option ℕ
faulty_after first [] = first
faulty_after first (r ∷ rs) = faulty_after r.1 rs

after_more : (first : Option ℕ) (rs : List (ℕ × Option ℕ)) (c : ℕ) (next : Option ℕ) → faulty_after first (rs ++ (c, next) ∷ []) ≡ next
after_more first [] c next = refl
after_more first (r ∷ rs) c next = after_more r.1 rs c next

others_more : (n : ℕ) (first : Option ℕ) (rs : List (ℕ × Option ℕ)) (c : ℕ) (next : Option ℕ) → AreOthers n first rs → IsOther n (faulty_after first rs) next → AreOthers n first (rs ++ (c, next) ∷ [])
others_more n first [] c next a h = (h, tt)
others_more n first (r ∷ rs) c next a h = (a.0, others_more n r.1 rs c next a.1 h)

ascend_more : (rs : List (ℕ × Option ℕ)) (c : ℕ) (next : Option ℕ) → Ascend rs → AllByRecursion (λ r. r.0 < c) rs → Ascend (rs ++ (c, next) ∷ [])
ascend_more [] c next a h = (tt, tt)
ascend_more (r ∷ rs) c next a h = (all-append (λ s. r.0 < s.0) rs ((c, next) ∷ []) a.0 (h.0, tt), ascend_more rs c next a.1 h.1)

-- after the cycles of all rejoins
pub at_after : (first : Option ℕ) (rs : List (ℕ × Option ℕ)) (c : ℕ) → AllByRecursion (λ r. r.0 ≤ c) rs → faulty_at first rs c ≡ faulty_after first rs
at_after first [] c a = refl
at_after first (r ∷ rs) c a = rw (le-leb r.0 c a.0) (at_after r.1 rs c a.1)

not_yet : (c d : ℕ) → c < d → leb d c ≡ false
not_yet c d l = by (leb d c) refl where
  by : (b : Bool) → leb d c ≡ b → b ≡ false
  by true e = let k = leb-true d c e in let no : ⊥ = omega arith in absurd no
  by false e = refl

-- a later rejoin makes no difference
at_more : (first : Option ℕ) (rs : List (ℕ × Option ℕ)) (c : ℕ) (next : Option ℕ) (d : ℕ) → d < c → faulty_at first (rs ++ (c, next) ∷ []) d ≡ faulty_at first rs d
at_more first [] c next d l = rw (not_yet d c l) refl
at_more first (r ∷ rs) c next d l = ap (λ (o : Option ℕ). cond (leb r.0 d) o first) (at_more r.1 rs c next d l)

edits_stay : (n : ℕ) (first : Option ℕ) (rs : List (ℕ × Option ℕ)) (c : ℕ) (next : Option ℕ) (es : List Edit) → AllByRecursion (λ e. e.cycle < c) es → AllByRecursion (EditIsThere n first rs) es → AllByRecursion (EditIsThere n first (rs ++ (c, next) ∷ [])) es
edits_stay n first rs c next [] l a = tt
edits_stay n first rs c next (e ∷ es) l a = (
  (subst (λ (o : Option ℕ). IsOther n o e.to) (sym (at_more first rs c next e.cycle l.0)) a.0.0, a.0.1),
  edits_stay n first rs c next es l.1 a.1,
)

-- ---- counts

count_more : (c : ℕ) (xs : List (ℕ × Act)) (x : ℕ × Act) → count_by (is_act_at c) (xs ++ x ∷ []) ≡ cond (eqb x.0 c) 1 0 + count_by (is_act_at c) xs
count_more c [] x = count_by-cons (is_act_at c) x []
count_more c (y ∷ ys) x =
    let one = count_by-cons (is_act_at c) y (ys ++ x ∷ []) in
    let two = count_by-cons (is_act_at c) y ys in
    let rec = count_more c ys x in
    omega arith

pub count_acts : (c : ℕ) (items : List Item) → count_by (is_act_at c) (acts_in items) ≡ asked_in c items
count_acts c [] = refl
count_acts c (Cycles d ∷ items) = ap (count_by (is_act_at c)) (append-nil (acts_in items)) ∙ count_acts c items
count_acts c (Faulty e ∷ items) = ap (count_by (is_act_at c)) (append-nil (acts_in items)) ∙ count_acts c items
count_acts c (Asked d a ∷ items) = count_more c (acts_in items) (d, a) ∙ ap (λ (k : ℕ). cond (eqb d c) 1 0 + k) (count_acts c items)
count_acts c (Edited e ∷ items) = ap (count_by (is_act_at c)) (append-nil (acts_in items)) ∙ count_acts c items
count_acts c (Rejoined d next ∷ items) = ap (count_by (is_act_at c)) (append-nil (acts_in items)) ∙ count_acts c items

few_more : (c d m : ℕ) → m ≤ 80 → (d ≡ c → m < 80) → cond (eqb d c) 1 0 + m ≤ 80
few_more c d m l h = by (eqb d c) refl where
  by : (b : Bool) → eqb d c ≡ b → cond b 1 0 + m ≤ 80
  by true e = let k = h (eqb-true d c e) in omega arith
  by false e = omega arith

-- ---- items that were taken one after another

-- the length of the run, which comes before any line with a cycle
abbrev IsLength : Option ℕ → Option ℕ → Type 0
IsLength None last = last ≡ None
IsLength (Some t) last = (1 ≤ t) × (t ≤ 100000)

-- what is known of the lists that the items make
record FitsLists (n : ℕ) (cycles named last faulty : Option ℕ) (rejoins : List (ℕ × Option ℕ)) (acts : List (ℕ × Act)) (edits : List Edit) : Type 0 where
  length : IsLength cycles last
  first : IsThere n named
  now : faulty ≡ faulty_after named rejoins
  rejoins_listed : Listed (λ x. x.0) last cycles rejoins
  acts_listed : Listed (λ x. x.0) last cycles acts
  edits_listed : Listed (λ e. e.cycle) last cycles edits
  apart : Ascend rejoins
  others : AreOthers n named rejoins
  acts_there : AllByRecursion (ActIsThere n) acts
  edits_there : AllByRecursion (EditIsThere n named rejoins) edits

-- the same of the lists of some items
abbrev FitLists : ℕ → List Item → Type 0
FitLists n items = FitsLists n (cycles_in items) (named_in items) (last_in items) (faulty_in items) (rejoins_in items) (acts_in items) (edits_in items)

-- what is known of items that were taken
record Fits (n : ℕ) (items : List Item) : Type 0 where
  lists : FitLists n items
  few : (c : ℕ) → asked_in c items ≤ 80
  asked : (c : ℕ) → IsLater (last_in items) c → asked_in c items ≡ 0

none_yet : {X : Type 0} (key : X → ℕ) (last cycles : Option ℕ) → Listed key last cycles []
none_yet key last cycles = record { later = λ c l. tt; below = λ t e. tt; order = tt }

length_still : (o last : Option ℕ) (c : ℕ) → InRun o c → IsLength o last → IsLength o (Some c)
length_still None last c r l = absurd r
length_still (Some t) last c r l = l

is_later : (o : Option ℕ) (c : ℕ) → IsTrue (may_follow o c) → is_this o c ≡ false → IsLater o c
is_later None c h e = tt
is_later (Some last) c h e =
    let l = leb-true last c h in
    let apart = eqb-false last c e in
    omega arith

-- ---- one item more

fits_cycles : (n : ℕ) (items : List Item) (c : ℕ) → Fits n items → IsTaken (before n items) (Cycles c) → Fits n (Cycles c ∷ items)
unfolding before
fits_cycles n items c f h =
    let g = f.lists in
    let last : last_in items ≡ None = subst (λ (o : Option ℕ). IsLength o (last_in items)) h.0 g.length in
    record {
      lists = rw (append-nil (rejoins_in items), append-nil (acts_in items), append-nil (edits_in items)) (record {
        length = (h.1, h.2);
        first = g.first;
        now = g.now;
        rejoins_listed = listed_cycles (λ x. x.0) (last_in items) (cycles_in items) c (rejoins_in items) last g.rejoins_listed;
        acts_listed = listed_cycles (λ x. x.0) (last_in items) (cycles_in items) c (acts_in items) last g.acts_listed;
        edits_listed = listed_cycles (λ e. e.cycle) (last_in items) (cycles_in items) c (edits_in items) last g.edits_listed;
        apart = g.apart;
        others = g.others;
        acts_there = g.acts_there;
        edits_there = g.edits_there;
      });
      few = f.few;
      asked = f.asked;
    }

fits_faulty : (n : ℕ) (items : List Item) (e : ℕ) → Fits n items → IsTaken (before n items) (Faulty e) → Fits n (Faulty e ∷ items)
unfolding before
fits_faulty n items e f h =
    let g = f.lists in
    let rs : rejoins_in items ≡ [] = none_listed (λ x. x.0) (last_in items) (cycles_in items) (rejoins_in items) h.1 g.rejoins_listed in
    let xs : acts_in items ≡ [] = none_listed (λ x. x.0) (last_in items) (cycles_in items) (acts_in items) h.1 g.acts_listed in
    let es : edits_in items ≡ [] = none_listed (λ x. x.cycle) (last_in items) (cycles_in items) (edits_in items) h.1 g.edits_listed in
    record {
      lists = rw (rs, xs, es) (record {
        length = g.length;
        first = h.2;
        now = refl;
        rejoins_listed = none_yet (λ x. x.0) (last_in items) (cycles_in items);
        acts_listed = none_yet (λ x. x.0) (last_in items) (cycles_in items);
        edits_listed = none_yet (λ x. x.cycle) (last_in items) (cycles_in items);
        apart = tt;
        others = tt;
        acts_there = tt;
        edits_there = tt;
      });
      few = f.few;
      asked = f.asked;
    }

fits_asked : (n : ℕ) (items : List Item) (c : ℕ) (a : Act) → Fits n items → IsTaken (before n items) (Asked c a) → Fits n (Asked c a ∷ items)
unfolding before
fits_asked n items c a f h =
    let g = f.lists in
    let known = asked_here n items c f.asked h.1 in
    record {
      lists = rw (append-nil (rejoins_in items), append-nil (edits_in items)) (record {
        length = length_still (cycles_in items) (last_in items) c h.0 g.length;
        first = g.first;
        now = g.now;
        rejoins_listed = listed_same (λ x. x.0) (last_in items) (cycles_in items) c (rejoins_in items) g.rejoins_listed h.1;
        acts_listed = listed_more (λ x. x.0) (last_in items) (cycles_in items) (c, a) (acts_in items) g.acts_listed h.1 h.0;
        edits_listed = listed_same (λ e. e.cycle) (last_in items) (cycles_in items) c (edits_in items) g.edits_listed h.1;
        apart = g.apart;
        others = g.others;
        acts_there = all-append (ActIsThere n) (acts_in items) ((c, a) ∷ []) g.acts_there (h.3, tt);
        edits_there = g.edits_there;
      });
      few = λ d. few_more d c (asked_in d items) (f.few d) (λ same. subst (λ (k : ℕ). asked_in k items < 80) same (let l : asked_in c items < 80 = subst (λ (k : ℕ). k < 80) known h.2 in l));
      asked = later-still n items (Asked c a) f.asked (h.1, h.2);
    }

fits_edited : (n : ℕ) (items : List Item) (e : Edit) → Fits n items → IsTaken (before n items) (Edited e) → Fits n (Edited e ∷ items)
unfolding before
fits_edited n items e f h =
    let g = f.lists in
    let gone = up_to (λ r. r.0) e.cycle (rejoins_in items) (g.rejoins_listed.later (e.cycle + 1) (next_later (last_in items) e.cycle h.1)) in
    let same : faulty_in items ≡ faulty_at (named_in items) (rejoins_in items) e.cycle = g.now ∙ sym (at_after (named_in items) (rejoins_in items) e.cycle gone) in
    record {
      lists = rw (append-nil (rejoins_in items), append-nil (acts_in items)) (record {
        length = length_still (cycles_in items) (last_in items) e.cycle h.0 g.length;
        first = g.first;
        now = g.now;
        rejoins_listed = listed_same (λ x. x.0) (last_in items) (cycles_in items) e.cycle (rejoins_in items) g.rejoins_listed h.1;
        acts_listed = listed_same (λ x. x.0) (last_in items) (cycles_in items) e.cycle (acts_in items) g.acts_listed h.1;
        edits_listed = listed_more (λ x. x.cycle) (last_in items) (cycles_in items) e (edits_in items) g.edits_listed h.1 h.0;
        apart = g.apart;
        others = g.others;
        acts_there = g.acts_there;
        edits_there = all-append (EditIsThere n (named_in items) (rejoins_in items)) (edits_in items) (e ∷ []) g.edits_there ((subst (λ (o : Option ℕ). IsOther n o e.to) same h.2, h.3), tt);
      });
      few = f.few;
      asked = later-still n items (Edited e) f.asked h.1;
    }

fits_rejoined : (n : ℕ) (items : List Item) (c : ℕ) (next : Option ℕ) → Fits n items → IsTaken (before n items) (Rejoined c next) → Fits n (Rejoined c next ∷ items)
unfolding before
fits_rejoined n items c next f h =
    let g = f.lists in
    let new = is_later (last_in items) c h.1 h.2 in
    record {
      lists = rw (append-nil (acts_in items), append-nil (edits_in items)) (record {
        length = length_still (cycles_in items) (last_in items) c h.0 g.length;
        first = g.first;
        now = sym (after_more (named_in items) (rejoins_in items) c next);
        rejoins_listed = listed_more (λ x. x.0) (last_in items) (cycles_in items) (c, next) (rejoins_in items) g.rejoins_listed h.1 h.0;
        acts_listed = listed_same (λ x. x.0) (last_in items) (cycles_in items) c (acts_in items) g.acts_listed h.1;
        edits_listed = listed_same (λ e. e.cycle) (last_in items) (cycles_in items) c (edits_in items) g.edits_listed h.1;
        apart = ascend_more (rejoins_in items) c next g.apart (g.rejoins_listed.later c new);
        others = others_more n (named_in items) (rejoins_in items) c next g.others (subst (λ (o : Option ℕ). IsOther n o next) g.now h.3);
        acts_there = g.acts_there;
        edits_there = edits_stay n (named_in items) (rejoins_in items) c next (edits_in items) (g.edits_listed.later c new) g.edits_there;
      });
      few = f.few;
      asked = later-still n items (Rejoined c next) f.asked h.1;
    }

fits_more : (n : ℕ) (items : List Item) (item : Item) → Fits n items → IsTaken (before n items) item → Fits n (item ∷ items)
fits_more n items (Cycles c) f h = fits_cycles n items c f h
fits_more n items (Faulty e) f h = fits_faulty n items e f h
fits_more n items (Asked c a) f h = fits_asked n items c a f h
fits_more n items (Edited e) f h = fits_edited n items e f h
fits_more n items (Rejoined c next) f h = fits_rejoined n items c next f h

fits_none : (n : ℕ) → Fits n []
fits_none n = record {
  lists = record {
    length = refl;
    first = tt;
    now = refl;
    rejoins_listed = none_yet (λ x. x.0) None None;
    acts_listed = none_yet (λ x. x.0) None None;
    edits_listed = none_yet (λ x. x.cycle) None None;
    apart = tt;
    others = tt;
    acts_there = tt;
    edits_there = tt;
  };
  few = λ c. omega arith;
  asked = λ c l. refl;
}

-- ---- all lines

fits_line : (n : ℕ) (items : List Item) (o : Option Item) (words : List (List ℕ)) → Fits n items → line_read (before n items) words ≡ Ok o → Fits n (onto o items)
fits_line n items None words f e = f
fits_line n items (Some item) words f e = fits_more n items item f (line_taken (before n items) words item e)

fits_with : (n : ℕ) (items more : List Item) (line : ℕ) (lines : List (List ℕ)) (read : Result (Option Item) Refused) → ((o : Option Item) → read ≡ Ok o → items_from n (onto o items) (line + 1) lines ≡ Ok more → Fits n more)
    → (at_line line read >>= λ o. items_from n (onto o items) (line + 1) lines) ≡ Ok more → Fits n more
fits_with n items more line lines (Err code) ih e = absurd cc
fits_with n items more line lines (Ok o) ih e = ih o refl e

fits_lines : (n : ℕ) (items more : List Item) (line : ℕ) (lines : List (List ℕ)) → Fits n items → items_from n items line lines ≡ Ok more → Fits n more
unfolding items_from
fits_lines n items more line [] f e = let same : items ≡ more = cc in subst (Fits n) same f
fits_lines n items more line (l ∷ lines) f e =
    fits_with n items more line lines (line_read (before n items) (words_of l)) (λ o read h. fits_lines n (onto o items) more (line + 1) lines (fits_line n items o (words_of l) f read) h) e

playable : (n : ℕ) (items : List Item) (t : ℕ) → cycles_in items ≡ Some t → Fits n items → IsPlayable n (plan_with_items t items)
playable n items t e f =
    let g : FitsLists n (Some t) (named_in items) (last_in items) (faulty_in items) (rejoins_in items) (acts_in items) (edits_in items) =
    subst (λ (o : Option ℕ). FitsLists n o (named_in items) (last_in items) (faulty_in items) (rejoins_in items) (acts_in items) (edits_in items)) e f.lists in
    record {
      long = g.length.0;
      short = g.length.1;
      first = g.first;
      rejoins_order = listed_within (λ x. x.0) (last_in items) t (rejoins_in items) g.rejoins_listed;
      rejoins_apart = g.apart;
      rejoins = g.others;
      acts_order = listed_within (λ x. x.0) (last_in items) t (acts_in items) g.acts_listed;
      acts = g.acts_there;
      few_acts = λ c. rw (count_acts c items) (f.few c);
      edits_order = listed_within (λ e. e.cycle) (last_in items) t (edits_in items) g.edits_listed;
      edits = g.edits_there;
    }

-- what is read can be played
pub read_plays : (n : ℕ) (bytes : List ℕ) (p : Plan) → script_of n bytes ≡ Ok p → IsPlayable n p
unfolding script_of
read_plays n bytes p e =
    let m = bound (items_from n [] 1 (lines_of bytes)) _ p e in
    let f = fits_lines n [] m.0 1 (lines_of bytes) (fits_none n) m.1 in
    by m.0 f (cycles_in m.0) refl m.2 where
      by : (items : List Item) → Fits n items → (o : Option ℕ) → cycles_in items ≡ o → plan_from (1 + count_by is_newline bytes) items o ≡ Ok p → IsPlayable n p
      by items f None is h = absurd cc
      by items f (Some t) is h = let same : plan_with_items t items ≡ p = cc in subst (IsPlayable n) same (playable n items t is f)
