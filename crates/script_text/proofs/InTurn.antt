-- A script that can be played is one: each item of its canonical order may come behind those before it.
use Rattle.std.proofs.Common.{◌≡◌, ℕ, zero, suc, ◌+◌, ◌<◌, ◌≤◌, Bool, true, false, cond, eqb, leb, List, [], ◌∷◌, ◌++◌, length, map, take, drop, refl, ap, sym, subst, ◌∙◌, arith, Option, Some, None, Result, Ok, Err, IsTrue}
use Rattle.std.specs.Prelude.{count_by, IfOk}
use Rattle.std.specs.List.{AllByRecursion, prefix_len}
use Rattle.std.proofs.lemmas.Bool.{eqb-true, eqb-false, leb-true, le-leb}
use Rattle.ftpp_base.proofs.Among.{weaker}
use Rattle.ftpp_base.proofs.Counts.{count_by-cons}
use Rattle.packet_format.specs.declared.acts.Act.{Act}
use Rattle.fault_script.specs.declared.Edit.{Edit}
use Rattle.script_text.specs.declared.items.Item.{Item}
use Rattle.script_text.specs.declared.items.Item.TheVariants.{Cycles, Faulty, Asked, Edited, Rejoined}
use Rattle.script_text.specs.Items.{before, cycles_in, last_in, asked_in, faulty_in}
use Rattle.script_text.specs.Judged.{may_follow, is_this, InOrder}
use Rattle.fault_script.specs.Edited.{never_fall}
use Rattle.script_text.specs.declared.Script.{Script}
use Rattle.script_text.specs.declared.ScriptError.{ScriptError}
use Rattle.script_text.specs.declared.ScriptError.TheVariants.{At, Memory}
use Rattle.script_text.specs.Reading.{Plan, plan_of, IsLater, script_of, Reads}
use Rattle.script_text.specs.Printing.{front_while, rest_after, is_rejoin_at, is_act_at, is_edit_at, rejoined, asked, edited, named_items, canonical_from, canonical, ActFits, KindFits, IsOther, InRun, IsNext, AreNext, Within, IsScript, turned_onto}
use Rattle.script_text.specs.Playable.{faulty_at, IsThere, AreOthers, Ascend, ActIsThere, EditIsThere, IsPlayable}
use Rattle.script_text.proofs.Steps.{asked_here, later-still}
use Rattle.script_text.proofs.Canonical.{front_yes, front_no, rest_yes, rest_no}
use Rattle.script_text.proofs.Law.{rest_within, none_within, whole}
use Rattle.script_text.proofs.Playable.{faulty_after, at_after, read_plays}

-- ---- the front of a list and the rest

all_take : {X : Type 0} (P : X → Type 0) (j : ℕ) (xs : List X) → AllByRecursion P xs → AllByRecursion P (take j xs)
all_take P zero xs a = tt
all_take P (suc j) [] a = tt
all_take P (suc j) (x ∷ xs) a = (a.0, all_take P j xs a.1)

all_drop : {X : Type 0} (P : X → Type 0) (j : ℕ) (xs : List X) → AllByRecursion P xs → AllByRecursion P (drop j xs)
all_drop P zero xs a = a
all_drop P (suc j) [] a = tt
all_drop P (suc j) (x ∷ xs) a = all_drop P j xs a.1

ascend_drop : (j : ℕ) (rs : List (ℕ × Option ℕ)) → Ascend rs → Ascend (drop j rs)
ascend_drop zero rs a = a
ascend_drop (suc j) [] a = tt
ascend_drop (suc j) (r ∷ rs) a = ascend_drop j rs a.1

ascend_take : (j : ℕ) (rs : List (ℕ × Option ℕ)) → Ascend rs → Ascend (take j rs)
ascend_take zero rs a = tt
ascend_take (suc j) [] a = tt
ascend_take (suc j) (r ∷ rs) a = (all_take (λ s. r.0 < s.0) j rs a.0, ascend_take j rs a.1)

count_drop : {X : Type 0} (p : X → Bool) (j : ℕ) (xs : List X) → count_by p (drop j xs) ≤ count_by p xs
count_drop p zero xs = omega arith
count_drop p (suc j) [] = omega arith
count_drop p (suc j) (x ∷ xs) =
    let one = count_by-cons p x xs in
    let rec = count_drop p j xs in
    omega arith

-- those at the front are of that cycle
front_with : {X : Type 0} (key : X → ℕ) (c : ℕ) (x : X) (xs : List X) (b : Bool) → eqb (key x) c ≡ b → AllByRecursion (λ y. key y ≡ c) (front_while (λ y. eqb (key y) c) xs) → AllByRecursion (λ y. key y ≡ c) (front_while (λ y. eqb (key y) c) (x ∷ xs))
front_with key c x xs true e a = rw (front_yes (λ y. eqb (key y) c) x xs e) (eqb-true (key x) c e, a)
front_with key c x xs false e a = rw (front_no (λ y. eqb (key y) c) x xs e) tt

front_at : {X : Type 0} (key : X → ℕ) (c : ℕ) (xs : List X) → AllByRecursion (λ y. key y ≡ c) (front_while (λ y. eqb (key y) c) xs)
front_at key c [] = tt
front_at key c (x ∷ xs) = front_with key c x xs (eqb (key x) c) refl (front_at key c xs)

-- there are no more of them at the front than there are
front_few_with : {X : Type 0} (p : X → Bool) (x : X) (xs : List X) (b : Bool) → p x ≡ b → length (front_while p xs) ≤ count_by p xs → length (front_while p (x ∷ xs)) ≤ count_by p (x ∷ xs)
front_few_with p x xs true e l =
    let one : count_by p (x ∷ xs) ≡ 1 + count_by p xs = count_by-cons p x xs ∙ ap (λ b. cond b 1 0 + count_by p xs) e in
    let more : length (front_while p (x ∷ xs)) ≡ suc (length (front_while p xs)) = ap length (front_yes p x xs e) in
    omega arith
front_few_with p x xs false e l =
    let none : length (front_while p (x ∷ xs)) ≡ 0 = ap length (front_no p x xs e) in
    omega arith

front_few : {X : Type 0} (p : X → Bool) (xs : List X) → length (front_while p xs) ≤ count_by p xs
front_few p [] = omega arith
front_few p (x ∷ xs) = front_few_with p x xs (p x) refl (front_few p xs)

-- entries from a cycle on are not before it
not_before : {X : Type 0} (key : X → ℕ) (c d : ℕ) (xs : List X) → Within key c d xs → AllByRecursion (λ x. c ≤ key x) xs
not_before key c d [] w = tt
not_before key c d (x ∷ xs) w = (w.0, weaker (λ y. key x ≤ key y) (λ y. c ≤ key y) (λ y l. let m = w.0 in omega arith) xs (not_before key (key x) d xs w.2))

-- ---- who is faulty

-- rejoins up to a cycle, then the others
at_split : (first : Option ℕ) (front rest : List (ℕ × Option ℕ)) (c : ℕ) → AllByRecursion (λ r. r.0 ≤ c) front → faulty_at first (front ++ rest) c ≡ faulty_at (faulty_after first front) rest c
at_split first [] rest c a = refl
at_split first (r ∷ front) rest c a = rw (le-leb r.0 c a.0) (at_split r.1 front rest c a.1)

not_yet : (c d : ℕ) → c + 1 ≤ d → leb d c ≡ false
not_yet c d l = by (leb d c) refl where
  by : (b : Bool) → leb d c ≡ b → b ≡ false
  by true e = let k = leb-true d c e in let no : ⊥ = omega arith in absurd no
  by false e = refl

-- before the first rejoin
at_first : (first : Option ℕ) (rs : List (ℕ × Option ℕ)) (c : ℕ) → AllByRecursion (λ r. c + 1 ≤ r.0) rs → faulty_at first rs c ≡ first
at_first first [] c a = refl
at_first first (r ∷ rs) c a = rw (not_yet c r.0 a.0) refl

others_split : (n : ℕ) (first : Option ℕ) (front rest : List (ℕ × Option ℕ)) → AreOthers n first (front ++ rest) → AreOthers n first front × AreOthers n (faulty_after first front) rest
others_split n first [] rest a = (tt, a)
others_split n first (r ∷ front) rest a = let h = others_split n r.1 front rest a.1 in ((a.0, h.0), h.1)

-- ---- one cycle

-- items stand behind others
next_append : (n : ℕ) (items xs ys : List Item) → AreNext n items xs → AreNext n (turned_onto xs items) ys → AreNext n items (xs ++ ys)
next_append n items [] ys a b = b
next_append n items (x ∷ xs) ys a b = (a.0, next_append n (x ∷ items) xs ys a.1 b)

-- what is known within a cycle
record InCycle (total c : ℕ) (items : List Item) (now : Option ℕ) : Type 0 where
  cycles : cycles_in items ≡ Some total
  faulty : faulty_in items ≡ now
  follows : IsTrue (may_follow (last_in items) c)
  later : (d : ℕ) → IsLater (last_in items) d → asked_in d items ≡ 0

in_run : (o : Option ℕ) (total c : ℕ) → o ≡ Some total → c < total → InRun o c
in_run None total c e l = absurd cc
in_run (Some t) total c e l = let same : t ≡ total = cc in omega arith

same_follows : (c : ℕ) → IsTrue (may_follow (Some c) c)
same_follows c = le-leb c c (omega arith)

-- a rejoin, an act and an edit of the cycle
one_rejoin : (n total c : ℕ) (items : List Item) (now next : Option ℕ) → c < total → total ≤ 100000 → InCycle total c items now → is_this (last_in items) c ≡ false → IsOther n now next
    → IsNext (before n items) (Rejoined c next) × InCycle total c (Rejoined c next ∷ items) next
unfolding before
one_rejoin n total c items now next l m h new other = (
  ((in_run (cycles_in items) total c h.cycles l, (let k : c < 100000 = omega arith in k), h.follows), new, subst (λ (o : Option ℕ). IsOther n o next) (sym h.faulty) other),
  record { cycles = h.cycles; faulty = refl; follows = same_follows c; later = later-still n items (Rejoined c next) h.later h.follows },
)

one_act : (n total c : ℕ) (items : List Item) (now : Option ℕ) (a : Act) → c < total → total ≤ 100000 → InCycle total c items now → asked_in c items < 80 → ActFits n a
    → IsNext (before n items) (Asked c a) × InCycle total c (Asked c a ∷ items) now
unfolding before
one_act n total c items now a l m h room fits =
    let known = asked_here n items c h.later h.follows in
    let few = subst (λ (k : ℕ). k < 80) (sym known) room in (
      ((in_run (cycles_in items) total c h.cycles l, (let k : c < 100000 = omega arith in k), h.follows), few, fits),
      record { cycles = h.cycles; faulty = h.faulty; follows = same_follows c; later = later-still n items (Asked c a) h.later (h.follows, few) },
    )

one_edit : (n total : ℕ) (items : List Item) (now : Option ℕ) (e : Edit) → e.cycle < total → total ≤ 100000 → InCycle total e.cycle items now → IsOther n now e.to → KindFits e.what
    → IsNext (before n items) (Edited e) × InCycle total e.cycle (Edited e ∷ items) now
unfolding before
one_edit n total items now e l m h other fits = (
  ((in_run (cycles_in items) total e.cycle h.cycles l, (let k : e.cycle < 100000 = omega arith in k), h.follows), subst (λ (o : Option ℕ). IsOther n o e.to) (sym h.faulty) other, fits),
  record { cycles = h.cycles; faulty = h.faulty; follows = same_follows e.cycle; later = later-still n items (Edited e) h.later h.follows },
)

-- what the items of a cycle leave
abbrev Runs : ℕ → ℕ → ℕ → List Item → List Item → Option ℕ → Type 0
Runs n total c items more now = AreNext n items more × InCycle total c (turned_onto more items) now

run_rejoins : (n total c : ℕ) (items : List Item) (now : Option ℕ) (rs : List (ℕ × Option ℕ)) → c < total → total ≤ 100000 → InCycle total c items now → is_this (last_in items) c ≡ false
    → AllByRecursion (λ r. r.0 ≡ c) rs → Ascend rs → AreOthers n now rs → Runs n total c items (map rejoined rs) (faulty_after now rs)
run_rejoins n total c items now [] l m h new at up others = (tt, h)
run_rejoins n total c items now (r ∷ []) l m h new at up others =
    let P : ℕ → Type 0 = λ d. IsNext (before n items) (Rejoined d r.1) × InCycle total c (Rejoined d r.1 ∷ items) r.1 in
    let one = subst P (sym at.0) (one_rejoin n total c items now r.1 l m h new others.0) in ((one.0, tt), one.1)
run_rejoins n total c items now (r ∷ q ∷ rs) l m h new at up others =
    let less = up.0.0 in
    let one = at.0 in
    let two = at.1.0 in
    let no : ⊥ = omega arith in absurd no

one_more : (d c m : ℕ) → d ≡ c → cond (eqb d c) 1 0 + m ≤ 1 + m
one_more d c m e = by (eqb d c) where
  by : (b : Bool) → cond b 1 0 + m ≤ 1 + m
  by true = omega arith
  by false = omega arith

run_acts : (n total c : ℕ) (items : List Item) (now : Option ℕ) (xs : List (ℕ × Act)) → c < total → total ≤ 100000 → InCycle total c items now
    → AllByRecursion (λ x. x.0 ≡ c) xs → AllByRecursion (ActIsThere n) xs → asked_in c items + length xs ≤ 80 → Runs n total c items (map asked xs) now
run_acts n total c items now [] l m h at there few = (tt, h)
run_acts n total c items now (x ∷ xs) l m h at there few =
    let P : ℕ → Type 0 = λ d. IsNext (before n items) (Asked d x.1) × InCycle total c (Asked d x.1 ∷ items) now in
    let room : asked_in c items < 80 = omega arith in
    let one = subst P (sym at.0) (one_act n total c items now x.1 l m h room there.0) in
    let up = one_more x.0 c (asked_in c items) at.0 in
    let less : asked_in c (Asked x.0 x.1 ∷ items) + length xs ≤ 80 = omega arith in
    let more = run_acts n total c (Asked x.0 x.1 ∷ items) now xs l m one.1 at.1 there.1 less in ((one.0, more.0), more.1)

-- an edit of the cycle while that element is faulty
abbrev EditFits : ℕ → Option ℕ → Edit → Type 0
EditFits n now e = IsOther n now e.to × KindFits e.what

run_edits : (n total c : ℕ) (items : List Item) (now : Option ℕ) (es : List Edit) → c < total → total ≤ 100000 → InCycle total c items now
    → AllByRecursion (λ e. e.cycle ≡ c) es → AllByRecursion (EditFits n now) es → Runs n total c items (map edited es) now
run_edits n total c items now [] l m h at fits = (tt, h)
run_edits n total c items now (e ∷ es) l m h at fits =
    let here = subst (λ (d : ℕ). InCycle total d items now) (sym at.0) h in
    let below : e.cycle < total = subst (λ (d : ℕ). d < total) (sym at.0) l in
    let one = one_edit n total items now e below m here fits.0.0 fits.0.1 in
    let then = subst (λ (d : ℕ). InCycle total d (Edited e ∷ items) now) at.0 one.1 in
    let more = run_edits n total c (Edited e ∷ items) now es l m then at.1 fits.1 in ((one.0, more.0), more.1)

-- ---- all cycles

-- what is left of a script from a cycle on
record Left (n total c : ℕ) (now : Option ℕ) (rs : List (ℕ × Option ℕ)) (xs : List (ℕ × Act)) (es : List Edit) : Type 0 where
  rejoins_order : Within (λ x. x.0) c total rs
  apart : Ascend rs
  others : AreOthers n now rs
  acts_order : Within (λ x. x.0) c total xs
  acts : AllByRecursion (ActIsThere n) xs
  few : (d : ℕ) → count_by (is_act_at d) xs ≤ 80
  edits_order : Within (λ e. e.cycle) c total es
  edits : AllByRecursion (EditIsThere n now rs) es

edits_rest : (n c : ℕ) (now : Option ℕ) (rs front rest : List (ℕ × Option ℕ)) (es : List Edit) → front ++ rest ≡ rs → AllByRecursion (λ r. r.0 ≡ c) front → AllByRecursion (λ e. c ≤ e.cycle) es
    → AllByRecursion (EditIsThere n now rs) es → AllByRecursion (EditIsThere n (faulty_after now front) rest) es
edits_rest n c now rs front rest [] w f l a = tt
edits_rest n c now rs front rest (e ∷ es) w f l a =
    let up : c ≤ e.cycle = l.0 in
    let same : faulty_at now rs e.cycle ≡ faulty_at (faulty_after now front) rest e.cycle =
    ap (λ (qs : List (ℕ × Option ℕ)). faulty_at now qs e.cycle) (sym w) ∙ at_split now front rest e.cycle (weaker (λ r. r.0 ≡ c) (λ r. r.0 ≤ e.cycle) (λ r k. omega arith) front f) in
    ((subst (λ (o : Option ℕ). IsOther n o e.to) same a.0.0, a.0.1), edits_rest n c now rs front rest es w f l.1 a.1)

edits_now : (n c : ℕ) (now : Option ℕ) (rest : List (ℕ × Option ℕ)) (es : List Edit) → AllByRecursion (λ r. c + 1 ≤ r.0) rest → AllByRecursion (λ e. e.cycle ≡ c) es
    → AllByRecursion (EditIsThere n now rest) es → AllByRecursion (EditFits n now) es
edits_now n c now rest [] l at a = tt
edits_now n c now rest (e ∷ es) l at a =
    let same : faulty_at now rest e.cycle ≡ now = ap (faulty_at now rest) at.0 ∙ at_first now rest c l in
    ((subst (λ (o : Option ℕ). IsOther n o e.to) same a.0.0, a.0.1), edits_now n c now rest es l at.1 a.1)

-- the next cycle has not begun
fresh : (o : Option ℕ) (c : ℕ) → IsTrue (may_follow o c) → is_this o (c + 1) ≡ false
fresh None c h = refl
fresh (Some last) c h = by (eqb last (c + 1)) refl where
  by : (b : Bool) → eqb last (c + 1) ≡ b → b ≡ false
  by true e = let k = eqb-true last (c + 1) e in let l = leb-true last c h in let no : ⊥ = omega arith in absurd no
  by false e = refl

still_follows : (o : Option ℕ) (c : ℕ) → IsTrue (may_follow o c) → IsTrue (may_follow o (c + 1))
still_follows None c h = refl
still_follows (Some last) c h = let l = leb-true last c h in le-leb last (c + 1) (omega arith)

next_cycle : (total c : ℕ) (items : List Item) (now : Option ℕ) → InCycle total c items now → InCycle total (c + 1) items now
next_cycle total c items now h = record { cycles = h.cycles; faulty = h.faulty; follows = still_follows (last_in items) c h.follows; later = h.later }

-- no act of the cycle came before it
none_asked : (o : Option ℕ) (c : ℕ) → IsTrue (may_follow o c) → is_this o c ≡ false → IsLater o c
none_asked None c h e = tt
none_asked (Some last) c h e =
    let l = leb-true last c h in
    let apart = eqb-false last c e in
    omega arith

left_more : (n total c : ℕ) (now : Option ℕ) (rs : List (ℕ × Option ℕ)) (xs : List (ℕ × Act)) (es : List Edit) → Left n total c now rs xs es
    → Left n total (c + 1) (faulty_after now (front_while (is_rejoin_at c) rs)) (rest_after (is_rejoin_at c) rs) (rest_after (is_act_at c) xs) (rest_after (is_edit_at c) es)
left_more n total c now rs xs es h =
    let front = front_while (is_rejoin_at c) rs in
    let rest = rest_after (is_rejoin_at c) rs in
    let after = rest_within (λ e. e.cycle) c total es h.edits_order in
    record {
      rejoins_order = rest_within (λ x. x.0) c total rs h.rejoins_order;
      apart = ascend_drop (prefix_len (is_rejoin_at c) rs) rs h.apart;
      others = (others_split n now front rest (subst (AreOthers n now) (sym (whole (is_rejoin_at c) rs)) h.others)).1;
      acts_order = rest_within (λ x. x.0) c total xs h.acts_order;
      acts = all_drop (ActIsThere n) (prefix_len (is_act_at c) xs) xs h.acts;
      few = λ d. let a = count_drop (is_act_at d) (prefix_len (is_act_at c) xs) xs in let b = h.few d in omega arith;
      edits_order = after;
      edits =
          edits_rest n c now rs front rest (rest_after (is_edit_at c) es) (whole (is_rejoin_at c) rs) (front_at (λ x. x.0) c rs)
          (weaker (λ e. c + 1 ≤ e.cycle) (λ e. c ≤ e.cycle) (λ e l. omega arith) (rest_after (is_edit_at c) es) (not_before (λ e. e.cycle) (c + 1) total (rest_after (is_edit_at c) es) after))
          (all_drop (EditIsThere n now rs) (prefix_len (is_edit_at c) es) es h.edits);
    }

-- rejoins ask for nothing
rejoins_ask : (c : ℕ) (rs : List (ℕ × Option ℕ)) (items : List Item) → asked_in c (turned_onto (map rejoined rs) items) ≡ asked_in c items
rejoins_ask c [] items = refl
rejoins_ask c (r ∷ rs) items = rejoins_ask c rs (rejoined r ∷ items)

walk : (n total c m : ℕ) (items : List Item) (now : Option ℕ) (rs : List (ℕ × Option ℕ)) (xs : List (ℕ × Act)) (es : List Edit) → c + m ≡ total → total ≤ 100000
    → InCycle total c items now → is_this (last_in items) c ≡ false → Left n total c now rs xs es → AreNext n items (canonical_from c m rs xs es)
unfolding canonical_from
walk n total c zero items now rs xs es e l h new left = tt
walk n total c (suc m) items now rs xs es e l h new left =
    let fr = front_while (is_rejoin_at c) rs in
    let fx = front_while (is_act_at c) xs in
    let fe = front_while (is_edit_at c) es in
    let then = faulty_after now fr in
    let rest = rest_after (is_rejoin_at c) rs in
    let below : c < total = omega arith in
    let sum : c + 1 + m ≡ total = omega arith in
    let others = others_split n now fr rest (subst (AreOthers n now) (sym (whole (is_rejoin_at c) rs)) left.others) in
    let none = h.later c (none_asked (last_in items) c h.follows new) in
    let at_c = front_at (λ x. x.0) c rs in
    let one = run_rejoins n total c items now fr below l h new at_c (ascend_take (prefix_len (is_rejoin_at c) rs) rs left.apart) others.0 in
    let first = turned_onto (map rejoined fr) items in
    let still = rejoins_ask c fr items in
    let a = front_few (is_act_at c) xs in
    let b = left.few c in
    let few : asked_in c first + length fx ≤ 80 = omega arith in
    let two = run_acts n total c first then fx below l one.1 (front_at (λ x. x.0) c xs) (all_take (ActIsThere n) (prefix_len (is_act_at c) xs) xs left.acts) few in
    let second = turned_onto (map asked fx) first in
    let edits_c = front_at (λ e. e.cycle) c es in
    let fits = edits_now n c then rest fe (not_before (λ x. x.0) (c + 1) total rest (rest_within (λ x. x.0) c total rs left.rejoins_order)) edits_c
    (edits_rest n c now rs fr rest fe (whole (is_rejoin_at c) rs) at_c (weaker (λ e. e.cycle ≡ c) (λ e. c ≤ e.cycle) (λ e k. omega arith) fe edits_c) (all_take (EditIsThere n now rs) (prefix_len (is_edit_at c) es) es left.edits)) in
    let three = run_edits n total c second then fe below l two.1 edits_c fits in
    let third = turned_onto (map edited fe) second in
    let more = walk n total (c + 1) m third then rest (rest_after (is_act_at c) xs) (rest_after (is_edit_at c) es) sum l (next_cycle total c third then three.1) (fresh (last_in third) c three.1.follows)
    (left_more n total c now rs xs es left) in
    next_append n items (map rejoined fr) _ one.0 (next_append n first (map asked fx) _ two.0 (next_append n second (map edited fe) _ three.0 more))

-- a script that can be played is one
pub playable_is_script : (n : ℕ) (p : Plan) → IsPlayable n p → IsScript n p
unfolding canonical before
playable_is_script n p h = record { rejoins = h.rejoins_order; acts = h.acts_order; edits = h.edits_order; next = ((refl, h.long, h.short), named p.faulty refl) } where
  left : Left n p.cycles 0 p.faulty p.rejoins p.acts p.edits
  left = record { rejoins_order = h.rejoins_order; apart = h.rejoins_apart; others = h.rejoins; acts_order = h.acts_order; acts = h.acts; few = h.few_acts; edits_order = h.edits_order; edits = h.edits }

  named : (o : Option ℕ) → p.faulty ≡ o → AreNext n (Cycles p.cycles ∷ []) (named_items o ++ canonical_from 0 p.cycles p.rejoins p.acts p.edits)
  named None e =
      walk n p.cycles 0 p.cycles (Cycles p.cycles ∷ []) None p.rejoins p.acts p.edits (omega arith) h.short (record { cycles = refl; faulty = refl; follows = refl; later = λ d l. refl }) refl
      (subst (λ (o : Option ℕ). Left n p.cycles 0 o p.rejoins p.acts p.edits) e left)
  named (Some f) e =
      let there = subst (IsThere n) e h.first in
      let long = h.long in (
        ((let l : 0 < p.cycles = omega arith in l), refl, refl, there),
        walk n p.cycles 0 p.cycles (Faulty f ∷ Cycles p.cycles ∷ []) (Some f) p.rejoins p.acts p.edits (omega arith) h.short (record { cycles = refl; faulty = refl; follows = refl; later = λ d l. refl }) refl
            (subst (λ (o : Option ℕ). Left n p.cycles 0 o p.rejoins p.acts p.edits) e left),
      )

-- what is read is a script
pub read_is_script : (n : ℕ) (bytes : List ℕ) (p : Plan) → script_of n bytes ≡ Ok p → IsScript n p
read_is_script n bytes p e = playable_is_script n p (read_plays n bytes p e)

-- ---- what is answered

never_falls : (from below : ℕ) (es : List Edit) → Within (λ e. e.cycle) from below es → never_fall from es ≡ true
never_falls from below [] w = refl
never_falls from below (e ∷ es) w = rw (le-leb from e.cycle w.0) (never_falls e.cycle below es w.2)

pub answers_script : (n : ℕ) (bytes : List ℕ) (result : Result Script ScriptError) → Reads result (script_of n bytes) → IfOk result (λ s. IsScript n (plan_of s))
answers_script n bytes (Ok script) h = read_is_script n bytes (plan_of script) h
answers_script n bytes (Err Memory) h = tt
answers_script n bytes (Err (At line code)) h = tt

pub answers_playable : (n : ℕ) (bytes : List ℕ) (result : Result Script ScriptError) → Reads result (script_of n bytes) → IfOk result (λ s. IsPlayable n (plan_of s))
answers_playable n bytes (Ok script) h = read_plays n bytes (plan_of script) h
answers_playable n bytes (Err Memory) h = tt
answers_playable n bytes (Err (At line code)) h = tt

pub answers_edits : (n : ℕ) (bytes : List ℕ) (result : Result Script ScriptError) → Reads result (script_of n bytes) → IfOk result (λ s. IsTrue (never_fall 0 s.edits.items))
answers_edits n bytes (Ok script) h = let p = read_plays n bytes (plan_of script) h in never_falls 0 script.cycles script.edits.items p.edits_order
answers_edits n bytes (Err Memory) h = tt
answers_edits n bytes (Err (At line code)) h = tt
