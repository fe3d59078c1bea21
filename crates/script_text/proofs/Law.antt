-- The canonical text of a script is read back as that script.
use Rattle.std.proofs.Common.{◌≡◌, ℕ, zero, suc, ◌+◌, ◌≤◌, Bool, true, false, eqb, List, [], ◌∷◌, ◌++◌, map, refl, ap, sym, subst, ◌∙◌, append_assoc, arith, take-append-drop, Option, Some, None, Ok}
use Rattle.std.specs.List.{flat_map, prefix_len}
use Rattle.std.proofs.lemmas.Bool.{eqb-true, eqb-false}
use Rattle.std.proofs.lemmas.List.{append-nil}
use Rattle.std.proofs.lemmas.List.Concat.{flat_map-append}
use Rattle.packet_format.specs.declared.acts.Act.{Act}
use Rattle.fault_script.specs.declared.Edit.{Edit}
use Rattle.script_text.specs.declared.items.Item.{Item}
use Rattle.script_text.specs.declared.items.Item.TheVariants.{Cycles, Faulty, Asked, Edited, Rejoined}
use Rattle.script_text.specs.Items.{cycles_in, named_in, acts_in, acts_of, edits_in, edits_of, rejoins_in, rejoins_of}
use Rattle.script_text.specs.Reading.{Plan, script_of}
use Rattle.script_text.specs.Printing.{text_of, front_while, rest_after, is_rejoin_at, is_act_at, is_edit_at, rejoined, asked, edited, named_items, canonical_from, canonical, turned_onto, Within, IsScript}
use Rattle.script_text.proofs.Canonical.{rest_yes, rest_no}
use Rattle.script_text.proofs.Printed.{script_again}

rest_with : {X : Type 0} (key : X → ℕ) (c d : ℕ) (x : X) (xs : List X) (b : Bool) → eqb (key x) c ≡ b → Within key c d (x ∷ xs) → (Within key c d xs → Within key (c + 1) d (rest_after (λ y. eqb (key y) c) xs)) → Within key (c + 1) d (rest_after (λ y. eqb (key y) c) (x ∷ xs))
rest_with {X} key c d x xs true e h ih =
    let same : key x ≡ c = eqb-true (key x) c e in
    let tail : Within key c d xs = subst (λ (k : ℕ). Within key k d xs) same h.2 in
    rw (rest_yes (λ y. eqb (key y) c) x xs e) (ih tail)
rest_with {X} key c d x xs false e h ih =
    let other = eqb-false (key x) c e in
    rw (rest_no (λ y. eqb (key y) c) x xs e) (omega arith, h.1, h.2)

pub rest_within : {X : Type 0} (key : X → ℕ) (c d : ℕ) (xs : List X) → Within key c d xs → Within key (c + 1) d (rest_after (λ y. eqb (key y) c) xs)
rest_within key c d [] h = tt
rest_within key c d (x ∷ xs) h = rest_with key c d x xs (eqb (key x) c) refl h (rest_within key c d xs)

pub none_within : {X : Type 0} (key : X → ℕ) (c d : ℕ) (xs : List X) → d ≤ c → Within key c d xs → xs ≡ []
none_within key c d [] l h = refl
none_within key c d (x ∷ xs) l h = let no : ⊥ = omega arith in absurd no

pub whole : {X : Type 0} (p : X → Bool) (xs : List X) → front_while p xs ++ rest_after p xs ≡ xs
whole p xs = take-append-drop (prefix_len p xs) xs

-- what the items of one kind add
acts_asked : (xs : List (ℕ × Act)) → flat_map acts_of (map asked xs) ≡ xs
acts_asked [] = refl
acts_asked (x ∷ xs) = ap (λ ys. x ∷ ys) (acts_asked xs)

acts_rejoined : (xs : List (ℕ × Option ℕ)) → flat_map acts_of (map rejoined xs) ≡ []
acts_rejoined [] = refl
acts_rejoined (x ∷ xs) = acts_rejoined xs

acts_edited : (xs : List Edit) → flat_map acts_of (map edited xs) ≡ []
acts_edited [] = refl
acts_edited (x ∷ xs) = acts_edited xs

edits_asked : (xs : List (ℕ × Act)) → flat_map edits_of (map asked xs) ≡ []
edits_asked [] = refl
edits_asked (x ∷ xs) = edits_asked xs

edits_rejoined : (xs : List (ℕ × Option ℕ)) → flat_map edits_of (map rejoined xs) ≡ []
edits_rejoined [] = refl
edits_rejoined (x ∷ xs) = edits_rejoined xs

edits_edited : (xs : List Edit) → flat_map edits_of (map edited xs) ≡ xs
edits_edited [] = refl
edits_edited (x ∷ xs) = ap (λ ys. x ∷ ys) (edits_edited xs)

rejoins_asked : (xs : List (ℕ × Act)) → flat_map rejoins_of (map asked xs) ≡ []
rejoins_asked [] = refl
rejoins_asked (x ∷ xs) = rejoins_asked xs

rejoins_rejoined : (xs : List (ℕ × Option ℕ)) → flat_map rejoins_of (map rejoined xs) ≡ xs
rejoins_rejoined [] = refl
rejoins_rejoined (x ∷ xs) = ap (λ ys. x ∷ ys) (rejoins_rejoined xs)

rejoins_edited : (xs : List Edit) → flat_map rejoins_of (map edited xs) ≡ []
rejoins_edited [] = refl
rejoins_edited (x ∷ xs) = rejoins_edited xs

parts : {B : Type 0} (f : Item → List B) (a b d e : List Item) → flat_map f (a ++ (b ++ (d ++ e))) ≡ flat_map f a ++ (flat_map f b ++ (flat_map f d ++ flat_map f e))
parts f a b d e = flat_map-append f a (b ++ (d ++ e)) ∙ ap (λ xs. flat_map f a ++ xs) (flat_map-append f b (d ++ e) ∙ ap (λ xs. flat_map f b ++ xs) (flat_map-append f d e))

acts_back : (c n d : ℕ) (rs : List (ℕ × Option ℕ)) (xs : List (ℕ × Act)) (es : List Edit) → d ≤ c + n → Within (λ x. x.0) c d xs → flat_map acts_of (canonical_from c n rs xs es) ≡ xs
unfolding canonical_from
acts_back c zero d rs xs es l h = sym (none_within (λ x. x.0) c d xs (omega arith) h)
acts_back c (suc n) d rs xs es l h =
    let more = acts_back (c + 1) n d (rest_after (is_rejoin_at c) rs) (rest_after (is_act_at c) xs) (rest_after (is_edit_at c) es) (omega arith) (rest_within (λ x. x.0) c d xs h) in
    parts acts_of (map rejoined (front_while (is_rejoin_at c) rs)) (map asked (front_while (is_act_at c) xs)) (map edited (front_while (is_edit_at c) es)) (canonical_from (c + 1) n (rest_after (is_rejoin_at c) rs) (rest_after (is_act_at c) xs) (rest_after (is_edit_at c) es))
    ∙ rw (acts_rejoined (front_while (is_rejoin_at c) rs), acts_asked (front_while (is_act_at c) xs), acts_edited (front_while (is_edit_at c) es), more) (whole (is_act_at c) xs)

edits_back : (c n d : ℕ) (rs : List (ℕ × Option ℕ)) (xs : List (ℕ × Act)) (es : List Edit) → d ≤ c + n → Within (λ e. e.cycle) c d es → flat_map edits_of (canonical_from c n rs xs es) ≡ es
unfolding canonical_from
edits_back c zero d rs xs es l h = sym (none_within (λ e. e.cycle) c d es (omega arith) h)
edits_back c (suc n) d rs xs es l h =
    let more = edits_back (c + 1) n d (rest_after (is_rejoin_at c) rs) (rest_after (is_act_at c) xs) (rest_after (is_edit_at c) es) (omega arith) (rest_within (λ e. e.cycle) c d es h) in
    parts edits_of (map rejoined (front_while (is_rejoin_at c) rs)) (map asked (front_while (is_act_at c) xs)) (map edited (front_while (is_edit_at c) es)) (canonical_from (c + 1) n (rest_after (is_rejoin_at c) rs) (rest_after (is_act_at c) xs) (rest_after (is_edit_at c) es))
    ∙ rw (edits_rejoined (front_while (is_rejoin_at c) rs), edits_asked (front_while (is_act_at c) xs), edits_edited (front_while (is_edit_at c) es), more) (whole (is_edit_at c) es)

rejoins_back : (c n d : ℕ) (rs : List (ℕ × Option ℕ)) (xs : List (ℕ × Act)) (es : List Edit) → d ≤ c + n → Within (λ x. x.0) c d rs → flat_map rejoins_of (canonical_from c n rs xs es) ≡ rs
unfolding canonical_from
rejoins_back c zero d rs xs es l h = sym (none_within (λ x. x.0) c d rs (omega arith) h)
rejoins_back c (suc n) d rs xs es l h =
    let more = rejoins_back (c + 1) n d (rest_after (is_rejoin_at c) rs) (rest_after (is_act_at c) xs) (rest_after (is_edit_at c) es) (omega arith) (rest_within (λ x. x.0) c d rs h) in
    parts rejoins_of (map rejoined (front_while (is_rejoin_at c) rs)) (map asked (front_while (is_act_at c) xs)) (map edited (front_while (is_edit_at c) es)) (canonical_from (c + 1) n (rest_after (is_rejoin_at c) rs) (rest_after (is_act_at c) xs) (rest_after (is_edit_at c) es))
    ∙ rw (rejoins_rejoined (front_while (is_rejoin_at c) rs), rejoins_asked (front_while (is_act_at c) xs), rejoins_edited (front_while (is_edit_at c) es), more) (whole (is_rejoin_at c) rs)

-- what the items turned round hold
acts_turned : (items base : List Item) → acts_in (turned_onto items base) ≡ acts_in base ++ flat_map acts_of items
acts_turned [] base = sym (append-nil (acts_in base))
acts_turned (i ∷ items) base = acts_turned items (i ∷ base) ∙ append_assoc (acts_in base) (acts_of i) (flat_map acts_of items)

edits_turned : (items base : List Item) → edits_in (turned_onto items base) ≡ edits_in base ++ flat_map edits_of items
edits_turned [] base = sym (append-nil (edits_in base))
edits_turned (i ∷ items) base = edits_turned items (i ∷ base) ∙ append_assoc (edits_in base) (edits_of i) (flat_map edits_of items)

rejoins_turned : (items base : List Item) → rejoins_in (turned_onto items base) ≡ rejoins_in base ++ flat_map rejoins_of items
rejoins_turned [] base = sym (append-nil (rejoins_in base))
rejoins_turned (i ∷ items) base = rejoins_turned items (i ∷ base) ∙ append_assoc (rejoins_in base) (rejoins_of i) (flat_map rejoins_of items)

-- items of cycles alone
abbrev IsOfCycle : Item → Type 0
IsOfCycle (Cycles c) = ⊥
IsOfCycle (Faulty e) = ⊥
IsOfCycle (Asked c a) = Unit {0}
IsOfCycle (Edited e) = Unit {0}
IsOfCycle (Rejoined c next) = Unit {0}

abbrev AreOfCycle : List Item → Type 0
AreOfCycle [] = Unit {0}
AreOfCycle (i ∷ items) = IsOfCycle i × AreOfCycle items

of_cycle-append : (a b : List Item) → AreOfCycle a → AreOfCycle b → AreOfCycle (a ++ b)
of_cycle-append [] b h k = k
of_cycle-append (i ∷ a) b h k = (h.0, of_cycle-append a b h.1 k)

of_asked : (xs : List (ℕ × Act)) → AreOfCycle (map asked xs)
of_asked [] = tt
of_asked (x ∷ xs) = (tt, of_asked xs)

of_edited : (xs : List Edit) → AreOfCycle (map edited xs)
of_edited [] = tt
of_edited (x ∷ xs) = (tt, of_edited xs)

of_rejoined : (xs : List (ℕ × Option ℕ)) → AreOfCycle (map rejoined xs)
of_rejoined [] = tt
of_rejoined (x ∷ xs) = (tt, of_rejoined xs)

of_canonical : (c n : ℕ) (rs : List (ℕ × Option ℕ)) (xs : List (ℕ × Act)) (es : List Edit) → AreOfCycle (canonical_from c n rs xs es)
unfolding canonical_from
of_canonical c zero rs xs es = tt
of_canonical c (suc n) rs xs es =
    of_cycle-append (map rejoined (front_while (is_rejoin_at c) rs)) _ (of_rejoined (front_while (is_rejoin_at c) rs))
    (of_cycle-append (map asked (front_while (is_act_at c) xs)) _ (of_asked (front_while (is_act_at c) xs))
    (of_cycle-append (map edited (front_while (is_edit_at c) es)) _ (of_edited (front_while (is_edit_at c) es))
    (of_canonical (c + 1) n (rest_after (is_rejoin_at c) rs) (rest_after (is_act_at c) xs) (rest_after (is_edit_at c) es))))

cycles_turned : (items base : List Item) → AreOfCycle items → cycles_in (turned_onto items base) ≡ cycles_in base
cycles_turned [] base h = refl
cycles_turned (Cycles c ∷ items) base h = absurd h.0
cycles_turned (Faulty e ∷ items) base h = absurd h.0
cycles_turned (Asked c a ∷ items) base h = cycles_turned items (Asked c a ∷ base) h.1
cycles_turned (Edited e ∷ items) base h = cycles_turned items (Edited e ∷ base) h.1
cycles_turned (Rejoined c next ∷ items) base h = cycles_turned items (Rejoined c next ∷ base) h.1

named_turned : (items base : List Item) → AreOfCycle items → named_in (turned_onto items base) ≡ named_in base
named_turned [] base h = refl
named_turned (Cycles c ∷ items) base h = absurd h.0
named_turned (Faulty e ∷ items) base h = absurd h.0
named_turned (Asked c a ∷ items) base h = named_turned items (Asked c a ∷ base) h.1
named_turned (Edited e ∷ items) base h = named_turned items (Edited e ∷ base) h.1
named_turned (Rejoined c next ∷ items) base h = named_turned items (Rejoined c next ∷ base) h.1

cycles_all : (c : ℕ) (named : Option ℕ) (items : List Item) → AreOfCycle items → cycles_in (turned_onto (Cycles c ∷ (named_items named ++ items)) []) ≡ Some c
cycles_all c None items h = cycles_turned items (Cycles c ∷ []) h
cycles_all c (Some e) items h = cycles_turned items (Faulty e ∷ Cycles c ∷ []) h

named_all : (c : ℕ) (named : Option ℕ) (items : List Item) → AreOfCycle items → named_in (turned_onto (Cycles c ∷ (named_items named ++ items)) []) ≡ named
named_all c None items h = named_turned items (Cycles c ∷ []) h
named_all c (Some e) items h = named_turned items (Faulty e ∷ Cycles c ∷ []) h

nothing_named : {B : Type 0} (f : Item → List B) (c : ℕ) (named : Option ℕ) (items : List Item) → f (Cycles c) ≡ [] → ((e : ℕ) → f (Faulty e) ≡ []) → flat_map f (Cycles c ∷ (named_items named ++ items)) ≡ flat_map f items
nothing_named f c None items p q = ap (λ xs. xs ++ flat_map f items) p
nothing_named f c (Some e) items p q = ap (λ xs. xs ++ (f (Faulty e) ++ flat_map f items)) p ∙ ap (λ xs. xs ++ flat_map f items) (q e)

pub read_again : (n : ℕ) (p : Plan) → n ≤ 5 → IsScript n p → script_of n (text_of (canonical p)) ≡ Ok p
unfolding canonical
read_again n p l s =
    let of = of_canonical 0 p.cycles p.rejoins p.acts p.edits in
    let items = canonical_from 0 p.cycles p.rejoins p.acts p.edits in
    let all = Cycles p.cycles ∷ (named_items p.faulty ++ items) in
    let named : named_in (turned_onto all []) ≡ p.faulty = named_all p.cycles p.faulty items of in
    let acts : acts_in (turned_onto all []) ≡ p.acts = acts_turned all [] ∙ nothing_named acts_of p.cycles p.faulty items refl (λ e. refl) ∙ acts_back 0 p.cycles p.cycles p.rejoins p.acts p.edits (omega arith) s.acts in
    let edits : edits_in (turned_onto all []) ≡ p.edits = edits_turned all [] ∙ nothing_named edits_of p.cycles p.faulty items refl (λ e. refl) ∙ edits_back 0 p.cycles p.cycles p.rejoins p.acts p.edits (omega arith) s.edits in
    let rejoins : rejoins_in (turned_onto all []) ≡ p.rejoins = rejoins_turned all [] ∙ nothing_named rejoins_of p.cycles p.faulty items refl (λ e. refl) ∙ rejoins_back 0 p.cycles p.cycles p.rejoins p.acts p.edits (omega arith) s.rejoins in
    script_again n all p.cycles l s.next (cycles_all p.cycles p.faulty items of) ∙ rw (named, acts, edits, rejoins) refl
