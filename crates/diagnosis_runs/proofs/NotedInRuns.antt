-- What an element noted since the last rejoin names the faulty element; so that one is a suspect.
use Rattle.std.proofs.Common.{◌≡◌, ℕ, zero, suc, ◌+◌, ◌<◌, ◌≤◌, Bool, true, false, not, List, [], ◌∷◌, length, refl, ap, arith, sym, ◌∙◌, ◌⊎◌, inl, inr, subst, filter, Option, Some, None}
use Rattle.std.specs.Prelude.{◌||◌, ◌&&◌, ◌==◌}
use Rattle.std.specs.List.{AllByRecursion, range_with_len}
use Rattle.std.proofs.lemmas.Bool.{eqb-true, eqb-false, eq-eqb, ne_eqb, or_left, or_right}
use Rattle.ftpp_base.specs.Lists.{below, others, is_in}
use Rattle.ftpp_base.proofs.Among.{all-append}
use Rattle.ftpp_base.proofs.Items.{IsItem, filter_item, item_any}
use Rattle.config_table.specs.Table.{TableValue}
use Rattle.syndrome_log.specs.declared.Syndrome.{Syndrome}
use Rattle.element_notes.proofs.OffRows.{filter_others}
use Rattle.element_core.specs.Cycle.{State, Input, step, shown_by}
use Rattle.element_core.specs.Run.{Journal, Follows, IsJournal, state_at, input_at, shown_at}
use Rattle.element_core.specs.Syndromes.{Relays, syndromes_at}
use Rattle.element_core.specs.Claims.{is_of_copies}
use Rattle.whole_run.proofs.Accuracy.{Names, syndromes-named}
use Rattle.diagnosis.specs.Suspects.{is_suspect, suspects_of, only_one}
use Rattle.diagnosis.specs.Runs.{still_counts, noted_since, suspects_after, faulty_before, last_faulty}
use Rattle.diagnosis.proofs.Left.{filter-all}
use Rattle.diagnosis_runs.specs.Laws.{FaultyIsSuspect, OnlyOneIsFaulty, AllLeftWithoutFault}

-- ---- what was noted

-- what is noted in a cycle names the one that is faulty in it
named_in : (s : State) (input : Input) (said : Relays) (me : ℕ) → AllByRecursion (Names input.faulty) (syndromes_at (step s input).shown said me)
unfolding step shown_by
named_in s input said me = syndromes-named (step s input).shown said me refl

-- the faulty element of each cycle follows that of the one before
follows_at : (first : Option ℕ) (journal : Journal) (k : ℕ) → IsJournal first journal → k < length journal → Follows (faulty_before first journal k) (input_at journal k).rejoined (input_at journal k).faulty
follows_at first [] k is l = let never : ⊥ = omega arith in absurd never
follows_at first (input ∷ journal) zero is l = is.0
follows_at first (input ∷ journal) (suc zero) is l = follows_at input.faulty journal zero is.1 (omega arith)
follows_at first (input ∷ journal) (suc (suc k)) is l = follows_at input.faulty journal (suc k) is.1 (omega arith)

-- what still counts names it, too
still_named : (before faulty rejoined : Option ℕ) (noted : List Syndrome) → Follows before rejoined faulty → AllByRecursion (Names before) noted → AllByRecursion (Names faulty) (still_counts rejoined noted)
still_named before faulty None noted same a = subst (λ (o : Option ℕ). AllByRecursion (Names o) noted) (sym same) a
still_named before faulty (Some ne) noted same a = tt

-- **all that was noted since the last rejoin names the faulty element**
all_named : (table : TableValue) (first : Option ℕ) (journal : Journal) (said : ℕ → Relays) (me k : ℕ) → IsJournal first journal → k ≤ length journal
    → AllByRecursion (Names (faulty_before first journal k)) (noted_since table journal said me k)
all_named table first journal said me zero is l = tt
all_named table first journal said me (suc k) is l =
    all-append (Names (input_at journal k).faulty) (still_counts (input_at journal k).rejoined (noted_since table journal said me k)) (syndromes_at (shown_at table journal k) (said k) me)
    (still_named (faulty_before first journal k) (input_at journal k).faulty (input_at journal k).rejoined (noted_since table journal said me k)
    (follows_at first journal k is (omega arith)) (all_named table first journal said me k is (omega arith)))
    (named_in (state_at table journal k) (input_at journal k) (said k) me)

-- so in the end it names the one that was faulty last
last_named : (table : TableValue) (first o : Option ℕ) (journal : Journal) (said : ℕ → Relays) (me : ℕ) → IsJournal first journal → last_faulty first journal ≡ o
    → AllByRecursion (Names o) (noted_since table journal said me (length journal))
last_named table first o journal said me is e =
    subst (λ (p : Option ℕ). AllByRecursion (Names p) (noted_since table journal said me (length journal))) e
    (all_named table first journal said me (length journal) is (omega arith))

-- ---- what is left

-- an entry that names an element leaves it
left_by : (s : Syndrome) (f : ℕ) (b : Bool) → is_of_copies s.kind ≡ b → Names (Some f) s → (not b || (f == s.accused || f == s.other)) ≡ true
left_by s f true e names = elim (names e) [
  | inl h ↦ let same : f ≡ s.accused = cc in or_left (f == s.accused) (f == s.other) (eq-eqb f s.accused same)
  | inr h ↦ let same : f ≡ s.other = cc in or_right (f == s.accused) (f == s.other) (eq-eqb f s.other same)
]
left_by s f false e names = refl

-- entries that name it leave it
suspect_named : (f : ℕ) (noted : List Syndrome) → AllByRecursion (Names (Some f)) noted → is_suspect noted f ≡ true
suspect_named f [] a = refl
suspect_named f (s ∷ noted) a = (λ t. left_by s f (is_of_copies s.kind) refl a.0 t && suspect_named f noted a.1 t)

-- an entry that names none leaves all
left_all : (s : Syndrome) (x : ℕ) (b : Bool) → is_of_copies s.kind ≡ b → Names None s → (not b || (x == s.accused || x == s.other)) ≡ true
left_all s x true e names = elim (names e) [ inl h ↦ cc | inr h ↦ cc ]
left_all s x false e names = refl

all_suspect : (x : ℕ) (noted : List Syndrome) → AllByRecursion (Names None) noted → is_suspect noted x ≡ true
all_suspect x [] a = refl
all_suspect x (s ∷ noted) a = (λ t. left_all s x (is_of_copies s.kind) refl a.0 t && all_suspect x noted a.1 t)

-- ---- the other elements

-- a number that is not less and not equal is greater
strictly : (a b : ℕ) → a ≤ b → (a ≡ b → ⊥) → a + 1 ≤ b
strictly a b l away = omega arith

-- the first of them, or a later one
range_by : (from n k : ℕ) (b : Bool) → (from == k) ≡ b → from ≤ k → k < from + suc n → (from + 1 ≤ k → k < from + 1 + n → IsItem (range_with_len (from + 1) n) k)
    → (from ≡ k) ⊎ IsItem (range_with_len (from + 1) n) k
range_by from n k true e low high more = inl (eqb-true from k e)
range_by from n k false e low high more = let away : from ≡ k → ⊥ = eqb-false from k e in inr (more (strictly from k low away) (omega arith))

-- a number below another is among those below it
range_item : (from n k : ℕ) → from ≤ k → k < from + n → IsItem (range_with_len from n) k
range_item from zero k low high = let never : ⊥ = omega arith in absurd never
range_item from (suc n) k low high = range_by from n k (from == k) refl low high (λ l h. range_item (from + 1) n k l h)

-- the suspects are those below the number of elements that are others and that the entries leave
suspects_below : (n me : ℕ) (noted : List Syndrome) → filter (λ s. not (s == me) && is_suspect noted s) (below n) ≡ suspects_of n me noted
suspects_below n me noted = filter_others (λ s. not (s == me) && is_suspect noted s) (is_suspect noted) me n (λ s l. refl)

suspect_in : (n me f : ℕ) (noted : List Syndrome) → f < n → (f ≡ me → ⊥) → is_suspect noted f ≡ true → is_in (suspects_of n me noted) f ≡ true
suspect_in n me f noted l away e =
    let passes : (not (f == me) && is_suspect noted f) ≡ true = (λ t. not (ne_eqb f me away t) && e t) in
    let item = filter_item (λ s. not (s == me) && is_suspect noted s) (below n) f (range_item 0 n f (omega arith) (omega arith)) passes in
    ap (λ xs. is_in xs f) (sym (suspects_below n me noted))
    ∙ item_any (λ y. y == f) (filter (λ s. not (s == me) && is_suspect noted s) (below n)) f item (eq-eqb f f refl)

-- ---- the laws

pub faulty_is_suspect : FaultyIsSuspect
unfolding suspects_after
faulty_is_suspect table first journal said me f is e l away =
    let noted = noted_since table journal said me (length journal) in
    suspect_in table.n me f noted l away (suspect_named f noted (last_named table first (Some f) journal said me is e))

-- the only one of a list with an element is that element
only_that : (xs : List ℕ) (f ne : ℕ) → is_in xs f ≡ true → only_one xs ≡ Some ne → ne ≡ f
only_that [] f ne e h = cc
only_that (x ∷ []) f ne e h = let same : x ≡ ne = cc in sym same ∙ at (x == f) refl e where
  at : (b : Bool) → (x == f) ≡ b → (b || false) ≡ true → x ≡ f
  at true is g = eqb-true x f is
  at false is g = cc
only_that (x ∷ y ∷ more) f ne e h = cc

pub only_one_is_faulty : OnlyOneIsFaulty
only_one_is_faulty table first journal said me f ne is e l away one =
    only_that (suspects_after table journal said me) f ne (faulty_is_suspect table first journal said me f is e l away) one

pub all_left_without_fault : AllLeftWithoutFault
unfolding suspects_after
all_left_without_fault table first journal said me is e =
    let noted = noted_since table journal said me (length journal) in
    let named = last_named table first None journal said me is e in
    (λ t. filter (λ x. all_suspect x noted named t) (others table.n me)) ∙ filter-all (others table.n me)
