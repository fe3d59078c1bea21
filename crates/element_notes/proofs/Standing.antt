-- Where some live members stand: gathered one after another, and those that are not admitted.
use Rattle.std.proofs.Common.{◌≡◌, ℕ, ◌+◌, ◌<◌, ◌≤◌, Bool, true, false, cond, List, [], ◌∷◌, ◌++◌, length, drop, get_or, refl, ap, sym, ◌∙◌, arith, not}
use Rattle.std.specs.Prelude.{◌==◌, ◌&&◌, ◌||◌, filter, Some, None, option_map, unwrap_or}
use Rattle.std.proofs.lemmas.Bool.{eqb-true}
use Rattle.std.proofs.lemmas.Bool.Decides.{nat_tests}
use Rattle.std.proofs.lemmas.List.{drop_all}
use Rattle.std.proofs.Math.Bool.{or-false}
use Rattle.ftpp_base.specs.Sets.{has}
use Rattle.ftpp_base.specs.declared.element.Proc.{Proc}
use Rattle.ftpp_base.specs.declared.sets.Set8.{Set8}
use Rattle.config_table.specs.declared.groups.Group.{Group}
use Rattle.config_table.specs.Groups.{live_members}
use Rattle.config_table.specs.Table.{TableValue, group_named}
use Rattle.config_table.specs.Members.{unmasked_from}
use Rattle.config_table.proofs.Unmasked.{unmasked_more}
use Rattle.config_table.specs.Members.{senders}
use Rattle.config_table.specs.Members.{stands_at}
use Rattle.element_notes.proofs.RelaySets.{no_elements, has_none}

-- ---- one member more

-- whether one of the live members from an index on that pass stands at an element
abbrev pub listed : (Proc → Bool) → Set8 → ℕ → List Proc → ℕ → Bool
listed test masked i members k = stands_at (filter test (unmasked_from masked i members)) k

seat : (b t : Bool) (test : Proc → Bool) (p : Proc) (rest : List Proc) (k : ℕ) → test p ≡ t
    → stands_at (filter test (cond b (p ∷ []) [] ++ rest)) k ≡ (((b && t) && p.ne == k) || stands_at (filter test rest) k)
seat true true test p rest k e = ap (λ c. stands_at (cond c (p ∷ filter test rest) (filter test rest)) k) e
seat true false test p rest k e = ap (λ c. stands_at (cond c (p ∷ filter test rest) (filter test rest)) k) e
seat false t test p rest k e = refl

listed_more : (test : Proc → Bool) (masked : Set8) (i : ℕ) (members : List Proc) (d : Proc) (k : ℕ) → i < length members
    → listed test masked i (drop i members) k
    ≡ (((not (has masked i) && test (get_or members i d)) && (get_or members i d).ne == k) || listed test masked (i + 1) (drop (i + 1) members) k)
listed_more test masked i members d k l =
    ap (λ ps. stands_at (filter test ps) k) (unmasked_more masked i members d l)
    ∙ seat (not (has masked i)) (test (get_or members i d)) test (get_or members i d) (unmasked_from masked (i + 1) (drop (i + 1) members)) k refl

same_number : (j k : ℕ) → (j == k) ≡ (k == j)
same_number j k = grind (arith, nat_tests)

regroup : (a b c : Bool) → ((a || b) || c) ≡ (a || (b || c))
regroup true b c = refl
regroup false b c = refl

-- What the set has, and what is to come, are all.
abbrev pub Stands : (Proc → Bool) → Set8 → List Proc → ℕ → Set8 → Type 0
Stands test masked members i set = (k : ℕ) → k < 8 → (has set k || listed test masked i (drop i members) k) ≡ listed test masked 0 members k

pub stands_none : (test : Proc → Bool) (masked : Set8) (members : List Proc) → Stands test masked members 0 no_elements
stands_none test masked members k l = ap (λ b. b || listed test masked 0 members k) (has_none k)

pub stands_more : (test : Proc → Bool) (masked : Set8) (members : List Proc) (i : ℕ) (set more : Set8) (d : Proc) (b : Bool) → i < length members
    → Stands test masked members i set → b ≡ (not (has masked i) && test (get_or members i d))
    → ((k : ℕ) → k < 8 → has more k ≡ (has set k || (b && k == (get_or members i d).ne))) → Stands test masked members (i + 1) more
stands_more test masked members i set more d b l before is now k low =
    let p = get_or members i d in
    let later = listed test masked (i + 1) (drop (i + 1) members) k in
    ap (λ c. c || later) (now k low)
    ∙ regroup (has set k) (b && k == p.ne) later
    ∙ (λ t. has set k || ((is t && same_number k p.ne t) || later))
    ∙ ap (λ c. has set k || c) (sym (listed_more test masked i members d k l))
    ∙ before k low

pub stands_all : (test : Proc → Bool) (masked : Set8) (members : List Proc) (i : ℕ) (set : Set8) → length members ≤ i → Stands test masked members i set
    → (k : ℕ) → k < 8 → has set k ≡ listed test masked 0 members k
stands_all test masked members i set l all k low =
    sym (or-false (has set k)) ∙ (λ t. has set k || listed test masked i (sym (drop_all i members l) t) k) ∙ all k low

-- ---- of a group of the table

pub of_group : (test : Proc → Bool) (table : TableValue) (vid : ℕ) (g : Group) (masked : Set8) (members : List Proc) (k : ℕ)
    → Some g ≡ group_named table vid → masked ≡ g.masked → members ≡ g.members.items
    → listed test masked 0 members k ≡ stands_at (filter test (senders table vid)) k
of_group test table vid g masked members k named same are =
    (λ t. listed test (same t) 0 (are t) k) ∙ ap (λ o. stands_at (filter test (unwrap_or (option_map live_members o) [])) k) named

pub of_none : (test : Proc → Bool) (table : TableValue) (vid : ℕ) (k : ℕ) → None ≡ group_named table vid
    → has no_elements k ≡ stands_at (filter test (senders table vid)) k
of_none test table vid k named = has_none k ∙ ap (λ o. stands_at (filter test (unwrap_or (option_map live_members o) [])) k) named

-- ---- those that are not admitted

one_by : (b here c x r : Bool) → (here ≡ true → b ≡ c) → x ≡ (r && c) → cond b (here || x) x ≡ ((here || r) && c)
one_by true true c x r same e = same refl
one_by true false c x r same e = e
one_by false true true x r same e = let never : false ≡ true = same refl in cc
one_by false true false x r same e = e ∙ none r where
  none : (q : Bool) → (q && false) ≡ false
  none true = refl
  none false = refl
one_by false false c x r same e = e

kept_by : (b : Bool) (p : Proc) (rest : List Proc) (k : ℕ) → stands_at (cond b (p ∷ rest) rest) k ≡ cond b (p.ne == k || stands_at rest k) (stands_at rest k)
kept_by true p rest k = refl
kept_by false p rest k = refl

-- members at an element that is not in the set
pub left_out : (admitted : Set8) (k : ℕ) (ps : List Proc)
    → stands_at (filter (λ proc. not (has admitted proc.ne)) ps) k ≡ (stands_at ps k && not (has admitted k))
left_out admitted k [] = refl
left_out admitted k (p ∷ ps) =
    kept_by (not (has admitted p.ne)) p (filter (λ proc. not (has admitted proc.ne)) ps) k
    ∙ one_by (not (has admitted p.ne)) (p.ne == k) (not (has admitted k)) (stands_at (filter (λ proc. not (has admitted proc.ne)) ps) k) (stands_at ps k)
    (λ e. ap (λ j. not (has admitted j)) (eqb-true p.ne k e)) (left_out admitted k ps)
