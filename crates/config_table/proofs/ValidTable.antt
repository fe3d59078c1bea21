-- What a valid table says of its groups: their members are in range, each at an element of its own and in no other group, and each number names one group.
use Rattle.std.proofs.Common.{◌≡◌, ℕ, ◌<◌, ◌≤◌, Bool, true, false, cond, not, List, [], ◌∷◌, length, refl, ap, arith, sym, ◌∙◌, subst, find, ◌⊎◌, inl, inr, Contains, Option, Some, None, option_map}
use Rattle.std.specs.Prelude.{◌||◌, ◌==◌, nat_lt}
use Rattle.std.specs.List.{AllByRecursion, list_any}
use Rattle.std.specs.Option.{option_or}
use Rattle.std.proofs.lemmas.Bool.{eqb-true, eqb-false, eq-eqb, ne_eqb, ltb-true, and_parts, or_parts, or_cases, or_left, or_right, not-true, not-false, cond-true, cond-false}
use Rattle.ftpp_base.specs.Lists.{is_in}
use Rattle.ftpp_base.specs.declared.element.Proc.{Proc}
use Rattle.config_table.specs.declared.groups.Group.{Group}
use Rattle.config_table.specs.declared.errors.ConfigError.{ConfigError}
use Rattle.config_table.specs.declared.errors.ConfigError.TheVariants.{Elements, VidOrder, Size, MemberRange, SameElement, SharedProcessor}
use Rattle.config_table.specs.Groups.{same_proc, is_member, members_of}
use Rattle.config_table.specs.Table.{TableValue, is_named, group_named, unless, first_error, follows, repeated_element, first_failing, is_in_range, is_free, group_errors, group_error, groups_error, table_errors, table_error, IsValid}
use Rattle.ftpp_base.proofs.Among.{here, there, each, one_of, weaker, find-passes}
use Rattle.config_table.proofs.Procs.{same_proc-true, same_proc-refl}

-- ---- a list of tests that finds no error

-- where two together have no error, the first has none
pub none_first : (a b : Option ConfigError) → option_or a b ≡ None → a ≡ None
none_first None b e = refl
none_first (Some x) b e = cc

-- and the other has none
pub none_rest : (a b : Option ConfigError) → option_or a b ≡ None → b ≡ None
none_rest None b e = e
none_rest (Some x) b e = cc

-- where there is no first error, there is none
pub no_error : (es : List (Option ConfigError)) → first_error es ≡ None → AllByRecursion (λ e. e ≡ None) es
no_error [] e = tt
no_error (x ∷ xs) e = (none_first x (first_error xs) e, no_error xs (none_rest x (first_error xs) e))

-- a test without an error passed
pub passed : (ok : Bool) (error : ConfigError) → unless ok error ≡ None → ok ≡ true
passed true error e = refl
passed false error e = cc

-- what is not there after a map was not there before
pub unmapped : {A : Type 0} (f : A → ConfigError) (o : Option A) → option_map f o ≡ None → o ≡ None
unmapped f None e = refl
unmapped f (Some x) e = cc

-- one step of a search that finds nothing
none_by : {A : Type 0} (p : A → Bool) (b : Bool) (x : A) (xs : List A) → p x ≡ b → cond b (Some x) (find p xs) ≡ None → (find p xs ≡ None → AllByRecursion (λ y. p y ≡ false) xs) → AllByRecursion (λ y. p y ≡ false) (x ∷ xs)
none_by p true x xs e is rec = cc
none_by p false x xs e is rec = (e, rec is)

-- where nothing is found, nothing passes
pub find-none : {A : Type 0} (p : A → Bool) (xs : List A) → find p xs ≡ None → AllByRecursion (λ y. p y ≡ false) xs
find-none p [] e = tt
find-none p (x ∷ xs) e = none_by p (p x) x xs refl e (find-none p xs)

-- where no member fails the test, each passes it
pub not_failing : (ok : Proc → Bool) (g : Group) → first_failing ok g ≡ None → AllByRecursion (λ p. ok p ≡ true) (members_of g)
not_failing ok g e = weaker (λ p. not (ok p) ≡ false) (λ p. ok p ≡ true) (λ p h. not-false (ok p) h) (members_of g) (find-none (λ p. not (ok p)) (members_of g) e)

-- ---- one group after the earlier ones

-- What a group of a valid table keeps, after the earlier groups, the nearest first.
pub record IsGroupValid (n : ℕ) (earlier : List Group) (g : Group) : Type 0 where
  pub ascends : follows earlier g ≡ true
  pub size : length (members_of g) ≤ 4
  pub in_range : AllByRecursion (λ p. is_in_range n p ≡ true) (members_of g)
  pub apart : repeated_element [] (members_of g) ≡ None
  pub free : AllByRecursion (λ p. is_free earlier p ≡ true) (members_of g)

-- a size that a group may have is at most 4
pub few : (n : ℕ) → is_in (1 ∷ 3 ∷ 4 ∷ []) n ≡ true → n ≤ 4
few n e = elim (or_cases (1 == n) _ e) [
  | inl a ↦ let l = eqb-true 1 n a in omega arith
  | inr r ↦ elim (or_cases (3 == n) _ r) [
    | inl a ↦ let l = eqb-true 3 n a in omega arith
    | inr s ↦ elim (or_cases (4 == n) false s) [
      | inl a ↦ let l = eqb-true 4 n a in omega arith
      | inr f ↦ cc
    ]
  ]
]

-- a group without an error keeps these
group_valid : (n : ℕ) (earlier : List Group) (g : Group) → group_error n earlier g ≡ None → IsGroupValid n earlier g
unfolding group_error
group_valid n earlier g e =
    let h = no_error (group_errors n earlier g) e in
    record {
      ascends = passed (follows earlier g) (VidOrder g.vid) h.1.0;
      size = few (length (members_of g)) (passed (is_in (1 ∷ 3 ∷ 4 ∷ []) (length (members_of g))) (Size g.vid (length (members_of g))) h.1.1.0);
      in_range = not_failing (is_in_range n) g (unmapped (MemberRange g.vid) (first_failing (is_in_range n) g) h.1.1.1.0);
      apart = unmapped (SameElement g.vid) (repeated_element [] (members_of g)) h.1.1.1.1.0;
      free = not_failing (is_free earlier) g (unmapped (SharedProcessor g.vid) (first_failing (is_free earlier) g) h.1.1.1.1.1.0);
    }

-- all groups, the earlier ones nearest first
abbrev pub AreGroupsValid : ℕ → List Group → List Group → Type 0
AreGroupsValid n earlier [] = Unit {0}
AreGroupsValid n earlier (g ∷ gs) = IsGroupValid n earlier g × AreGroupsValid n (g ∷ earlier) gs

-- groups without an error keep them one after another
groups_valid : (n : ℕ) (earlier groups : List Group) → groups_error n earlier groups ≡ None → AreGroupsValid n earlier groups
groups_valid n earlier [] e = tt
groups_valid n earlier (g ∷ gs) e = (
  group_valid n earlier g (none_first (group_error n earlier g) (groups_error n (g ∷ earlier) gs) e),
  groups_valid n (g ∷ earlier) gs (none_rest (group_error n earlier g) (groups_error n (g ∷ earlier) gs) e),
)

-- a valid table passes all of them
pub valid_tests : (table : TableValue) → IsValid table → AllByRecursion (λ e. e ≡ None) (table_errors table)
unfolding table_error
valid_tests table e = no_error (table_errors table) e

-- the groups of a valid table
pub groups-valid : (table : TableValue) → IsValid table → AreGroupsValid table.n [] table.groups
groups-valid table e = groups_valid table.n [] table.groups (valid_tests table e).1.1.0

-- the test passes 4 and 5 only
size_by : (n : ℕ) → (n == 4 || n == 5) ≡ true → (n ≡ 4) ⊎ (n ≡ 5)
size_by n e = elim (or_cases (n == 4) (n == 5) e) [
  | inl a ↦ inl (eqb-true n 4 a)
  | inr a ↦ inr (eqb-true n 5 a)
]

-- a valid table has four or five elements
pub size-valid : (table : TableValue) → IsValid table → (table.n ≡ 4) ⊎ (table.n ≡ 5)
size-valid table e = size_by table.n (passed (table.n == 4 || table.n == 5) (Elements table.n) (valid_tests table e).0)

-- so they are at most five
at_most_five : (n : ℕ) → (n ≡ 4) ⊎ (n ≡ 5) → n ≤ 5
at_most_five n (inl e) = omega arith
at_most_five n (inr e) = omega arith

-- a valid table has at most five elements
pub valid-n : (table : TableValue) → IsValid table → table.n ≤ 5
valid-n table e = at_most_five table.n (size-valid table e)

-- ---- each number names one group

-- each later group has a greater number than the one before them
pub ascending : (n : ℕ) (before : Group) (earlier groups : List Group) → AreGroupsValid n (before ∷ earlier) groups → AllByRecursion (λ k. before.vid < k.vid) groups
ascending n before earlier [] s = tt
ascending n before earlier (g ∷ gs) s =
    let l : before.vid < g.vid = ltb-true before.vid g.vid s.0.ascends in
    (l, weaker (λ k. g.vid < k.vid) (λ k. before.vid < k.vid) (λ k h. omega arith) gs (ascending n g (before ∷ earlier) gs s.1))

-- each group of the list is the one that its number names
abbrev NamesItself : List Group → Group → Type 0
NamesItself groups h = find (is_named h.vid) groups ≡ Some h

-- each group is found by its number
names_itself : (n : ℕ) (earlier groups : List Group) → AreGroupsValid n earlier groups → AllByRecursion (NamesItself groups) groups
names_itself n earlier [] s = tt
names_itself n earlier (g ∷ gs) s = (
  cond-true (g.vid == g.vid) (Some g) (find (is_named g.vid) gs) (eq-eqb g.vid g.vid refl),
  each (NamesItself (g ∷ gs)) gs (λ h c.
      let far : g.vid < h.vid = one_of (λ k. g.vid < k.vid) gs h (ascending n g earlier gs s.1) c in
      cond-false (g.vid == h.vid) (Some g) (find (is_named h.vid) gs) (ne_eqb g.vid h.vid (λ e. omega arith))
      ∙ one_of (NamesItself gs) gs h (names_itself n (g ∷ earlier) gs s.1) c),
)

-- a group of a valid table is the one that its number names
pub named-itself : (table : TableValue) → IsValid table → (h : Group) → Contains table.groups h → group_named table h.vid ≡ Some h
named-itself table valid h c = one_of (NamesItself table.groups) table.groups h (names_itself table.n [] table.groups (groups-valid table valid)) c

-- a named group is in the table and has the number
pub named-there : (table : TableValue) (vid : ℕ) (g : Group) → group_named table vid ≡ Some g → (Contains table.groups g) × (g.vid ≡ vid)
named-there table vid g e = let h = find-passes (is_named vid) table.groups g e in (h.0, eqb-true g.vid vid h.1)

-- ---- what a group of a valid table has

-- each group keeps its clauses, after some earlier groups
each_valid : (n : ℕ) (earlier groups : List Group) → AreGroupsValid n earlier groups → AllByRecursion (λ g. (before : List Group) × IsGroupValid n before g) groups
each_valid n earlier [] s = tt
each_valid n earlier (g ∷ gs) s = ((earlier, s.0), each_valid n (g ∷ earlier) gs s.1)

-- so does a group of a valid table
valid_at : (table : TableValue) → IsValid table → (g : Group) → Contains table.groups g → (before : List Group) × IsGroupValid table.n before g
valid_at table valid g c = one_of (λ h. (before : List Group) × IsGroupValid table.n before h) table.groups g (each_valid table.n [] table.groups (groups-valid table valid)) c

-- it has at most four members
pub members-few : (table : TableValue) → IsValid table → (g : Group) → Contains table.groups g → length (members_of g) ≤ 4
members-few table valid g c = (valid_at table valid g c).1.size

-- its members are in range
pub members-range : (table : TableValue) → IsValid table → (g : Group) → Contains table.groups g → (p : Proc) → Contains (members_of g) p → (p.ne < table.n) × (p.port < 8)
members-range table valid g c p m =
    let e = one_of (λ q. is_in_range table.n q ≡ true) (members_of g) p (valid_at table valid g c).1.in_range m in
    let h = and_parts (nat_lt p.ne table.n) (nat_lt p.port 8) e in
    (ltb-true p.ne table.n h.0, ltb-true p.port 8 h.1)

-- Processors that stand at elements of their own.
abbrev pub AreApart : List Proc → Type 0
AreApart [] = Unit {0}
AreApart (p ∷ ps) = AllByRecursion (λ q. p.ne ≡ q.ne → ⊥) ps × AreApart ps

-- an element that was seen before is an error
not_repeated : (b : Bool) (seen : List ℕ) (p : Proc) (ps : List Proc) → is_in seen p.ne ≡ b → cond b (Some p.ne) (repeated_element (p.ne ∷ seen) ps) ≡ None
    → (is_in seen p.ne ≡ false) × (repeated_element (p.ne ∷ seen) ps ≡ None)
not_repeated true seen p ps e is = cc
not_repeated false seen p ps e is = (e, is)

-- without such an error all stand apart, and none was seen before
apart_from : (seen : List ℕ) (ps : List Proc) → repeated_element seen ps ≡ None → AllByRecursion (λ q. is_in seen q.ne ≡ false) ps × AreApart ps
apart_from seen [] e = (tt, tt)
apart_from seen (p ∷ ps) e =
    let h = not_repeated (is_in seen p.ne) seen p ps refl e in
    let rec = apart_from (p.ne ∷ seen) ps h.1 in
    let old = weaker (λ q. is_in (p.ne ∷ seen) q.ne ≡ false) (λ q. is_in seen q.ne ≡ false) (λ q f. (or_parts (p.ne == q.ne) (is_in seen q.ne) f).1) ps rec.0 in
    let own = weaker (λ q. is_in (p.ne ∷ seen) q.ne ≡ false) (λ q. p.ne ≡ q.ne → ⊥) (λ q f. eqb-false p.ne q.ne (or_parts (p.ne == q.ne) (is_in seen q.ne) f).0) ps rec.0 in
    ((h.0, old), (own, rec.1))

-- its members stand at elements of their own
pub members-apart : (table : TableValue) → IsValid table → (g : Group) → Contains table.groups g → AreApart (members_of g)
members-apart table valid g c = (apart_from [] (members_of g) (valid_at table valid g c).1.apart).1

-- ---- no processor is in two groups

-- a member that stands in the list is found
pub member_found : (g : Group) (p : Proc) → is_member g p ≡ true → Contains (members_of g) p
member_found g p e = by (members_of g) e where
  at : (b : Bool) (q : Proc) (qs : List Proc) → same_proc p q ≡ b → (b || list_any (same_proc p) qs) ≡ true → (list_any (same_proc p) qs ≡ true → Contains qs p) → Contains (q ∷ qs) p
  at true q qs is h rec = subst (λ (r : Proc). Contains (r ∷ qs) p) (same_proc-true p q is) (here p qs)
  at false q qs is h rec = there q qs p (rec h)

  by : (qs : List Proc) → list_any (same_proc p) qs ≡ true → Contains qs p
  by [] h = cc
  by (q ∷ qs) h = at (same_proc p q) q qs refl h (by qs)

-- no group of a list has the processor
abbrev NoneHas : Proc → List Group → Type 0
NoneHas p groups = AllByRecursion (λ k. is_member k p ≡ false) groups

-- none of the later groups has a member of an earlier one
none_later : (n : ℕ) (g : Group) (p : Proc) → Contains (members_of g) p → (earlier groups : List Group)
    → ((q : Proc) → list_any (λ h. is_member h q) earlier ≡ false → is_member g q ≡ false) → is_member g p ≡ true → AreGroupsValid n earlier groups → NoneHas p groups
none_later n g p m earlier [] among has s = tt
none_later n g p m earlier (k ∷ ks) among has s = (
  at (is_member k p) refl,
  none_later n g p m (k ∷ earlier) ks (λ q h. among q (or_parts (is_member k q) (list_any (λ h. is_member h q) earlier) h).1) has s.1,
) where
  at : (b : Bool) → is_member k p ≡ b → b ≡ false
  at true e =
      let free : is_free earlier p ≡ true = one_of (λ q. is_free earlier q ≡ true) (members_of k) p s.0.free (member_found k p e) in
      let no : is_member g p ≡ false = among p (not-true (list_any (λ h. is_member h p) earlier) free) in cc
  at false e = refl

-- a group of another number does not have the processor
abbrev Elsewhere : ℕ → Proc → Group → Type 0
Elsewhere vid p h = (h.vid ≡ vid → ⊥) → is_member h p ≡ false

-- whether a processor is in one of some groups
abbrev is_taken : List Group → Proc → Bool
is_taken groups p = list_any (λ h. is_member h p) groups

-- one step: the group is found here, or later
free_by : (vid n : ℕ) (g : Group) (p : Proc) (earlier : List Group) (h : Group) (hs : List Group) (b : Bool) → cond b (Some h) (find (is_named vid) hs) ≡ Some g → Contains (members_of g) p
    → IsGroupValid n earlier h → (find (is_named vid) hs ≡ Some g → is_taken (h ∷ earlier) p ≡ false) → is_taken earlier p ≡ false
free_by vid n g p earlier h hs true found m s rec =
    let same : h ≡ g = cc in
    not-true (is_taken earlier p) (one_of (λ q. is_free earlier q ≡ true) (members_of h) p s.free (subst (λ (k : Group). Contains (members_of k) p) (sym same) m))
free_by vid n g p earlier h hs false found m s rec = (or_parts (is_member h p) (is_taken earlier p) (rec found)).1

-- a member of a later group is in none of the earlier
free_of : (n vid : ℕ) (g : Group) (p : Proc) (earlier groups : List Group) → Contains (members_of g) p → find (is_named vid) groups ≡ Some g → AreGroupsValid n earlier groups
    → is_taken earlier p ≡ false
free_of n vid g p earlier [] m e s = cc
free_of n vid g p earlier (h ∷ hs) m e s = free_by vid n g p earlier h hs (h.vid == vid) e m s.0 (λ found. free_of n vid g p (h ∷ earlier) hs m found s.1)

-- one step: the group is found here, or later
else_by : (n vid : ℕ) (g : Group) (p : Proc) (earlier : List Group) (h : Group) (hs : List Group) (b : Bool) → (h.vid == vid) ≡ b → cond b (Some h) (find (is_named vid) hs) ≡ Some g
    → is_member g p ≡ true → Contains (members_of g) p → AreGroupsValid n (h ∷ earlier) hs → (find (is_named vid) hs ≡ Some g → AllByRecursion (Elsewhere vid p) hs) → AllByRecursion (Elsewhere vid p) (h ∷ hs)
else_by n vid g p earlier h hs true is found has m s rec =
    let same : h ≡ g = cc in
    let later = none_later n h p (subst (λ (k : Group). Contains (members_of k) p) (sym same) m) (h ∷ earlier) hs (λ q f. (or_parts (is_member h q) (is_taken earlier q) f).0)
    (ap (λ (k : Group). is_member k p) same ∙ has) s in
    ((λ wrong. absurd (wrong (eqb-true h.vid vid is))), weaker (λ k. is_member k p ≡ false) (Elsewhere vid p) (λ k f wrong. f) hs later)
else_by n vid g p earlier h hs false is found has m s rec =
    ((λ wrong. (or_parts (is_member h p) (is_taken earlier p) (free_of n vid g p (h ∷ earlier) hs m found s)).0), rec found)

-- no group of another number has a member of the group that is found
none_else : (n vid : ℕ) (g : Group) (p : Proc) (earlier groups : List Group) → is_member g p ≡ true → Contains (members_of g) p → find (is_named vid) groups ≡ Some g → AreGroupsValid n earlier groups
    → AllByRecursion (Elsewhere vid p) groups
none_else n vid g p earlier [] has m e s = tt
none_else n vid g p earlier (h ∷ hs) has m e s = else_by n vid g p earlier h hs (h.vid == vid) refl e has m s.1 (λ found. none_else n vid g p (h ∷ earlier) hs has m found s.1)

-- each of some processors is found among them
found_member : (p : Proc) (ps : List Proc) → AllByRecursion (λ q. q ≡ p → list_any (same_proc p) ps ≡ true) ps
found_member p [] = tt
found_member p (q ∷ qs) = (
  (λ e. or_left (same_proc p q) (list_any (same_proc p) qs) (ap (same_proc p) e ∙ same_proc-refl p)),
  weaker (λ r. r ≡ p → list_any (same_proc p) qs ≡ true) (λ r. r ≡ p → list_any (same_proc p) (q ∷ qs) ≡ true) (λ r h e. or_right (same_proc p q) (list_any (same_proc p) qs) (h e)) qs (found_member p qs),
)

-- a member of a group is a member
pub is_member-contains : (g : Group) (p : Proc) → Contains (members_of g) p → is_member g p ≡ true
is_member-contains g p m = one_of (λ q. q ≡ p → is_member g p ≡ true) (members_of g) p (found_member p (members_of g)) m refl

-- a member of a group of a valid table is in no other
pub members-elsewhere : (table : TableValue) → IsValid table → (vid : ℕ) (g : Group) (p : Proc) → group_named table vid ≡ Some g → Contains (members_of g) p
    → (h : Group) → Contains table.groups h → (h.vid ≡ vid → ⊥) → is_member h p ≡ false
members-elsewhere table valid vid g p named m h c wrong =
    one_of (Elsewhere vid p) table.groups h (none_else table.n vid g p [] table.groups (is_member-contains g p m) m named (groups-valid table valid)) c wrong

-- so none of the members of another group is that processor
pub members-others : (table : TableValue) → IsValid table → (vid : ℕ) (g : Group) (p : Proc) → group_named table vid ≡ Some g → Contains (members_of g) p
    → (h : Group) → Contains table.groups h → (h.vid ≡ vid → ⊥) → AllByRecursion (λ q. same_proc q p ≡ false) (members_of h)
members-others table valid vid g p named m h c wrong = each (λ q. same_proc q p ≡ false) (members_of h) (λ q d. at q d (same_proc q p) refl) where
  at : (q : Proc) → Contains (members_of h) q → (b : Bool) → same_proc q p ≡ b → b ≡ false
  at q d true e =
      let no : is_member h p ≡ false = members-elsewhere table valid vid g p named m h c wrong in
      let yes : is_member h p ≡ true = is_member-contains h p (subst (λ (r : Proc). Contains (members_of h) r) (same_proc-true q p e) d) in cc
  at q d false e = refl
