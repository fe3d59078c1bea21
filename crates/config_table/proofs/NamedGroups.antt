-- What the groups of a valid table have: they ascend, each member is of one group only, and live members stand apart and are there.
use Rattle.std.proofs.Common.{◌≡◌, ◌≢◌, ℕ, ◌<◌, Bool, true, false, cond, List, [], ◌∷◌, refl, ap, sym, ◌∙◌, Contains}
use Rattle.std.specs.Prelude.{Option, Some, None, option_map, unwrap_or, find, filter, ◌||◌, ◌==◌}
use Rattle.std.specs.List.{AllByRecursion}
use Rattle.std.proofs.lemmas.Bool.{eqb-true, eqb-false, eq-eqb, ne_eqb, or_from, or_left}
use Rattle.ftpp_base.specs.Lists.{is_in}
use Rattle.ftpp_base.specs.declared.element.Proc.{Proc}
use Rattle.ftpp_base.proofs.Items.{item_contains, contains_item}
use Rattle.ftpp_base.proofs.Among.{each, all-both, find-only}
use Rattle.config_table.specs.declared.groups.Group.{Group}
use Rattle.config_table.specs.Groups.{members_of, live_members, elements_of, is_member}
use Rattle.config_table.specs.Table.{TableValue, IsValid, group_named}
pub use Rattle.config_table.specs.Bounds.{InRange}
use Rattle.config_table.proofs.ValidTable.{AreGroupsValid, groups-valid, ascending, named-itself, named-there, members-range, AreApart, members-apart, is_member-contains, members-elsewhere}
use Rattle.config_table.proofs.LiveMembers.{live-apart, all-live}

-- ---- members at elements of their own

-- the members of each group of a valid table stand apart
pub AreApart-groups : (table : TableValue) → IsValid table → AllByRecursion (λ g. AreApart (members_of g)) table.groups
AreApart-groups table valid = each (λ g. AreApart (members_of g)) table.groups (members-apart table valid)

-- so do the live members of a group that is named
pub AreApart-named : (table : TableValue) (vid : ℕ) (g : Group) → IsValid table → group_named table vid ≡ Some g → AreApart (live_members g)
AreApart-named table vid g valid named = live-apart g (members-apart table valid g (named-there table vid g named).0)

-- where a number may name a group
apart_by : (table : TableValue) (vid : ℕ) (o : Option Group) → IsValid table → group_named table vid ≡ o → AreApart (unwrap_or (option_map live_members o) [])
apart_by table vid None valid e = tt
apart_by table vid (Some g) valid e = AreApart-named table vid g valid e

-- the live members of the group of a number stand apart
pub AreApart-found : (table : TableValue) (vid : ℕ) → IsValid table → AreApart (unwrap_or (option_map live_members (group_named table vid)) [])
AreApart-found table vid valid = apart_by table vid (group_named table vid) valid refl

-- ---- members in range

-- the live members of a group that is named are there
pub InRange-named : (table : TableValue) (vid : ℕ) (g : Group) → IsValid table → group_named table vid ≡ Some g → AllByRecursion (InRange table.n) (live_members g)
InRange-named table vid g valid named =
    all-live (InRange table.n) g
    (each (InRange table.n) (members_of g) (λ p m.
    let h = members-range table valid g (named-there table vid g named).0 p m in
    record { ne = h.0; port = h.1 }))

-- ---- the elements of those that a test keeps

-- an element is not among one more of another element
absent_if : (b : Bool) (p : Proc) (ps : List Proc) (x : ℕ) → p.ne ≢ x → is_in (elements_of ps) x ≡ false → is_in (elements_of (cond b (p ∷ ps) ps)) x ≡ false
absent_if true p ps x away e = or_from (p.ne == x) (is_in (elements_of ps) x) (ne_eqb p.ne x away) e
absent_if false p ps x away e = e

-- an element that no member stands at is not among those kept
absent_all : (test : Proc → Bool) (ps : List Proc) (x : ℕ) → AllByRecursion (λ q. x ≢ q.ne) ps → is_in (elements_of (filter test ps)) x ≡ false
absent_all test [] x a = refl
absent_all test (p ∷ ps) x a = absent_if (test p) p (filter test ps) x (λ e. a.0 (sym e)) (absent_all test ps x a.1)

-- a member is among those kept where the test passes it
own_if : (b : Bool) (p : Proc) (ps : List Proc) → is_in (elements_of ps) p.ne ≡ false → is_in (elements_of (cond b (p ∷ ps) ps)) p.ne ≡ b
own_if true p ps e = or_left (p.ne == p.ne) (is_in (elements_of ps) p.ne) (eq-eqb p.ne p.ne refl)
own_if false p ps e = e

-- one of another element makes no difference
later_if : (b : Bool) (p : Proc) (ps : List Proc) (x : ℕ) → p.ne ≢ x → is_in (elements_of (cond b (p ∷ ps) ps)) x ≡ is_in (elements_of ps) x
later_if true p ps x away = ap (λ c. c || is_in (elements_of ps) x) (ne_eqb p.ne x away)
later_if false p ps x away = refl

-- of members that stand apart, the element of one is among those kept where the test passes it
pub elements-kept : (test : Proc → Bool) (ps : List Proc) → AreApart ps → AllByRecursion (λ p. is_in (elements_of (filter test ps)) p.ne ≡ test p) ps
elements-kept test [] a = tt
elements-kept test (p ∷ ps) a = (
  own_if (test p) p (filter test ps) (absent_all test ps p.ne a.0),
  all-both (λ q. p.ne ≢ q.ne) (λ q. is_in (elements_of (filter test ps)) q.ne ≡ test q) (λ q. is_in (elements_of (filter test (p ∷ ps))) q.ne ≡ test q) ps
      (λ q away e. later_if (test p) p (filter test ps) q.ne away ∙ e) a.0 (elements-kept test ps a.1),
)

-- ---- groups in order

-- each number is less than the later ones
abbrev pub Ascending : List Group → Type 0
Ascending [] = Unit {0}
Ascending (g ∷ gs) = AllByRecursion (λ h. g.vid < h.vid) gs × Ascending gs

-- groups without an error ascend
ascend_by : (n : ℕ) (earlier gs : List Group) → AreGroupsValid n earlier gs → Ascending gs
ascend_by n earlier [] s = tt
ascend_by n earlier (g ∷ gs) s = (ascending n g earlier gs s.1, ascend_by n (g ∷ earlier) gs s.1)

-- the groups of a valid table ascend
pub Ascending-valid : (table : TableValue) → IsValid table → Ascending table.groups
Ascending-valid table valid = ascend_by table.n [] table.groups (groups-valid table valid)

-- ---- processors in one group only

-- the group of a processor, among some groups
abbrev pub IsGroupOf : List Group → Group → Type 0
IsGroupOf gs g = AllByRecursion (λ p. find (λ h. is_member h p) gs ≡ Some g) (members_of g)

-- groups that have one processor have one number, and so are one
one_group : (b : Bool) (table : TableValue) (g h : Group) (p : Proc) → IsValid table → Contains table.groups g → Contains table.groups h
    → Contains (members_of g) p → is_member h p ≡ true → (h.vid == g.vid) ≡ b → h ≡ g
one_group true table g h p valid here there m has e =
    let one : group_named table h.vid ≡ Some h = named-itself table valid h there in
    let other : group_named table g.vid ≡ Some g = named-itself table valid g here in
    let same : Some h ≡ Some g = sym one ∙ ap (group_named table) (eqb-true h.vid g.vid e) ∙ other in cc
one_group false table g h p valid here there m has e =
    let no : is_member h p ≡ false = members-elsewhere table valid g.vid g p (named-itself table valid g here) m h there (eqb-false h.vid g.vid e) in cc

-- in a valid table the group of a member is its own
pub IsGroupOf-valid : (table : TableValue) → IsValid table → AllByRecursion (IsGroupOf table.groups) table.groups
IsGroupOf-valid table valid =
    each (IsGroupOf table.groups) table.groups (λ g here.
    each (λ p. find (λ h. is_member h p) table.groups ≡ Some g) (members_of g) (λ p m.
    find-only (λ h. is_member h p) table.groups g (contains_item table.groups g here) (is_member-contains g p m)
    (λ h i has. one_group (h.vid == g.vid) table g h p valid here (item_contains table.groups h i) m has refl)))
