-- The live members of a group are some of its members, in their order.
use Rattle.std.proofs.Common.{◌≡◌, ℕ, zero, suc, ◌+◌, Bool, true, false, cond, not, List, [], ◌∷◌, length, map, refl, arith, sym, ◌∙◌, subst, filter, Contains, Some, slice_get}
use Rattle.std.specs.Prelude.{nat_lt}
use Rattle.std.specs.List.{AllByRecursion, enumerate_from}
use Rattle.std.proofs.lemmas.Bool.{and_parts}
use Rattle.ftpp_base.specs.Sets.{has}
use Rattle.ftpp_base.specs.declared.element.Proc.{Proc}
use Rattle.config_table.specs.declared.groups.Group.{Group}
use Rattle.config_table.specs.Groups.{members_of, live_members, is_unmasked, is_live}
use Rattle.ftpp_base.proofs.Among.{here, there, each, one_of, all-filter}
use Rattle.config_table.proofs.ValidTable.{AreApart}

-- the member of a seat
abbrev member_in : ℕ × Proc → Proc
member_in seat = seat.1

-- the seats that pass a test, as members, from an index on
abbrev seated : (ℕ × Proc → Bool) → ℕ → List Proc → List Proc
seated test k ps = map member_in (filter test (enumerate_from k ps))

-- a seat that passes, or not
all_by : (P : Proc → Type 0) (test : ℕ × Proc → Bool) (k : ℕ) (p : Proc) (ps : List Proc) (b : Bool) → P p → AllByRecursion P (seated test (k + 1) ps)
    → AllByRecursion P (map member_in (cond b ((k, p) ∷ filter test (enumerate_from (k + 1) ps)) (filter test (enumerate_from (k + 1) ps))))
all_by P test k p ps true h a = (h, a)
all_by P test k p ps false h a = a

-- what holds of each member holds of each that is seated
all_seated : (P : Proc → Type 0) (test : ℕ × Proc → Bool) (k : ℕ) (ps : List Proc) → AllByRecursion P ps → AllByRecursion P (seated test k ps)
all_seated P test k [] a = tt
all_seated P test k (p ∷ ps) a = all_by P test k p ps (test (k, p)) a.0 (all_seated P test (k + 1) ps a.1)

-- a seat that passes, or not
apart_by : (test : ℕ × Proc → Bool) (k : ℕ) (p : Proc) (ps : List Proc) (b : Bool) → AllByRecursion (λ q. p.ne ≡ q.ne → ⊥) ps → AreApart (seated test (k + 1) ps)
    → AreApart (map member_in (cond b ((k, p) ∷ filter test (enumerate_from (k + 1) ps)) (filter test (enumerate_from (k + 1) ps))))
apart_by test k p ps true h a = (all_seated (λ q. p.ne ≡ q.ne → ⊥) test (k + 1) ps h, a)
apart_by test k p ps false h a = a

-- members apart are seated apart
apart_seated : (test : ℕ × Proc → Bool) (k : ℕ) (ps : List Proc) → AreApart ps → AreApart (seated test k ps)
apart_seated test k [] a = tt
apart_seated test k (p ∷ ps) a = apart_by test k p ps (test (k, p)) a.0 (apart_seated test (k + 1) ps a.1)

-- what holds of each member holds of each live one
pub all-live : (P : Proc → Type 0) (g : Group) → AllByRecursion P (members_of g) → AllByRecursion P (live_members g)
all-live P g a = all_seated P (is_unmasked g) 0 (members_of g) a

-- the live members of members apart are apart
pub live-apart : (g : Group) → AreApart (members_of g) → AreApart (live_members g)
live-apart g a = apart_seated (is_unmasked g) 0 (members_of g) a

-- a live member is a member
pub live-member : (g : Group) (p : Proc) → Contains (live_members g) p → Contains (members_of g) p
live-member g p c = one_of (Contains (members_of g)) (live_members g) p (all-live (Contains (members_of g)) g (each (Contains (members_of g)) (members_of g) (λ x h. h))) c

-- the first seat passes
seat_by : (test : ℕ × Proc → Bool) (k : ℕ) (p : Proc) (seats : List (ℕ × Proc)) (b : Bool) → test (k, p) ≡ b → test (k, p) ≡ true → Contains (map member_in (cond b ((k, p) ∷ seats) seats)) p
seat_by test k p seats true e h = here p (map member_in seats)
seat_by test k p seats false e h = cc

-- a later seat passes
wider_by : (seat : ℕ × Proc) (seats : List (ℕ × Proc)) (p : Proc) (b : Bool) → Contains (map member_in seats) p → Contains (map member_in (cond b (seat ∷ seats) seats)) p
wider_by seat seats p true c = there seat.1 (map member_in seats) p c
wider_by seat seats p false c = c

-- the member of a seat that passes is seated
seated_at : (test : ℕ × Proc → Bool) (k : ℕ) (ps : List Proc) (i j : ℕ) (p : Proc) → slice_get ps i ≡ Some p → k + i ≡ j → test (j, p) ≡ true → Contains (seated test k ps) p
seated_at test k [] i j p e s h = cc
seated_at test k (q ∷ qs) zero j p e s h =
    let same : q ≡ p = cc in
    let at : j ≡ k = omega arith in
    let passes : test (k, q) ≡ true = (λ t. test (sym at t, same t)) ∙ h in
    subst (Contains (seated test k (q ∷ qs))) same (seat_by test k q (filter test (enumerate_from (k + 1) qs)) (test (k, q)) refl passes)
seated_at test k (q ∷ qs) (suc i) j p e s h =
    wider_by (k, q) (filter test (enumerate_from (k + 1) qs)) p (test (k, q)) (seated_at test (k + 1) qs i j p e (omega arith) h)

-- the member of a live index is a live member
pub live-index : (g : Group) (index : ℕ) (p : Proc) → is_live g index ≡ true → slice_get (members_of g) index ≡ Some p → Contains (live_members g) p
live-index g index p live e =
    seated_at (is_unmasked g) 0 (members_of g) index index p e (omega arith) (and_parts (nat_lt index (length (members_of g))) (not (has g.masked index)) live).1

-- ---- some of them

-- one that is kept, or not
apart_filter_by : (test : Proc → Bool) (p : Proc) (ps : List Proc) (b : Bool) → AllByRecursion (λ q. p.ne ≡ q.ne → ⊥) ps → AreApart (filter test ps) → AreApart (cond b (p ∷ filter test ps) (filter test ps))
apart_filter_by test p ps true h a = (all-filter (λ q. p.ne ≡ q.ne → ⊥) test ps h, a)
apart_filter_by test p ps false h a = a

-- processors apart stay apart where some are left out
pub apart-filter : (test : Proc → Bool) (ps : List Proc) → AreApart ps → AreApart (filter test ps)
apart-filter test [] a = tt
apart-filter test (p ∷ ps) a = apart_filter_by test p ps (test p) a.0 (apart-filter test ps a.1)
