-- The live member of a group at an element, among members that stand apart.
use Rattle.std.proofs.Common.{◌≡◌, ℕ, zero, suc, ◌+◌, ◌<◌, ◌≤◌, Bool, true, false, cond, not, List, [], ◌∷◌, length, ap, arith, sym, ◌∙◌, subst, Some, slice_get}
use Rattle.std.specs.Prelude.{◌==◌, ◌||◌, ◌&&◌, nat_lt}
use Rattle.std.specs.List.{AllByRecursion}
use Rattle.std.proofs.lemmas.Bool.{eq-eqb, ne_eqb, eqb-false, ltb-true, and_parts, or_parts, not-true}
use Rattle.ftpp_base.specs.Sets.{has}
use Rattle.ftpp_base.specs.declared.element.Proc.{Proc}
use Rattle.ftpp_base.specs.declared.sets.Set8.{Set8}
use Rattle.ftpp_base.proofs.SetLaws.{has-set_where}
use Rattle.config_table.specs.declared.groups.Group.{Group}
use Rattle.config_table.specs.Groups.{is_live, members_of}
use Rattle.config_table.proofs.ValidTable.{AreApart}
use Rattle.table_update.specs.Updates.{with_masked}
use Rattle.diagnosis.specs.Proposals.{live_index_from, live_index_at}

-- what holds of all holds of the one at a place
at_place : (P : Proc → Type 0) (ps : List Proc) (i : ℕ) (p : Proc) → AllByRecursion P ps → slice_get ps i ≡ Some p → P p
at_place P [] i p a e = cc
at_place P (q ∷ qs) zero p a e = let same : q ≡ p = cc in subst P same a.0
at_place P (q ∷ qs) (suc i) p a e = at_place P qs i p a.1 e

-- the member at the element that is not masked is the one that is found
pub index-found : (masked : Set8) (ne k : ℕ) (ps : List Proc) (i j : ℕ) (p : Proc) → AreApart ps → slice_get ps i ≡ Some p → p.ne ≡ ne → k + i ≡ j → has masked j ≡ false
    → live_index_from masked ne k ps ≡ Some j
index-found masked ne k [] i j p apart e is at free = cc
index-found masked ne k (q ∷ qs) zero j p apart e is at free =
    let same : q ≡ p = cc in
    let here : k ≡ j = omega arith in
    (λ t. cond (eq-eqb q.ne ne (ap (λ r. r.ne) same ∙ is) t && not (has masked (here t))) (Some (here t)) (live_index_from masked ne (k + 1) qs))
    ∙ ap (λ b. cond (not b) (Some j) (live_index_from masked ne (k + 1) qs)) free
index-found masked ne k (q ∷ qs) (suc i) j p apart e is at free =
    let away : q.ne ≡ p.ne → ⊥ = at_place (λ r. q.ne ≡ r.ne → ⊥) qs i p apart.0 e in
    ap (λ b. cond (b && not (has masked k)) (Some k) (live_index_from masked ne (k + 1) qs)) (ne_eqb q.ne ne (λ f. away (f ∙ sym is)))
    ∙ index-found masked ne (k + 1) qs i j p apart.1 e is (omega arith) free

-- one member, found or not
below_by : (masked : Set8) (ne k j : ℕ) (ps : List Proc) (b : Bool) → (live_index_from masked ne (k + 1) ps ≡ Some j → j < k + 1 + length ps)
    → cond b (Some k) (live_index_from masked ne (k + 1) ps) ≡ Some j → j < k + suc (length ps)
below_by masked ne k j ps true more e = let same : k ≡ j = cc in omega arith
below_by masked ne k j ps false more e = let l = more e in omega arith

-- what is found is below the end
index-below : (masked : Set8) (ne k j : ℕ) (ps : List Proc) → live_index_from masked ne k ps ≡ Some j → j < k + length ps
index-below masked ne k j [] e = cc
index-below masked ne k j (p ∷ ps) e = below_by masked ne k j ps (p.ne == ne && not (has masked k)) (index-below masked ne (k + 1) j ps) e

-- so the index of a live member is one of a member
pub live_index-below : (g : Group) (ne m : ℕ) → live_index_at g ne ≡ Some m → m < length (members_of g)
unfolding live_index_at
live_index-below g ne m e = let l = index-below g.masked ne 0 m (members_of g) e in omega arith

-- a live member at the element is the one that is found
pub live-found : (g : Group) (ne i : ℕ) (p : Proc) → AreApart (members_of g) → slice_get (members_of g) i ≡ Some p → p.ne ≡ ne → has g.masked i ≡ false → live_index_at g ne ≡ Some i
unfolding live_index_at
live-found g ne i p apart e is free = index-found g.masked ne 0 (members_of g) i i p apart e is (omega arith) free

-- a live index is that of a member that is not masked
pub live-free : (g : Group) (i : ℕ) → is_live g i ≡ true → (i < length (members_of g)) × (has g.masked i ≡ false)
live-free g i live =
    let h = and_parts (nat_lt i (length (members_of g))) (not (has g.masked i)) live in (ltb-true i (length (members_of g)) h.0, not-true (has g.masked i) h.1)

-- where a member was masked, a live one was live and is another
pub live-before : (g : Group) (m i : ℕ) → length (members_of g) ≤ 4 → is_live (with_masked m g) i ≡ true → (has g.masked i ≡ false) × (i ≡ m → ⊥)
live-before g m i few live =
    let h = live-free (with_masked m g) i live in
    let l : i < length (members_of g) = h.0 in
    let parts = or_parts (has g.masked i) (i == m) (sym (has-set_where (λ j. has g.masked j || j == m) i (omega arith)) ∙ h.1) in
    (parts.0, eqb-false i m parts.1)
