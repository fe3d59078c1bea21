-- The live member at an element, as the members of a group are gone through, and the admitted one.
use Rattle.std.proofs.Common.{◌≡◌, ℕ, ◌+◌, ◌<◌, Bool, true, false, cond, List, [], ◌∷◌, length, get_or, drop, refl, ap, sym, ◌∙◌, map, not}
use Rattle.std.specs.Prelude.{Option, Some, None, filter, ◌==◌}
use Rattle.std.specs.List.{enumerate_from}
use Rattle.std.proofs.lemmas.Bool.{eqb-true, ne_eqb}
use Rattle.std.proofs.lemmas.List.{drop_more}
use Rattle.ftpp_base.specs.declared.element.Proc.{Proc}
use Rattle.ftpp_base.specs.declared.sets.Set8.{Set8}
use Rattle.ftpp_base.specs.Sets.{has}
use Rattle.config_table.specs.Members.{member_at}
use Rattle.config_table.specs.Members.{is_admitted}

-- the live ones of the members from one on, counted from its index
abbrev pub live_from : Set8 → ℕ → List Proc → List Proc
live_from masked i members = map (λ seat. seat.1) (filter (λ seat. not (has masked seat.0)) (enumerate_from i members))

-- one seat more
more_by : (b : Bool) (seat : ℕ × Proc) (seats : List (ℕ × Proc)) (ne : ℕ)
    → member_at (map (λ s. s.1) (cond (not b) (seat ∷ seats) seats)) ne
    ≡ cond b (member_at (map (λ s. s.1) seats) ne) (cond (seat.1.ne == ne) (Some seat.1) (member_at (map (λ s. s.1) seats) ne))
more_by true seat seats ne = refl
more_by false seat seats ne = refl

-- one member more: it is the one, or a later one is
live_more : (masked : Set8) (members : List Proc) (i : ℕ) (d : Proc) (ne : ℕ) → i < length members
    → member_at (live_from masked i (drop i members)) ne
    ≡ cond (has masked i) (member_at (live_from masked (i + 1) (drop (i + 1) members)) ne)
    (cond ((get_or members i d).ne == ne) (Some (get_or members i d)) (member_at (live_from masked (i + 1) (drop (i + 1) members)) ne))
live_more masked members i d ne l =
    ap (λ ms. member_at (live_from masked i ms) ne) (drop_more members i d l)
    ∙ more_by (has masked i) (i, get_or members i d) (filter (λ seat. not (has masked seat.0)) (enumerate_from (i + 1) (drop (i + 1) members))) ne

-- a masked member is passed over
pub live_passed : (masked : Set8) (members : List Proc) (i : ℕ) (d : Proc) (ne : ℕ) (b : Bool) → i < length members → b ≡ has masked i → b ≡ true
    → member_at (live_from masked i (drop i members)) ne ≡ member_at (live_from masked (i + 1) (drop (i + 1) members)) ne
live_passed masked members i d ne b l is masks =
    let later = member_at (live_from masked (i + 1) (drop (i + 1) members)) ne in
    live_more masked members i d ne l
    ∙ ap (λ x. cond x later (cond ((get_or members i d).ne == ne) (Some (get_or members i d)) later)) (sym is ∙ masks)

-- and so is one at another element
pub live_elsewhere : (masked : Set8) (members : List Proc) (i : ℕ) (d : Proc) (ne : ℕ) (b : Bool) → i < length members → b ≡ has masked i → b ≡ false
    → ((get_or members i d).ne ≡ ne → ⊥)
    → member_at (live_from masked i (drop i members)) ne ≡ member_at (live_from masked (i + 1) (drop (i + 1) members)) ne
live_elsewhere masked members i d ne b l is shows other =
    let later = member_at (live_from masked (i + 1) (drop (i + 1) members)) ne in
    live_more masked members i d ne l
    ∙ ap (λ x. cond x later (cond ((get_or members i d).ne == ne) (Some (get_or members i d)) later)) (sym is ∙ shows)
    ∙ ap (λ x. cond x (Some (get_or members i d)) later) (ne_eqb (get_or members i d).ne ne other)

-- ---- the admitted member

-- one member more, by whether it is admitted (b), whether it stands at the element (e), and whether that is admitted (a)
admitted_by : (b e a : Bool) (p : Proc) (kept : List Proc) (ne : ℕ) (found : Option Proc)
    → (p.ne == ne) ≡ e → (e ≡ true → b ≡ a) → member_at kept ne ≡ cond a found None
    → member_at (cond b (p ∷ kept) kept) ne ≡ cond a (cond e (Some p) found) None
admitted_by true true true p kept ne found at same rest = ap (λ x. cond x (Some p) (member_at kept ne)) at
admitted_by true true false p kept ne found at same rest = let no : true ≡ false = same refl in cc
admitted_by true false true p kept ne found at same rest = ap (λ x. cond x (Some p) (member_at kept ne)) at ∙ rest
admitted_by true false false p kept ne found at same rest = ap (λ x. cond x (Some p) (member_at kept ne)) at ∙ rest
admitted_by false true true p kept ne found at same rest = let no : false ≡ true = same refl in cc
admitted_by false true false p kept ne found at same rest = rest
admitted_by false false true p kept ne found at same rest = rest
admitted_by false false false p kept ne found at same rest = rest

-- the admitted member at an element is the member there, if the element is admitted
pub admitted_member : (admitted : Set8) (procs : List Proc) (ne : ℕ)
    → member_at (filter (is_admitted admitted) procs) ne ≡ cond (has admitted ne) (member_at procs ne) None
admitted_member admitted [] ne = none (has admitted ne) where
  none : (b : Bool) → (let o : Option Proc = None in o) ≡ cond b None None
  none true = refl
  none false = refl
admitted_member admitted (p ∷ ps) ne =
    admitted_by (has admitted p.ne) (p.ne == ne) (has admitted ne) p (filter (is_admitted admitted) ps) ne (member_at ps ne) refl
    (λ e. ap (has admitted) (eqb-true p.ne ne e)) (admitted_member admitted ps ne)
