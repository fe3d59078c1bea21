-- In a list whose numbers ascend, what has a number is the first that has it.
use Rattle.std.proofs.Common.{◌≡◌, ℕ, zero, suc, ◌+◌, ◌<◌, ◌≤◌, Bool, true, false, cond, List, [], ◌∷◌, map, drop, length, get_or, drop-cons, refl, ap, sym, ◌∙◌, arith}
use Rattle.std.specs.Prelude.{Some, find, slice_get, nat_lt, nat_le, ◌==◌, ◌&&◌}
use Rattle.std.specs.List.{AllByRecursion}
use Rattle.std.proofs.lemmas.Option.{same_Some, slice_get-get_or}
use Rattle.std.proofs.lemmas.Bool.{ltb-true, leb-true, le-leb, lt-leb, eq-eqb, ne_eqb, and_parts, and_from}
use Rattle.ftpp_base.proofs.Among.{weaker}
use Rattle.config_table.specs.declared.groups.Group.{Group}
use Rattle.config_table.specs.declared.decisions.StateRow.{StateRow}
use Rattle.config_table.specs.Table.{TableValue, IsValid}
use Rattle.config_table.proofs.NamedGroups.{Ascending, Ascending-valid}
use Rattle.scoreboard.specs.Steps.{ascend}
use Rattle.scoreboard.specs.Times.{line_number, group_number, AreLinesOf}

-- the first number of an ascending list is no less than the least one, and those behind it are greater
parts : (least n : ℕ) (ns : List ℕ) → ascend least (n ∷ ns) ≡ true → (least ≤ n) × (ascend (n + 1) ns ≡ true)
parts least n ns up = let both = and_parts (nat_le least n) (ascend (n + 1) ns) up in (leb-true least n both.0, both.1)

-- so is each number
no_less : {A : Type 0} (number : A → ℕ) (xs : List A) (least k : ℕ) (x : A) → ascend least (map number xs) ≡ true → slice_get xs k ≡ Some x → least ≤ number x
no_less number [] least k x up at = cc
no_less number (y ∷ ys) least zero x up at =
    let both = parts least (number y) (map number ys) up in
    let same : number y ≡ number x = ap number (same_Some y x at) in
    let low = both.0 in omega arith
no_less number (y ∷ ys) least (suc k) x up at =
    let both = parts least (number y) (map number ys) up in
    let low = both.0 in
    let high = no_less number ys (number y + 1) k x both.1 at in omega arith

-- what stands somewhere is the first of its number
found_at : {A : Type 0} (number : A → ℕ) (p : A → Bool) (xs : List A) (least k vid : ℕ) (x : A) → ((y : A) → p y ≡ (number y == vid))
    → ascend least (map number xs) ≡ true → slice_get xs k ≡ Some x → number x ≡ vid → find p xs ≡ Some x
found_at number p [] least k vid x is up at named = cc
found_at number p (y ∷ ys) least zero vid x is up at named =
    let same : y ≡ x = same_Some y x at in
    ap (λ b. cond b (Some y) (find p ys)) (is y ∙ eq-eqb (number y) vid (ap number same ∙ named)) ∙ at
found_at number p (y ∷ ys) least (suc k) vid x is up at named =
    let both = parts least (number y) (map number ys) up in
    let high = no_less number ys (number y + 1) k x both.1 at in
    ap (λ b. cond b (Some y) (find p ys)) (is y ∙ ne_eqb (number y) vid (λ e. omega arith))
    ∙ found_at number p ys (number y + 1) k vid x is both.1 at named

-- the same where the place is within the list
pub found_near : {A : Type 0} (number : A → ℕ) (p : A → Bool) (xs : List A) (k vid : ℕ) (x : A) → ((y : A) → p y ≡ (number y == vid))
    → ascend 0 (map number xs) ≡ true → true ≡ nat_lt k (length xs) → x ≡ get_or xs k x → number x ≡ vid → find p xs ≡ Some x
found_near number p xs k vid x is up within at named =
    found_at number p xs 0 k vid x is up (slice_get-get_or xs k x (ltb-true k (length xs) (sym within)) ∙ ap Some (sym at)) named

-- no place is within an empty list
pub none_near : {A : Type 0} (xs : List A) (k : ℕ) → xs ≡ [] → true ≡ nat_lt k (length xs) → ⊥
none_near xs k none within = let low = ltb-true k (length xs) (sym within) in let width = ap (λ (ys : List _). length ys) none in omega arith

-- ---- the numbers of a valid table

-- groups whose numbers are no less than one, and ascend
groups_ascend : (least : ℕ) (gs : List Group) → AllByRecursion (λ g. least ≤ g.vid) gs → Ascending gs → ascend least (map group_number gs) ≡ true
groups_ascend least [] low up = refl
groups_ascend least (g ∷ gs) low up =
    and_from (nat_le least g.vid) (ascend (g.vid + 1) (map group_number gs)) (le-leb least g.vid low.0)
    (groups_ascend (g.vid + 1) gs (weaker (λ h. g.vid < h.vid) (λ h. g.vid + 1 ≤ h.vid) (λ h l. omega arith) gs up.0) up.1)

-- no number is less than 0
none_less : (gs : List Group) → AllByRecursion (λ g. 0 ≤ g.vid) gs
none_less [] = tt
none_less (g ∷ gs) = (omega arith, none_less gs)

-- the numbers of a valid table ascend
pub table_ascends : (table : TableValue) → IsValid table → ascend 0 (map group_number table.groups) ≡ true
table_ascends table valid = groups_ascend 0 table.groups (none_less table.groups) (Ascending-valid table valid)

-- so do those of its lines
pub lines_ascend : (table : TableValue) (lines : List StateRow) → IsValid table → AreLinesOf table lines → ascend 0 (map line_number lines) ≡ true
lines_ascend table lines valid same = ap (ascend 0) same ∙ table_ascends table valid

-- ---- looking for it

-- numbers that ascend from a place on, one number more
pub one_more : {A : Type 0} (number : A → ℕ) (xs : List A) (least k n : ℕ) (d : A) → k < length xs → n ≡ number (get_or xs k d) → least ≤ n
    → ascend (n + 1) (map number (drop (k + 1) xs)) ≡ ascend least (map number (drop k xs))
one_more number xs least k n d l is low =
    let next : k + 1 ≡ suc k = omega arith in
    ap (λ m. ascend (n + 1) (map number (drop m xs))) next
    ∙ sym (ap (λ b. b && ascend (n + 1) (map number (drop (suc k) xs))) (le-leb least n low))
    ∙ ap (λ m. ascend least (m ∷ map number (drop (suc k) xs))) is
    ∙ sym (ap (λ ys. ascend least (map number ys)) (drop-cons xs k d l))

-- and one that is too small
pub none_more : {A : Type 0} (number : A → ℕ) (xs : List A) (least k n : ℕ) (d : A) → k < length xs → n ≡ number (get_or xs k d) → n < least
    → ascend least (map number (drop k xs)) ≡ false
none_more number xs least k n d l is low =
    ap (λ ys. ascend least (map number ys)) (drop-cons xs k d l)
    ∙ sym (ap (λ m. ascend least (m ∷ map number (drop (suc k) xs))) is)
    ∙ ap (λ b. b && ascend (n + 1) (map number (drop (suc k) xs))) (lt-leb least n low)
