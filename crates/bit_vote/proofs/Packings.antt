-- A row read, and a row put, in a list of optional rows kept as tests and rows.
use Rattle.std.proofs.Common.{◌≡◌, ℕ, zero, suc, ◌<◌, Bool, true, false, List, [], ◌∷◌, Some, None, length, get_or, set, replicate, refl, ap, arith}
use Rattle.std.proofs.Common.{map, nat_eq, Option}
use Rattle.std.specs.Prelude.{◌&&◌}
use mathlib.Core.Bool.{beq}
use lib.Pointwise.{pointwise}
use Rattle.bit_vote.specs.Packing.{packed, AreZeroed, test_of, row_of, tests_again, rows_again}

pub get_present : (tests : List Bool) (rows : List (List ℕ)) (i : ℕ) → length tests ≡ length rows → i < length tests → get_or tests i false ≡ true
    → Some (get_or rows i []) ≡ get_or (packed tests rows) i None
get_present [] rows i e h t = absurd (omega arith)
get_present (p ∷ tests) [] i e h t = absurd (omega arith)
get_present (true ∷ tests) (row ∷ rows) zero e h t = refl
get_present (false ∷ tests) (row ∷ rows) zero e h t = cc
get_present (true ∷ tests) (row ∷ rows) (suc i) e h t = get_present tests rows i (omega arith) (omega arith) t
get_present (false ∷ tests) (row ∷ rows) (suc i) e h t = get_present tests rows i (omega arith) (omega arith) t

pub get_absent : (tests : List Bool) (rows : List (List ℕ)) (i : ℕ) → get_or tests i false ≡ false → None ≡ get_or (packed tests rows) i None
get_absent [] rows i t = refl
get_absent (p ∷ tests) [] i t = refl
get_absent (true ∷ tests) (row ∷ rows) zero t = cc
get_absent (false ∷ tests) (row ∷ rows) zero t = refl
get_absent (true ∷ tests) (row ∷ rows) (suc i) t = get_absent tests rows i t
get_absent (false ∷ tests) (row ∷ rows) (suc i) t = get_absent tests rows i t

pub set_present : (tests : List Bool) (rows : List (List ℕ)) (i : ℕ) (r : List ℕ) → packed (set tests i true) (set rows i r) ≡ set (packed tests rows) i (Some r)
set_present [] rows i r = refl
set_present (p ∷ tests) [] zero r = refl
set_present (p ∷ tests) [] (suc i) r = refl
set_present (true ∷ tests) (row ∷ rows) zero r = refl
set_present (false ∷ tests) (row ∷ rows) zero r = refl
set_present (true ∷ tests) (row ∷ rows) (suc i) r = ap (λ l. Some row ∷ l) (set_present tests rows i r)
set_present (false ∷ tests) (row ∷ rows) (suc i) r = ap (λ l. None ∷ l) (set_present tests rows i r)

pub set_absent : (tests : List Bool) (rows : List (List ℕ)) (i : ℕ) (r : List ℕ) → packed (set tests i false) (set rows i r) ≡ set (packed tests rows) i None
set_absent [] rows i r = refl
set_absent (p ∷ tests) [] zero r = refl
set_absent (p ∷ tests) [] (suc i) r = refl
set_absent (true ∷ tests) (row ∷ rows) zero r = refl
set_absent (false ∷ tests) (row ∷ rows) zero r = refl
set_absent (true ∷ tests) (row ∷ rows) (suc i) r = ap (λ l. Some row ∷ l) (set_absent tests rows i r)
set_absent (false ∷ tests) (row ∷ rows) (suc i) r = ap (λ l. None ∷ l) (set_absent tests rows i r)

pub zeroed_present : (wide : ℕ) (tests : List Bool) (rows : List (List ℕ)) (i : ℕ) (r : List ℕ) → AreZeroed wide tests rows → AreZeroed wide (set tests i true) (set rows i r)
zeroed_present wide [] [] i r z = tt
zeroed_present wide [] (row ∷ rows) i r z = absurd z
zeroed_present wide (p ∷ tests) [] i r z = absurd z
zeroed_present wide (true ∷ tests) (row ∷ rows) zero r z = z
zeroed_present wide (false ∷ tests) (row ∷ rows) zero r z = z.1
zeroed_present wide (true ∷ tests) (row ∷ rows) (suc i) r z = zeroed_present wide tests rows i r z
zeroed_present wide (false ∷ tests) (row ∷ rows) (suc i) r z = (z.0, zeroed_present wide tests rows i r z.1)

pub zeroed_absent : (wide : ℕ) (tests : List Bool) (rows : List (List ℕ)) (i : ℕ) → AreZeroed wide tests rows → AreZeroed wide (set tests i false) (set rows i (replicate wide 0))
zeroed_absent wide [] [] i z = tt
zeroed_absent wide [] (row ∷ rows) i z = absurd z
zeroed_absent wide (p ∷ tests) [] i z = absurd z
zeroed_absent wide (true ∷ tests) (row ∷ rows) zero z = (refl, z)
zeroed_absent wide (false ∷ tests) (row ∷ rows) zero z = (refl, z.1)
zeroed_absent wide (true ∷ tests) (row ∷ rows) (suc i) z = zeroed_absent wide tests rows i z
zeroed_absent wide (false ∷ tests) (row ∷ rows) (suc i) z = (z.0, zeroed_absent wide tests rows i z.1)

pub zeroed_none : (wide n : ℕ) → AreZeroed wide (replicate n false) (replicate n (replicate wide 0))
zeroed_none wide zero = tt
zeroed_none wide (suc n) = (refl, zeroed_none wide n)

pub packed_none : (n : ℕ) (z : List ℕ) → packed (replicate n false) (replicate n z) ≡ replicate n None
packed_none zero z = refl
packed_none (suc n) z = ap (λ l. None ∷ l) (packed_none n z)

-- as many optional rows as tests and rows
pub length-packed : (tests : List Bool) (rows : List (List ℕ)) → length tests ≡ length rows → length (packed tests rows) ≡ length tests
length-packed [] rows e = refl
length-packed (p ∷ tests) [] e = absurd (omega arith)
length-packed (true ∷ tests) (row ∷ rows) e = let more = length-packed tests rows (omega arith) in omega arith
length-packed (false ∷ tests) (row ∷ rows) e = let more = length-packed tests rows (omega arith) in omega arith

-- ---- equality

-- optional rows are equal where the tests and the rows that they are kept as are
pub same_kept : (wide : ℕ) (tests others : List Bool) (rows more : List (List ℕ)) (a b : List (Option (List ℕ)))
    → packed tests rows ≡ a → packed others more ≡ b → AreZeroed wide tests rows → AreZeroed wide others more
    → (pointwise beq tests others && pointwise (pointwise nat_eq) rows more)
    ≡ (pointwise beq (map test_of a) (map test_of b) && pointwise (pointwise nat_eq) (map (row_of wide) a) (map (row_of wide) b))
same_kept wide tests others rows more a b is are y z =
    rw (← is, ← are)
    (rw (tests_again wide tests rows y, rows_again wide tests rows y, tests_again wide others more z, rows_again wide others more z) refl)
