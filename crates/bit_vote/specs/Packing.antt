-- Optional rows as a list of tests and a list of rows.
use Rattle.std.specs.Prelude.{◌≡◌, ℕ, Bool, true, false, List, [], ◌∷◌, Option, Some, None, map, replicate, refl}
use Rattle.std.proofs.Common.{sym, ◌∙◌, ap}

-- the optional rows of a list of tests and a list of rows
abbrev pub packed : List Bool → List (List ℕ) → List (Option (List ℕ))
packed [] rows = []
packed (p ∷ tests) [] = []
packed (true ∷ tests) (row ∷ rows) = Some row ∷ packed tests rows
packed (false ∷ tests) (row ∷ rows) = None ∷ packed tests rows

-- there are as many tests as rows, and a row that is not present is zeros
abbrev pub AreZeroed : ℕ → List Bool → List (List ℕ) → Type 0
AreZeroed wide [] [] = Unit {0}
AreZeroed wide [] (row ∷ rows) = ⊥
AreZeroed wide (p ∷ tests) [] = ⊥
AreZeroed wide (true ∷ tests) (row ∷ rows) = AreZeroed wide tests rows
AreZeroed wide (false ∷ tests) (row ∷ rows) = (row ≡ replicate wide 0) × AreZeroed wide tests rows

-- the row that is kept for an optional one
abbrev pub row_of : ℕ → Option (List ℕ) → List ℕ
row_of wide None = replicate wide 0
row_of wide (Some row) = row

-- whether a row is present
abbrev pub test_of : Option (List ℕ) → Bool
test_of None = false
test_of (Some row) = true

-- the tests come back from the optional rows
pub tests_again : (wide : ℕ) (tests : List Bool) (rows : List (List ℕ)) → AreZeroed wide tests rows → map test_of (packed tests rows) ≡ tests
tests_again wide [] rows z = refl
tests_again wide (p ∷ tests) [] z = absurd z
tests_again wide (true ∷ tests) (row ∷ rows) z = ap (λ l. true ∷ l) (tests_again wide tests rows z)
tests_again wide (false ∷ tests) (row ∷ rows) z = ap (λ l. false ∷ l) (tests_again wide tests rows z.1)

-- and so do the rows
pub rows_again : (wide : ℕ) (tests : List Bool) (rows : List (List ℕ)) → AreZeroed wide tests rows → map (row_of wide) (packed tests rows) ≡ rows
rows_again wide [] [] z = refl
rows_again wide [] (row ∷ rows) z = absurd z
rows_again wide (p ∷ tests) [] z = absurd z
rows_again wide (true ∷ tests) (row ∷ rows) z = ap (λ l. row ∷ l) (rows_again wide tests rows z)
rows_again wide (false ∷ tests) (row ∷ rows) z = ap (λ l. replicate wide 0 ∷ l) (rows_again wide tests rows z.1) ∙ ap (λ r. r ∷ rows) (sym z.0)

-- so equal optional rows are kept alike
pub packed_again : (wide : ℕ) (tests : List Bool) (rows : List (List ℕ)) → AreZeroed wide tests rows
    → ◌≡◌ {A = List Bool × List (List ℕ)} (map test_of (packed tests rows), map (row_of wide) (packed tests rows)) (tests, rows)
packed_again wide tests rows z =
    let with_tests : List Bool → List Bool × List (List ℕ) = λ x. (x, map (row_of wide) (packed tests rows)) in
    let with_rows : List (List ℕ) → List Bool × List (List ℕ) = λ y. (tests, y) in
    ap with_tests (tests_again wide tests rows z) ∙ ap with_rows (rows_again wide tests rows z)
