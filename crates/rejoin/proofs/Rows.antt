-- The rows of a state, one for each group.
use Rattle.std.proofs.Common.{◌≡◌, ℕ, ◌≤◌, List, [], ◌∷◌, length, map, refl, arith}
use Rattle.std.specs.Prelude.{All}
use Rattle.std.specs.List.{zip, AllByRecursion}
use Rattle.std.proofs.lemmas.List.Elements.{All-from_recursion, recursion_from_All}
use Rattle.config_table.specs.declared.groups.Group.{Group}
use Rattle.config_table.specs.declared.decisions.StateRow.{StateRow}
use Rattle.config_table.specs.Table.{TableValue, IsValid}
use Rattle.rejoin.specs.State.{RequestFits, LagsFit, RowFits, IsInRange}

-- rows that are made of groups, beside them
made_fit : (P : Group × StateRow → Type 0) (f : Group → StateRow) (groups : List Group)
    → AllByRecursion (λ g. P (g, f g)) groups → AllByRecursion P (zip groups (map f groups))
made_fit P f [] all = tt
made_fit P f (g ∷ gs) all = (all.0, made_fit P f gs all.1)

length-made : (f : Group → StateRow) (groups : List Group) → length (map f groups) ≡ length groups
length-made f [] = refl
length-made f (g ∷ gs) = let more = length-made f gs in omega arith

-- a valid table with a row made for each group
pub made_in_range : (now : ℕ) (table : TableValue) (f : Group → StateRow) → now ≤ 100000 → IsValid table → All (λ g. RowFits now (g, f g)) table.groups
    → IsInRange now table (map f table.groups)
made_in_range now table f few valid fit = record {
  cycle = few;
  valid = valid;
  one_each = length-made f table.groups;
  fit =
      All-from_recursion (RowFits now) (zip table.groups (map f table.groups))
      (made_fit (RowFits now) f table.groups (recursion_from_All (λ g. RowFits now (g, f g)) table.groups fit));
}

numbers : (now : ℕ) (groups : List Group) (rows : List StateRow) → length rows ≡ length groups → AllByRecursion (RowFits now) (zip groups rows)
    → map (λ row. row.vid) rows ≡ map (λ g. g.vid) groups
numbers now [] [] e fit = refl
numbers now [] (row ∷ rows) e fit = let never : ⊥ = omega arith in absurd never
numbers now (g ∷ gs) [] e fit = let never : ⊥ = omega arith in absurd never
numbers now (g ∷ gs) (row ∷ rows) e fit = (λ t. fit.0.number t ∷ numbers now gs rows (omega arith) fit.1 t)

-- rows have the numbers of their groups
pub numbered : (now : ℕ) (table : TableValue) (rows : List StateRow) → IsInRange now table rows
    → map (λ row. row.vid) rows ≡ map (λ g. g.vid) table.groups
numbered now table rows right = numbers now table.groups rows right.one_each (recursion_from_All (RowFits now) (zip table.groups rows) right.fit)

-- what a row has that fits its group, each row has
each : (P : StateRow → Type 0) (now : ℕ) (groups : List Group) (rows : List StateRow) → ((pair : Group × StateRow) → RowFits now pair → P pair.1)
    → length rows ≡ length groups → AllByRecursion (RowFits now) (zip groups rows) → AllByRecursion P rows
each P now [] [] h e fit = tt
each P now [] (row ∷ rows) h e fit = let never : ⊥ = omega arith in absurd never
each P now (g ∷ gs) [] h e fit = tt
each P now (g ∷ gs) (row ∷ rows) h e fit = (h (g, row) fit.0, each P now gs rows h (omega arith) fit.1)

of_rows : (P : StateRow → Type 0) (now : ℕ) (table : TableValue) (rows : List StateRow) → ((pair : Group × StateRow) → RowFits now pair → P pair.1)
    → IsInRange now table rows → All P rows
of_rows P now table rows h right =
    All-from_recursion P rows (each P now table.groups rows h right.one_each (recursion_from_All (RowFits now) (zip table.groups rows) right.fit))

pub requests : (now : ℕ) (table : TableValue) (rows : List StateRow) → IsInRange now table rows → All (λ row. RequestFits now row.request) rows
requests now table rows right = of_rows (λ row. RequestFits now row.request) now table rows (λ pair fit. fit.request) right

pub lags : (now : ℕ) (table : TableValue) (rows : List StateRow) → IsInRange now table rows → All (λ row. LagsFit now row.lags) rows
lags now table rows right = of_rows (λ row. LagsFit now row.lags) now table rows (λ pair fit. fit.lags) right
