-- The configurations that are built in. Nobody is masked, and timeouts and limits are the usual ones.
use Rattle.std.specs.Prelude.{ℕ, List, [], ◌∷◌, map}
use Rattle.config_table.specs.declared.groups.Group.{Group}
use Rattle.config_table.specs.Groups.{proc_at, usual_group}
use Rattle.config_table.specs.Table.{TableValue}

-- a group by its number and its members, each an element and a port
abbrev pub usual : ℕ → List (ℕ × ℕ) → Group
usual vid members = usual_group vid (map proc_at members)

-- four elements: all of them, which may update the table, two groups of three and two of one
abbrev pub c4 : TableValue
c4 = record {
  n = 4;
  manager = 1;
  groups =
      usual 1 ((0, 0) ∷ (1, 0) ∷ (2, 0) ∷ (3, 0) ∷ [])
      ∷ usual 2 ((0, 1) ∷ (1, 1) ∷ (2, 1) ∷ [])
      ∷ usual 3 ((1, 2) ∷ (2, 2) ∷ (3, 2) ∷ [])
      ∷ usual 4 ((3, 1) ∷ [])
      ∷ usual 5 ((0, 3) ∷ [])
      ∷ [];
}

-- five elements: the first four of them, which may update the table, two groups of three, one of four and two of one
abbrev pub c5 : TableValue
c5 = record {
  n = 5;
  manager = 1;
  groups =
      usual 1 ((0, 0) ∷ (1, 0) ∷ (2, 0) ∷ (3, 0) ∷ [])
      ∷ usual 2 ((1, 1) ∷ (2, 1) ∷ (3, 1) ∷ [])
      ∷ usual 3 ((2, 2) ∷ (3, 2) ∷ (4, 2) ∷ [])
      ∷ usual 4 ((0, 3) ∷ (1, 3) ∷ (3, 3) ∷ (4, 3) ∷ [])
      ∷ usual 5 ((4, 4) ∷ [])
      ∷ usual 6 ((0, 5) ∷ [])
      ∷ [];
}
