-- Which groups a chooser holds: only those of a table, for which there is room.
use Rattle.std.proofs.Common.{◌≡◌, ℕ, Bool, true, false, cond, List, [], ◌∷◌, map, refl, ap, ◌∙◌, arith, subst, Contains}
use Rattle.std.specs.Prelude.{Option, Some, None, is_some, find, ◌==◌}
use Rattle.std.proofs.lemmas.List.{length-map}
use Rattle.std.proofs.lemmas.Bool.{eqb-true}
use Rattle.sender_choice.specs.Sinces.{Sinces, is_held, with_since, HasRoomFor}
use Rattle.ftpp_base.proofs.Items.{IsItem, map_item, contains_item}
use Rattle.config_table.specs.declared.groups.Group.{Group}
use Rattle.config_table.specs.declared.decisions.StateRow.{StateRow}
use Rattle.config_table.specs.Table.{TableValue, IsValid, is_named, group_named}
use Rattle.config_table.proofs.ValidTable.{named-there}
use Rattle.config_table.proofs.Bounded.{few_groups}
use Rattle.scoreboard.specs.Board.{is_line_of}
use Rattle.scoreboard.specs.Times.{line_number, group_number}
use Rattle.scoreboard.proofs.FewHeld.{room_among}

-- a line for each group, in order
abbrev SameNumbers : List Group → List StateRow → Type 0
SameNumbers groups lines = map line_number lines ≡ map group_number groups

-- a group has a line where it is there
pub line_there : (groups : List Group) (lines : List StateRow) (vid : ℕ) → SameNumbers groups lines → is_some (find (is_line_of vid) lines) ≡ is_some (find (is_named vid) groups)
line_there [] [] vid e = refl
line_there [] (l ∷ ls) vid e = cc
line_there (g ∷ gs) [] vid e = cc
line_there (g ∷ gs) (l ∷ ls) vid e =
    let number : l.vid ≡ g.vid = cc in
    let rest : SameNumbers gs ls = cc in
    by (l.vid == vid) (g.vid == vid) (ap (λ n. n == vid) number) (line_there gs ls vid rest)
  where
    by : (b c : Bool) → b ≡ c → is_some (find (is_line_of vid) ls) ≡ is_some (find (is_named vid) gs) → is_some (cond b (Some l) (find (is_line_of vid) ls)) ≡ is_some (cond c (Some g) (find (is_named vid) gs))
    by true true e more = refl
    by true false e more = cc
    by false true e more = cc
    by false false e more = more

-- each held group is one of the table
abbrev pub AreKnown : TableValue → Sinces → Type 0
AreKnown table held = (vid : ℕ) → is_held held vid ≡ true → is_some (group_named table vid) ≡ true

-- a group of the table has a number among those of its groups
number_in : (table : TableValue) (vid : ℕ) (o : Option Group) → group_named table vid ≡ o → is_some o ≡ true → IsItem (map group_number table.groups) vid
number_in table vid None named e = cc
number_in table vid (Some g) named e =
    let there = named-there table vid g named in
    let P : ℕ → Type 0 = λ n. IsItem (map group_number table.groups) n in
    subst P there.1 (map_item group_number table.groups g (contains_item table.groups g there.0))

-- so there is room for each group of the table
pub has_room : (table : TableValue) (held : Sinces) (g : Group) → IsValid table → AreKnown table held → Contains table.groups g → HasRoomFor held g.vid
has_room table held g valid known there =
    room_among held (map group_number table.groups) g.vid (λ vid h. number_in table vid (group_named table vid) refl (known vid h))
    (let few = few_groups table valid in let width = length-map table.groups group_number in omega arith)
    (map_item group_number table.groups g (contains_item table.groups g there))

-- by whether it is the group of the line
known_by : (b : Bool) (table : TableValue) (held : Sinces) (o : Option ℕ) (vid : ℕ) → (b ≡ true → is_some (group_named table vid) ≡ true) → (is_held held vid ≡ true → is_some (group_named table vid) ≡ true)
    → is_some (cond b o (held vid)) ≡ true → is_some (group_named table vid) ≡ true
known_by true table held o vid own other e = own refl
known_by false table held o vid own other e = other e

-- one group more that is held is one of the table, too
pub known_with : (table : TableValue) (held : Sinces) (vid since : ℕ) → is_some (group_named table vid) ≡ true → AreKnown table held → AreKnown table (with_since held vid since)
known_with table held vid since there known other e =
    known_by (other == vid) table held (Some since) other (λ own. ap (λ n. is_some (group_named table n)) (eqb-true other vid own) ∙ there) (known other) e
