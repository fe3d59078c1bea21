-- The line of a group in a scoreboard that is made group by group.
use Rattle.std.proofs.Common.{◌≡◌, ℕ, List, refl, ap, ◌∙◌}
use Rattle.std.specs.Prelude.{Option, Some, None, option_map, unwrap_or, ◌==◌}
use Rattle.ftpp_base.proofs.Items.{find-map}
use Rattle.config_table.specs.declared.groups.Group.{Group}
use Rattle.config_table.specs.declared.decisions.GroupFlags.{GroupFlags}
use Rattle.config_table.specs.declared.decisions.StateRow.{StateRow}
use Rattle.config_table.specs.Table.{TableValue, group_named, is_named}
use Rattle.scoreboard.specs.Board.{Scoreboard, line_of, line_after, blank_line, marked, marked_line, is_line_of, flags_named}

-- a line keeps the number of its group
pub keeps_vid : (flags : List GroupFlags) (now : ℕ) (g : Group) (line : StateRow) (one : Option GroupFlags) → (line_after flags now g line one).vid ≡ g.vid
keeps_vid flags now g line None = refl
keeps_vid flags now g line (Some one) = refl

-- the line of a group of the table after one pattern
pub line_of-marked : (table : TableValue) (flags : List GroupFlags) (now : ℕ) (board : Scoreboard) (vid : ℕ) (g : Group) → group_named table vid ≡ Some g
    → line_of (marked table flags now board) vid ≡ line_after flags now g (line_of board g.vid) (flags_named flags g.vid)
unfolding marked
line_of-marked table flags now board vid g named =
    let f : Group → StateRow = marked_line flags now board in
    ap (λ o. unwrap_or o (blank_line vid)) (find-map (is_line_of vid) (is_named vid) f table.groups (λ h. ap (λ v. v == vid) (keeps_vid flags now h (line_of board h.vid) (flags_named flags h.vid))))
    ∙ ap (λ o. unwrap_or (option_map f o) (blank_line vid)) named
