-- The lines of refusals, and the line on a table.
use Rattle.std.specs.Prelude.{ℕ, List, ◌++◌, length, codes}
use Rattle.std.specs.Fmt.{decimal}
use Rattle.config_table.specs.Table.{TableValue}

-- how many bytes a line has room for
abbrev pub line_room : ℕ
line_room = 256

unfoldable pub script_line : ℕ → ℕ → List ℕ
script_line line code = codes "script " ++ decimal line ++ codes " " ++ decimal code ++ codes "\n"

unfoldable pub config_line : ℕ → List ℕ
config_line code = codes "config " ++ decimal code ++ codes "\n"

unfoldable pub valid_line : TableValue → List ℕ
valid_line table = codes "valid elements " ++ decimal table.n ++ codes " groups " ++ decimal (length table.groups) ++ codes " manager " ++ decimal table.manager ++ codes "\n"
