-- When a scoreboard's numbers are those of earlier cycles, and which groups it has lines of.
use Rattle.std.specs.Prelude.{◌≡◌, ◌≢◌, ℕ, ◌<◌, ◌≤◌, true, map, length, slice_index, Some, is_some}
use Rattle.config_table.specs.declared.groups.Group.{Group}
use Rattle.config_table.specs.declared.decisions.StateRow.{StateRow}
use Rattle.config_table.specs.Groups.{members_of}
use Rattle.config_table.specs.Table.{TableValue, group_named}
use Rattle.scoreboard.specs.Board.{Scoreboard, Waiting, line_of}

-- A line before a cycle: its request waits since an earlier one, and starved and lags are no more than the cycles so far.
pub record IsBefore (now : ℕ) (line : StateRow) : Type 0 where
  pub since : (w : Waiting) → line.request ≡ Some w → w.1 < now
  pub starved : (w : Waiting) → line.request ≡ Some w → w.2 ≤ now
  pub lags : (index : ℕ) → slice_index line.lags index ≤ now

-- the line of each group is one before a cycle
abbrev pub AreBefore : ℕ → Scoreboard → Type 0
AreBefore now board = (vid : ℕ) → IsBefore now (line_of board vid)

-- A line fits its group: it has four lags, and those past the size of the group are 0.
pub record FitsGroup (g : Group) (line : StateRow) : Type 0 where
  pub four : length line.lags ≡ 4
  pub past : (index : ℕ) → length (members_of g) ≤ index → slice_index line.lags index ≡ 0

-- so it is for each group of a table: only members lag
abbrev pub OnlyMembersLag : TableValue → Scoreboard → Type 0
OnlyMembersLag table board = (g : Group) → group_named table g.vid ≡ Some g → FitsGroup g (line_of board g.vid)

-- so it is for each group but one
abbrev pub OnlyOthersLag : TableValue → ℕ → Scoreboard → Type 0
OnlyOthersLag table one board = (g : Group) → group_named table g.vid ≡ Some g → g.vid ≢ one → FitsGroup g (line_of board g.vid)

-- whether a group has a request
abbrev pub HasRequest : Scoreboard → ℕ → Type 0
HasRequest board vid = is_some (line_of board vid).request ≡ true

-- each group that has a request is one of the table
abbrev pub AreHeldBy : TableValue → Scoreboard → Type 0
AreHeldBy table board = (vid : ℕ) → HasRequest board vid → is_some (group_named table vid) ≡ true

-- each group but one that has a request is one of the table
abbrev pub AreOthersHeldBy : TableValue → ℕ → Scoreboard → Type 0
AreOthersHeldBy table one board = (vid : ℕ) → vid ≢ one → HasRequest board vid → is_some (group_named table vid) ≡ true

-- the number of a line, and of a group
abbrev pub line_number : StateRow → ℕ
line_number line = line.vid

abbrev pub group_number : Group → ℕ
group_number g = g.vid

-- the line of a group
abbrev pub line_for : Scoreboard → Group → StateRow
line_for board g = line_of board g.vid

-- one line for each group of the table, in order
abbrev pub AreLinesOf : TableValue → Scoreboard → Type 0
AreLinesOf table board = map line_number board ≡ map group_number table.groups

-- the lines of a table's groups, in order
abbrev pub lines_for : TableValue → Scoreboard → Scoreboard
lines_for table board = map (line_for board) table.groups
