-- The parts of a step: which group may be chosen, and whose request a decision takes.
use Rattle.std.specs.Prelude.{ℕ, ◌+◌, Bool, true, false, not, ◌||◌, ◌&&◌, ◌==◌, nat_lt, nat_le, List, [], ◌∷◌, map, Option, Some, None, option_map, option_and_then, unwrap_or, is_some, if◌then◌else◌}
use Rattle.sender_choice.specs.Sinces.{Sinces}
use Rattle.config_table.specs.declared.groups.Group.{Group}
use Rattle.config_table.specs.declared.decisions.GroupFlags.{GroupFlags}
use Rattle.config_table.specs.declared.decisions.StateRow.{StateRow}
use Rattle.config_table.specs.declared.decisions.Decision.{Decision}
use Rattle.config_table.specs.declared.decisions.Decision.TheVariants.{Idle, Discard, Exchange}
use Rattle.config_table.specs.Table.{TableValue, group_named}
use Rattle.scoreboard.specs.Board.{Scoreboard, Waiting, blank_line, line_of}
use Rattle.scoreboard.specs.Choice.{Request, reason, is_granted, is_expired, is_eligible, request_in}

-- whether numbers ascend, the first no less than a least one
abbrev pub ascend : ℕ → List ℕ → Bool
ascend least [] = true
ascend least (n ∷ ns) = nat_le least n && ascend (n + 1) ns

-- the number of flags
abbrev pub flags_number : GroupFlags → ℕ
flags_number one = one.vid

-- whether a group has another number
abbrev pub is_other_group : ℕ → Group → Bool
is_other_group vid g = not (g.vid == vid)

-- a request that waits, of a group
abbrev pub request_from : Group → GroupFlags → Waiting → Request
request_from g one w = record { sender = g; flags = one; desc = w.0; since = w.1; starved = w.2 }

-- whether a group lets requests expire, and that many cycles are too many
abbrev pub is_late : Option Group → ℕ → Bool
is_late receiver starved = unwrap_or (option_map (λ g. nat_lt 0 g.tx && nat_lt g.tx starved) receiver) false

-- whether a ready request can be served or discarded
abbrev pub can_end : TableValue → List GroupFlags → Scoreboard → Request → Bool
can_end table flags board r = is_some (reason table r.sender r.desc) || r.desc.class == 3 || is_granted table flags board r.desc.dest || is_expired table r

-- whether the request of a group of the table may be chosen
abbrev pub may_be_chosen : TableValue → List GroupFlags → ℕ → Scoreboard → Group → Bool
may_be_chosen table flags now board g = unwrap_or (option_map (is_eligible table flags board now) (request_in flags board g)) false

-- the request of the group of that number
abbrev pub request_named : TableValue → List GroupFlags → Scoreboard → ℕ → Option Request
request_named table flags board vid = option_and_then (request_in flags board) (group_named table vid)

-- whether it may be chosen
abbrev pub is_choosable : TableValue → List GroupFlags → ℕ → Scoreboard → ℕ → Bool
is_choosable table flags now board vid = unwrap_or (option_map (may_be_chosen table flags now board) (group_named table vid)) false

-- since when the request of each group waits
abbrev pub sinces_in : Scoreboard → Sinces
sinces_in board vid = option_map (λ w. w.1) (line_of board vid).request

-- the group whose request a decision takes
abbrev pub taken : Decision → Option ℕ
taken Idle = None
taken (Discard vid desc number admitted waited) = Some vid
taken (Exchange service) = Some service.vid

-- the line of a group, by its number, blank where it is the group that was updated
abbrev pub line_but : Scoreboard → Option ℕ → ℕ → StateRow
line_but board None other = line_of board other
line_but board (Some vid) other = if other == vid then blank_line vid else line_of board other

-- the same by the group
abbrev pub group_line : Scoreboard → Option ℕ → Group → StateRow
group_line board updated g = line_but board updated g.vid

-- the lines of a table's groups, in order
abbrev pub lines_but : TableValue → Scoreboard → Option ℕ → Scoreboard
lines_but table board updated = map (group_line board updated) table.groups
