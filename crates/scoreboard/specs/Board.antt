-- The scoreboard: one line for each group, in the order of the table.
use Rattle.std.specs.Prelude.{ℕ, ◌+◌, Bool, false, not, ◌&&◌, ◌||◌, ◌==◌, List, [], ◌∷◌, map, replicate, slice_get, slice_index, find, Option, Some, None, option_map, unwrap_or, if◌then◌else◌}
use Rattle.ftpp_base.specs.Sets.{has}
use Rattle.packet_format.specs.declared.Descriptor.{Descriptor}
use Rattle.packet_format.specs.Packets.{same_descriptor}
use Rattle.config_table.specs.declared.groups.Group.{Group}
use Rattle.config_table.specs.declared.decisions.GroupFlags.{GroupFlags}
use Rattle.config_table.specs.declared.decisions.StateRow.{StateRow}
use Rattle.config_table.specs.Groups.{is_live, members_of}
use Rattle.config_table.specs.Table.{TableValue}

abbrev pub Scoreboard : Type 0
Scoreboard = List StateRow

-- a request with since and starved
abbrev pub Waiting : Type 0
Waiting = Descriptor × ℕ × ℕ

abbrev pub no_lags : List ℕ
no_lags = replicate 4 0

-- the line of a group without a request
abbrev pub blank_line : ℕ → StateRow
blank_line vid = record { vid = vid; request = None; lags = no_lags }

-- no requests, and all lags 0
abbrev pub empty_scoreboard : TableValue → Scoreboard
empty_scoreboard table = map (λ g. blank_line g.vid) table.groups

-- whether a line is that of the group
abbrev pub is_line_of : ℕ → StateRow → Bool
is_line_of vid line = line.vid == vid

-- the line of a group, blank where it has none
abbrev pub line_of : Scoreboard → ℕ → StateRow
line_of board vid = unwrap_or (find (is_line_of vid) board) (blank_line vid)

-- whether flags are those of the group
abbrev pub are_flags_of : ℕ → GroupFlags → Bool
are_flags_of vid one = one.vid == vid

-- the flags of a group, if it is there
abbrev pub flags_named : List GroupFlags → ℕ → Option GroupFlags
flags_named flags vid = find (are_flags_of vid) flags

-- whether the request is of class 1 or 2 to a group that has no most space
abbrev pub lacks_space : List GroupFlags → Descriptor → Bool
lacks_space flags desc = (desc.class == 1 || desc.class == 2) && unwrap_or (option_map (λ one. not one.most_space) (flags_named flags desc.dest)) false

-- a request that is voted now, as it waits from then on: since and starved go on where it is the one that waited
abbrev pub waiting_since : Bool → ℕ → Descriptor → Option Waiting → Waiting
waiting_since starves now desc None = (desc, now, if starves then 1 else 0)
waiting_since starves now desc (Some w) =
    if same_descriptor w.0 desc
    then (desc, w.1, if starves then w.2 + 1 else 0)
    else (desc, now, if starves then 1 else 0)

-- the request of a line after one pattern: gone without a voted descriptor
abbrev pub request_after : List GroupFlags → ℕ → Option Waiting → Option Descriptor → Option Waiting
request_after flags now before None = None
request_after flags now before (Some desc) = Some (waiting_since (lacks_space flags desc) now desc before)

-- whether the member of that index is live and says full
abbrev pub says_full : Group → GroupFlags → ℕ → Bool
says_full g one index = is_live g index && unwrap_or (option_map (λ proc. not (has one.space proc.ne)) (slice_get (members_of g) index)) false

-- the lag of a member after one pattern: it rises where the member says full while its group has most space
abbrev pub lag_after : Group → GroupFlags → List ℕ → ℕ → ℕ
lag_after g one lags index = if one.most_space && says_full g one index then slice_index lags index + 1 else 0

abbrev pub lags_after : Group → GroupFlags → List ℕ → List ℕ
lags_after g one lags = map (lag_after g one lags) (0 ∷ 1 ∷ 2 ∷ 3 ∷ [])

-- a group's line after one pattern
abbrev pub line_after : List GroupFlags → ℕ → Group → StateRow → Option GroupFlags → StateRow
line_after flags now g line None = blank_line g.vid
line_after flags now g line (Some one) = record {
  vid = g.vid;
  request = request_after flags now line.request one.desc;
  lags = lags_after g one line.lags;
}

-- the line of a group of the table after one pattern
abbrev pub marked_line : List GroupFlags → ℕ → Scoreboard → Group → StateRow
marked_line flags now board g = line_after flags now g (line_of board g.vid) (flags_named flags g.vid)

-- the scoreboard after the pattern of one cycle, before a request is chosen
unfoldable pub marked : TableValue → List GroupFlags → ℕ → Scoreboard → Scoreboard
marked table flags now board = map (marked_line flags now board) table.groups

-- the line without its request, where it is that of the group
abbrev pub ended : ℕ → StateRow → StateRow
ended vid line = if is_line_of vid line then record line { request = None } else line

-- the scoreboard with one group's request gone
abbrev pub without_request : ℕ → Scoreboard → Scoreboard
without_request vid board = map (ended vid) board

-- the line of a group after an update of one: blank for the group that was updated
abbrev pub updated_line : ℕ → Scoreboard → Group → StateRow
updated_line vid board g = if g.vid == vid then blank_line vid else line_of board g.vid

-- the scoreboard under a table that an update of one group gave: that group's line is blank
abbrev pub after_update : TableValue → ℕ → Scoreboard → Scoreboard
after_update table vid board = map (updated_line vid board) table.groups

-- what the scoreboard shows of a group
abbrev pub request_of : Scoreboard → ℕ → Option (Descriptor × ℕ)
request_of board vid = option_map (λ w. (w.0, w.1)) (line_of board vid).request

abbrev pub starved_of : Scoreboard → ℕ → Option ℕ
starved_of board vid = option_map (λ w. w.2) (line_of board vid).request

abbrev pub lag_of : Scoreboard → ℕ → ℕ → ℕ
lag_of board vid index = slice_index (line_of board vid).lags index
