-- Which request is chosen in a cycle, and what is done with it.
use Rattle.std.specs.Prelude.{ℕ, ◌-◌, Bool, false, not, ◌&&◌, ◌||◌, ◌==◌, nat_lt, nat_le, List, [], ◌∷◌, slice_get, slice_index, Option, Some, None, option_map, unwrap_or, is_some, is_none, filter, filter_map, if◌then◌else◌}
use Rattle.std.specs.List.{list_all}
use Rattle.std.specs.Option.{option_or}
use Rattle.ftpp_base.specs.Sets.{has}
use Rattle.ftpp_base.specs.declared.element.Proc.{Proc}
use Rattle.packet_format.specs.declared.Descriptor.{Descriptor}
use Rattle.config_table.specs.declared.groups.Group.{Group}
use Rattle.config_table.specs.declared.decisions.GroupFlags.{GroupFlags}
use Rattle.config_table.specs.declared.decisions.StateRow.{StateRow}
use Rattle.config_table.specs.declared.decisions.Kind.{Kind}
use Rattle.config_table.specs.declared.decisions.Kind.TheVariants.{Voted, Source, Every}
use Rattle.config_table.specs.declared.decisions.Decision.{Decision}
use Rattle.config_table.specs.declared.decisions.Decision.TheVariants.{Idle, Discard, Exchange}
use Rattle.config_table.specs.Groups.{is_live, live_seats, live_count, members_of}
use Rattle.config_table.specs.Table.{TableValue, group_named}
use Rattle.scoreboard.specs.Board.{Scoreboard, Waiting, line_of, flags_named, marked, without_request}

-- A request that waits: whose it is, what its members say, since when it waits, and how long its receiver had no space.
pub record Request : Type 0 where
  pub sender : Group
  pub flags : GroupFlags
  pub desc : Descriptor
  pub since : ℕ
  pub starved : ℕ

-- the number of the reason, where its condition holds
abbrev pub where_true : Bool → ℕ → Option ℕ
where_true b number = if b then Some number else None

-- why a request is unlawful, the first reason of five
unfoldable pub reason : TableValue → Group → Descriptor → Option ℕ
reason table sender desc =
    option_or (where_true (not (desc.class == 1 || desc.class == 2 || desc.class == 3)) 1)
    (option_or (where_true ((desc.class == 1 || desc.class == 2) && is_none (group_named table desc.dest)) 2)
    (option_or (where_true (desc.class == 2 && not (is_live sender desc.source)) 3)
    (option_or (where_true (desc.class == 3 && not (sender.vid == table.manager)) 4)
    (where_true (desc.class == 3 && not (desc.dest == 0)) 5))))

-- whether a live member says not full or lags by more than its group's timeout
abbrev pub takes_at : Group → GroupFlags → StateRow → ℕ × Proc → Bool
takes_at g one line seat = has one.space seat.1.ne || nat_lt g.tr (slice_index line.lags seat.0)

-- whether each live member of a group does
abbrev pub all_take : Group → GroupFlags → StateRow → Bool
all_take g one line = list_all (takes_at g one line) (live_seats g)

-- whether a group takes a packet now: it has most space, and no live member still has to be waited for
abbrev pub takes : Option Group → Option GroupFlags → StateRow → Bool
takes None one line = false
takes (Some g) None line = false
takes (Some g) (Some one) line = one.most_space && all_take g one line

-- whether the group of that number is granted
abbrev pub is_granted : TableValue → List GroupFlags → Scoreboard → ℕ → Bool
is_granted table flags board vid = takes (group_named table vid) (flags_named flags vid) (line_of board vid)

-- whether a request has waited too long for a group that has no most space
abbrev pub is_expired : TableValue → Request → Bool
is_expired table r = unwrap_or (option_map (λ g. nat_lt 0 g.tx && nat_lt g.tx r.starved) (group_named table r.desc.dest)) false

-- whether all live members hold the request, or the timeout of the sender has passed
abbrev pub is_ready : ℕ → Request → Bool
is_ready now r = r.flags.unanimous || nat_le r.sender.ts (now - r.since)

-- whether a request may be chosen
unfoldable pub is_eligible : TableValue → List GroupFlags → Scoreboard → ℕ → Request → Bool
is_eligible table flags board now r =
    is_ready now r
    && (is_some (reason table r.sender r.desc) || r.desc.class == 3 || is_granted table flags board r.desc.dest || is_expired table r)

-- the request of a group, if its line has one
abbrev pub request_by : Group → Option GroupFlags → Option Waiting → Option Request
request_by g None w = None
request_by g (Some one) None = None
request_by g (Some one) (Some w) = Some (record { sender = g; flags = one; desc = w.0; since = w.1; starved = w.2 })

-- the request of a group of the table
abbrev pub request_in : List GroupFlags → Scoreboard → Group → Option Request
request_in flags board g = request_by g (flags_named flags g.vid) (line_of board g.vid).request

-- the requests that wait, in the order of the table
abbrev pub waiting_requests : TableValue → List GroupFlags → Scoreboard → List Request
waiting_requests table flags board = filter_map (request_in flags board) table.groups

-- the requests that may be chosen
abbrev pub eligible_requests : TableValue → List GroupFlags → Scoreboard → ℕ → List Request
eligible_requests table flags board now = filter (is_eligible table flags board now) (waiting_requests table flags board)

-- whether a request waits longer than another, or as long with the lower group number
abbrev pub precedes : Request → Request → Bool
precedes a b = nat_lt a.since b.since || (a.since == b.since && nat_lt a.sender.vid b.sender.vid)

-- the request that precedes all others
abbrev pub older : Request → Option Request → Request
older r None = r
older r (Some s) = if precedes s r then s else r

abbrev pub oldest : List Request → Option Request
oldest [] = None
oldest (r ∷ rs) = Some (older r (oldest rs))

-- how a lawful request is carried
unfoldable pub kind_of : Group → Descriptor → Kind
kind_of sender desc =
    if desc.class == 1 && nat_le 3 (live_count sender) then Voted
    else if desc.class == 2 then Source (unwrap_or (option_map (λ proc. proc.ne) (slice_get (members_of sender) desc.source)) 0)
    else Every

-- why a request is discarded: it is unlawful, or else expired
abbrev pub discard_reason : TableValue → Request → Option ℕ
discard_reason table r = option_or (reason table r.sender r.desc) (where_true (is_expired table r) 6)

-- what is done with the chosen request
abbrev pub done_with : ℕ → Request → Option ℕ → Decision
done_with now r (Some number) = Discard r.sender.vid r.desc number r.flags.holds (now - r.since)
done_with now r None = Exchange (record {
  vid = r.sender.vid;
  desc = r.desc;
  kind = kind_of r.sender r.desc;
  admitted = r.flags.holds;
  waited = now - r.since;
})

abbrev pub decided : TableValue → ℕ → Option Request → Decision
decided table now None = Idle
decided table now (Some r) = done_with now r (discard_reason table r)

-- the decision of a cycle, by the scoreboard after its pattern
unfoldable pub decision_of : TableValue → List GroupFlags → ℕ → Scoreboard → Decision
decision_of table flags now board = decided table now (oldest (eligible_requests table flags board now))

-- the scoreboard after a decision: the request of the group that it takes is gone
abbrev pub after_decision : Decision → Scoreboard → Scoreboard
after_decision Idle board = board
after_decision (Discard vid desc number admitted waited) board = without_request vid board
after_decision (Exchange service) board = without_request service.vid board

-- one step of the scoreboard: what is decided, and what is kept
abbrev pub scoreboard_decision : TableValue → ℕ → List GroupFlags → Scoreboard → Decision
scoreboard_decision table now flags board = decision_of table flags now (marked table flags now board)

abbrev pub scoreboard_after : TableValue → ℕ → List GroupFlags → Scoreboard → Scoreboard
scoreboard_after table now flags board = after_decision (scoreboard_decision table now flags board) (marked table flags now board)
