-- What a decision has of the group that it serves: the request that is voted, and the members that hold it.
use Rattle.std.proofs.Common.{◌≡◌, ℕ, ◌+◌, Bool, true, false, cond, List, [], ◌∷◌, refl, ap, sym, ◌∙◌, subst}
use Rattle.std.specs.Prelude.{Option, Some, None, option_map, unwrap_or, find, filter_map, ◌==◌}
use Rattle.std.specs.List.{AllByRecursion, cons_option}
use Rattle.std.proofs.lemmas.Bool.{eqb-true}
use Rattle.packet_format.specs.declared.Descriptor.{Descriptor}
use Rattle.packet_format.specs.Packets.{same_descriptor}
use Rattle.config_table.specs.declared.groups.Group.{Group}
use Rattle.config_table.specs.declared.decisions.GroupFlags.{GroupFlags}
use Rattle.config_table.specs.declared.decisions.Decision.{Decision}
use Rattle.config_table.specs.declared.decisions.Decision.TheVariants.{Idle, Discard, Exchange}
use Rattle.config_table.specs.declared.decisions.Kind.TheVariants.{Every}
use Rattle.config_table.specs.declared.decisions.Service.{Service}
use Rattle.config_table.specs.Table.{TableValue, group_named, is_named}
use Rattle.flag_vote.specs.Flags.{Pattern, voted_descriptor, flags_of, voted_flags}
use Rattle.scoreboard.specs.Board.{Scoreboard, Waiting, blank_line, is_line_of, line_of, are_flags_of, flags_named, lacks_space, waiting_since, request_after, line_after, marked_line, marked}
use Rattle.scoreboard.specs.Choice.{Request, is_eligible, request_by, request_in, waiting_requests, eligible_requests, precedes, older, oldest, discard_reason, done_with, decided, decision_of, scoreboard_decision}
use Rattle.ftpp_base.proofs.Items.{find-map}
use Rattle.ftpp_base.proofs.Among.{all-filter}
use Rattle.scoreboard.proofs.Lines.{keeps_vid}

-- ---- what is found among things made of the groups

-- the flags of a group, among those of all groups
pub flags_named-voted : (table : TableValue) (pattern : Pattern) (vid : ℕ) → flags_named (voted_flags table pattern) vid ≡ option_map (flags_of pattern) (group_named table vid)
unfolding flags_of
flags_named-voted table pattern vid = find-map (are_flags_of vid) (is_named vid) (flags_of pattern) table.groups (λ g. refl)

-- the line of a group, among those that were marked
pub find-marked : (table : TableValue) (flags : List GroupFlags) (now : ℕ) (board : Scoreboard) (vid : ℕ)
    → find (is_line_of vid) (marked table flags now board) ≡ option_map (marked_line flags now board) (group_named table vid)
unfolding marked
find-marked table flags now board vid =
    find-map (is_line_of vid) (is_named vid) (marked_line flags now board) table.groups
    (λ g. ap (λ k. k == vid) (keeps_vid flags now g (line_of board g.vid) (flags_named flags g.vid)))

-- what is found has the number
abbrev pub HasVid : ℕ → Option Group → Type 0
HasVid vid None = Unit {0}
HasVid vid (Some g) = g.vid ≡ vid

-- this one, or a later one
vid_by : (b : Bool) (vid : ℕ) (g : Group) (o : Option Group) → (b ≡ true → g.vid ≡ vid) → HasVid vid o → HasVid vid (cond b (Some g) o)
vid_by true vid g o e h = e refl
vid_by false vid g o e h = h

-- the one that is found has the number
vid_found : (vid : ℕ) (gs : List Group) → HasVid vid (find (is_named vid) gs)
vid_found vid [] = tt
vid_found vid (g ∷ gs) = vid_by (g.vid == vid) vid g (find (is_named vid) gs) (eqb-true g.vid vid) (vid_found vid gs)

-- so has the group of that number
pub HasVid-named : (table : TableValue) (vid : ℕ) → HasVid vid (group_named table vid)
HasVid-named table vid = vid_found vid table.groups

-- ---- requests

-- What a request has of its group.
pub record IsRequest (table : TableValue) (pattern : Pattern) (r : Request) : Type 0 where
  pub group : Group
  pub named : group_named table r.sender.vid ≡ Some group
  pub voted : voted_descriptor pattern group ≡ Some r.desc
  pub flags : r.flags ≡ flags_of pattern group

-- what holds of a request, if there is one
abbrev pub IfRequest : (Request → Type 0) → Option Request → Type 0
IfRequest P None = Unit {0}
IfRequest P (Some r) = P r

-- whichever it is
waiting_if : (b : Bool) (desc : Descriptor) (x y : ℕ × ℕ) → (cond {A = Waiting} b (desc, x.0, x.1) (desc, y.0, y.1)).0 ≡ desc
waiting_if true desc x y = refl
waiting_if false desc x y = refl

-- a request that waits is the one that is voted
pub waiting_desc : (starves : Bool) (now : ℕ) (desc : Descriptor) (before : Option Waiting) → (waiting_since starves now desc before).0 ≡ desc
waiting_desc starves now desc None = refl
waiting_desc starves now desc (Some w) = waiting_if (same_descriptor w.0 desc) desc (w.1, cond starves (w.2 + 1) 0) (now, cond starves 1 0)

-- the request of a group, by its voted request
asked : (table : TableValue) (pattern : Pattern) (flags : List GroupFlags) (now : ℕ) (before : Option Waiting) (sender g : Group) (desc : Option Descriptor)
    → group_named table sender.vid ≡ Some g → voted_descriptor pattern g ≡ desc
    → IfRequest (IsRequest table pattern) (request_by sender (Some (flags_of pattern g)) (request_after flags now before desc))
asked table pattern flags now before sender g None named voted = tt
asked table pattern flags now before sender g (Some desc) named voted = record {
  group = g;
  named = named;
  voted = voted ∙ ap (λ d. Some d) (sym (waiting_desc (lacks_space flags desc) now desc before));
  flags = refl;
}

-- the flags have the voted request
pub flags_desc : (pattern : Pattern) (g : Group) → (flags_of pattern g).desc ≡ voted_descriptor pattern g
unfolding flags_of
flags_desc pattern g = refl

-- the request of a line that was marked with the flags of its group
marked_request : (flags : List GroupFlags) (now : ℕ) (board : Scoreboard) (pattern : Pattern) (g : Group) → flags_named flags g.vid ≡ Some (flags_of pattern g)
    → (marked_line flags now board g).request ≡ request_after flags now (line_of board g.vid).request (voted_descriptor pattern g)
marked_request flags now board pattern g e =
    ap (λ one. (line_after flags now g (line_of board g.vid) one).request) e
    ∙ ap (request_after flags now (line_of board g.vid).request) (flags_desc pattern g)

-- by whether the group is found
request_from : (table : TableValue) (pattern : Pattern) (now : ℕ) (board : Scoreboard) (sender : Group) (found : Option Group)
    → group_named table sender.vid ≡ found → HasVid sender.vid found
    → IfRequest (IsRequest table pattern) (request_by sender (option_map (flags_of pattern) found) (unwrap_or (option_map (marked_line (voted_flags table pattern) now board) found) (blank_line sender.vid)).request)
request_from table pattern now board sender None named has = tt
request_from table pattern now board sender (Some g) named has =
    let flags = voted_flags table pattern in
    let own : flags_named flags g.vid ≡ Some (flags_of pattern g) =
    ap (flags_named flags) has ∙ flags_named-voted table pattern sender.vid ∙ ap (option_map (flags_of pattern)) named in
    subst (λ w. IfRequest (IsRequest table pattern) (request_by sender (Some (flags_of pattern g)) w)) (sym (marked_request flags now board pattern g own))
    (asked table pattern flags now (line_of board g.vid).request sender g (voted_descriptor pattern g) named refl)

-- the request of a group of the table
request_fits : (table : TableValue) (pattern : Pattern) (now : ℕ) (board : Scoreboard) (sender : Group)
    → IfRequest (IsRequest table pattern) (request_in (voted_flags table pattern) (marked table (voted_flags table pattern) now board) sender)
request_fits table pattern now board sender =
    let flags = voted_flags table pattern in
    subst (λ o. IfRequest (IsRequest table pattern) (request_by sender o (line_of (marked table flags now board) sender.vid).request)) (sym (flags_named-voted table pattern sender.vid))
    (subst (λ o. IfRequest (IsRequest table pattern) (request_by sender (option_map (flags_of pattern) (group_named table sender.vid)) (unwrap_or o (blank_line sender.vid)).request))
    (sym (find-marked table flags now board sender.vid))
    (request_from table pattern now board sender (group_named table sender.vid) refl (HasVid-named table sender.vid)))

-- ---- of all requests the oldest

-- one more, if there is one
cons_all : (P : Request → Type 0) (o : Option Request) (rs : List Request) → IfRequest P o → AllByRecursion P rs → AllByRecursion P (cons_option o rs)
cons_all P None rs p a = a
cons_all P (Some r) rs p a = (p, a)

-- what holds of each that is made holds of all
all_filter_map : {A : Type 0} (P : Request → Type 0) (f : A → Option Request) (xs : List A) → ((x : A) → IfRequest P (f x)) → AllByRecursion P (filter_map f xs)
all_filter_map P f [] h = tt
all_filter_map P f (x ∷ xs) h = cons_all P (f x) (filter_map f xs) (h x) (all_filter_map P f xs h)

-- one of two
older_by : (P : Request → Type 0) (b : Bool) (r s : Request) → P r → P s → P (cond b s r)
older_by P true r s p q = q
older_by P false r s p q = p

-- the older of two
older_has : (P : Request → Type 0) (r : Request) (o : Option Request) → P r → IfRequest P o → P (older r o)
older_has P r None p q = p
older_has P r (Some s) p q = older_by P (precedes s r) r s p q

-- what holds of all holds of the oldest
pub oldest_has : (P : Request → Type 0) (rs : List Request) → AllByRecursion P rs → IfRequest P (oldest rs)
oldest_has P [] a = tt
oldest_has P (r ∷ rs) a = older_has P r (oldest rs) a.0 (oldest_has P rs a.1)

-- ---- the decision

-- What an exchange has of the group that it serves.
pub record Serves (table : TableValue) (pattern : Pattern) (service : Service) : Type 0 where
  pub group : Group
  pub named : group_named table service.vid ≡ Some group
  pub voted : voted_descriptor pattern group ≡ Some service.desc
  pub admitted : service.admitted ≡ (flags_of pattern group).holds

-- what holds of the service of an exchange
abbrev pub IfExchange : (Service → Type 0) → Decision → Type 0
IfExchange P Idle = Unit {0}
IfExchange P (Discard vid desc number admitted waited) = Unit {0}
IfExchange P (Exchange service) = P service

-- what holds of the service of an exchange, and of a discard as if it were one
abbrev pub IfTaken : (Service → Type 0) → Decision → Type 0
IfTaken P Idle = Unit {0}
IfTaken P (Discard vid desc number admitted waited) = P (record { vid = vid; desc = desc; kind = Every; admitted = admitted; waited = waited })
IfTaken P (Exchange service) = P service

-- by whether it is discarded
done_takes : (table : TableValue) (pattern : Pattern) (now : ℕ) (r : Request) (reason : Option ℕ) → IsRequest table pattern r → IfTaken (Serves table pattern) (done_with now r reason)
done_takes table pattern now r (Some number) is = record { group = is.group; named = is.named; voted = is.voted; admitted = ap (λ flags. flags.holds) is.flags }
done_takes table pattern now r None is = record { group = is.group; named = is.named; voted = is.voted; admitted = ap (λ flags. flags.holds) is.flags }

-- by whether there is a request
decided_takes : (table : TableValue) (pattern : Pattern) (now : ℕ) (o : Option Request) → IfRequest (IsRequest table pattern) o → IfTaken (Serves table pattern) (decided table now o)
decided_takes table pattern now None is = tt
decided_takes table pattern now (Some r) is = done_takes table pattern now r (discard_reason table r) is

-- a decision takes the request that is voted in its group, and admits those that hold it
pub decision_takes : (table : TableValue) (pattern : Pattern) (now : ℕ) (board : Scoreboard)
    → IfTaken (Serves table pattern) (scoreboard_decision table now (voted_flags table pattern) board)
unfolding decision_of
decision_takes table pattern now board =
    let flags = voted_flags table pattern in
    let after = marked table flags now board in
    decided_takes table pattern now (oldest (eligible_requests table flags after now))
    (oldest_has (IsRequest table pattern) (eligible_requests table flags after now)
    (all-filter (IsRequest table pattern) (is_eligible table flags after now) (waiting_requests table flags after)
    (all_filter_map (IsRequest table pattern) (request_in flags after) table.groups (request_fits table pattern now board))))

-- what holds of both holds of an exchange
of_exchange : (P : Service → Type 0) (decision : Decision) → IfTaken P decision → IfExchange P decision
of_exchange P Idle is = tt
of_exchange P (Discard vid desc number admitted waited) is = tt
of_exchange P (Exchange service) is = is

-- an exchange serves the request that is voted in its group, and admits those that hold it
pub decision_serves : (table : TableValue) (pattern : Pattern) (now : ℕ) (board : Scoreboard)
    → IfExchange (Serves table pattern) (scoreboard_decision table now (voted_flags table pattern) board)
decision_serves table pattern now board =
    of_exchange (Serves table pattern) (scoreboard_decision table now (voted_flags table pattern) board) (decision_takes table pattern now board)
