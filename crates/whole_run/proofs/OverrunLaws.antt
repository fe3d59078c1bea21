-- What stands behind an overrun: a full input, and a receiver that was granted without it.
use Rattle.std.proofs.Common.{◌≡◌, ◌≢◌, ℕ, zero, suc, ◌+◌, Bool, true, false, cond, List, [], ◌∷◌, refl, ap, arith, map, sym, ◌∙◌, ◌⊎◌, inl, inr, subst}
use Rattle.std.specs.Prelude.{Option, Some, None, is_some, option_map, unwrap_or, find, slice_get, slice_index, ◌||◌, ◌==◌}
use Rattle.std.specs.List.{AllByRecursion, fold, list_all, enumerate_from}
use Rattle.std.specs.Option.{option_or}
use Rattle.std.proofs.lemmas.Bool.{eqb-true, and_parts, or_cases}
use Rattle.ftpp_base.specs.Lists.{cell_at}
use Rattle.ftpp_base.specs.declared.element.Proc.{Proc}
use Rattle.packet_format.specs.declared.Descriptor.{Descriptor}
use Rattle.packet_format.specs.declared.Packet.{Packet}
use Rattle.config_table.specs.declared.groups.Group.{Group}
use Rattle.config_table.specs.declared.decisions.GroupFlags.{GroupFlags}
use Rattle.config_table.specs.declared.decisions.StateRow.{StateRow}
use Rattle.config_table.specs.declared.decisions.Decision.{Decision}
use Rattle.config_table.specs.declared.decisions.Decision.TheVariants.{Idle, Discard, Exchange}
use Rattle.config_table.specs.declared.decisions.Service.{Service}
use Rattle.config_table.specs.Groups.{members_of, is_unmasked, live_seats, live_members}
use Rattle.config_table.specs.Table.{TableValue, group_named, in_limit}
use Rattle.scoreboard.specs.Board.{Scoreboard, line_of, flags_named, without_request, lag_of}
use Rattle.scoreboard.specs.Choice.{Request, reason, where_true, is_expired, is_granted, is_ready, is_eligible, takes, takes_at, all_take, waiting_requests, eligible_requests, oldest, discard_reason, done_with, decided, decision_of}
use Rattle.processor_buffers.specs.Queues.{Queues, carries, head_of, rest, has_in_room, after_pop, handed_by}
use Rattle.processor_buffers.specs.declared.Handed.{Handed}
use Rattle.processor_buffers.specs.declared.Handed.TheVariants.{Stored, Overrun}
use Rattle.data_exchange.specs.Entries.{senders, member_at}
use Rattle.element_core.specs.Processors.{AllQueues, queues_of, with_queues}
use Rattle.element_core.specs.Cycle.{admitted_members, is_delivered, receivers, after_service, handed_to, handed_at}
use Rattle.element_core.proofs.DecisionLaws.{IfRequest, oldest_has, IfExchange}
use Rattle.element_core.proofs.Accepted.{slice_get-all}
use Rattle.config_table.proofs.ValidTable.{AreApart}
use Rattle.ftpp_base.proofs.Among.{all-filter, all-pass, either}
use Rattle.element_core.proofs.Places.{with_queues-either}
use Rattle.scoreboard.proofs.Rows.{kept_lags}

-- ---- an overrun comes of a full input

-- What an overrun at an element says.
pub record Overran (table : TableValue) (queues : AllQueues) (decision : Decision) (ne : ℕ) (proc : Proc) : Type 0 where
  pub service : Service
  pub decided : decision ≡ Exchange service
  pub found : member_at (receivers table service) ne ≡ Some proc
  pub full : has_in_room (in_limit table proc) (queues_of queues proc) ≡ false

-- an overrun is where there is no room
full_by : (b : Bool) → cond b Stored Overrun ≡ Overrun → b ≡ false
full_by true e = cc
full_by false e = refl

-- by whether there is a receiver and an entry
handed_full : (table : TableValue) (queues : AllQueues) (service : Service) (ne : ℕ) (found : Option Proc) (entry : Option Packet) (proc : Proc) → member_at (receivers table service) ne ≡ found
    → handed_to table queues found entry ≡ Some (proc, Overrun) → Overran table queues (Exchange service) ne proc
handed_full table queues service ne None entry proc at e = cc
handed_full table queues service ne (Some p) None proc at e = cc
handed_full table queues service ne (Some p) (Some packet) proc at e =
    let pair : (p, handed_by (in_limit table p) (queues_of queues p)) ≡ (proc, Overrun) = cc in
    let same : p ≡ proc = ap (λ (h : Proc × Handed). h.0) pair in
    let over : handed_by (in_limit table p) (queues_of queues p) ≡ Overrun = ap (λ (h : Proc × Handed). h.1) pair in
    record {
      service = service;
      decided = refl;
      found = at ∙ ap (λ q. Some q) same;
      full = subst (λ q. has_in_room (in_limit table q) (queues_of queues q) ≡ false) same (full_by (has_in_room (in_limit table p) (queues_of queues p)) over);
    }

-- an overrun is that of an exchange to a full input
pub handed_overran : (table : TableValue) (queues : AllQueues) (decision : Decision) (entries : List (Option Packet)) (ne : ℕ) (proc : Proc)
    → handed_at table queues decision entries ne ≡ Some (proc, Overrun) → Overran table queues decision ne proc
handed_overran table queues Idle entries ne proc e = cc
handed_overran table queues (Discard vid desc number admitted waited) entries ne proc e = cc
handed_overran table queues (Exchange service) entries ne proc e = handed_full table queues service ne (member_at (receivers table service) ne) (cell_at entries ne) proc refl e

-- heads that go leave the inputs
pops_input : (desc : Descriptor) (ps : List Proc) (all : AllQueues) (proc : Proc) → (queues_of (fold (with_queues (after_pop desc)) all ps) proc).input ≡ (queues_of all proc).input
pops_input desc [] all proc = refl
pops_input desc (p ∷ ps) all proc =
    let Same : Queues → Type 0 = λ q. q.input ≡ (queues_of all proc).input in
    let q = queues_of all proc in
    pops_input desc ps (with_queues (after_pop desc) all p) proc
    ∙ with_queues-either Same (after_pop desc) all p proc (λ e. either Same (carries (head_of q) desc) (record { output = rest q.output; input = q.input }) q refl refl) refl

-- so do all heads that go
pub service_input : (table : TableValue) (decision : Decision) (all : AllQueues) (proc : Proc) → (queues_of (after_service table decision all) proc).input ≡ (queues_of all proc).input
service_input table Idle all proc = refl
service_input table (Discard vid desc number admitted waited) all proc = pops_input desc (admitted_members table vid admitted) all proc
service_input table (Exchange service) all proc = pops_input service.desc (admitted_members table service.vid service.admitted) all proc

-- ---- the receiver of an exchange of class 1 or 2

-- What a receiver found at an element says.
pub record Receives (table : TableValue) (service : Service) (ne : ℕ) (proc : Proc) : Type 0 where
  pub group : Group
  pub named : group_named table service.desc.dest ≡ Some group
  pub delivered : is_delivered service.desc.class ≡ true
  pub found : member_at (live_members group) ne ≡ Some proc

-- by whether the group is found
receives_from : (table : TableValue) (service : Service) (ne : ℕ) (proc : Proc) (o : Option Group) → group_named table service.desc.dest ≡ o → is_delivered service.desc.class ≡ true
    → member_at (unwrap_or (option_map live_members o) []) ne ≡ Some proc → Receives table service ne proc
receives_from table service ne proc None named d e = cc
receives_from table service ne proc (Some g) named d e = record { group = g; named = named; delivered = d; found = e }

-- by whether the class is delivered
receives_by : (b : Bool) (table : TableValue) (service : Service) (ne : ℕ) (proc : Proc) → is_delivered service.desc.class ≡ b
    → member_at (cond b (senders table service.desc.dest) []) ne ≡ Some proc → Receives table service ne proc
receives_by true table service ne proc d e = receives_from table service ne proc (group_named table service.desc.dest) refl d e
receives_by false table service ne proc d e = cc

-- a receiver that is found is a live member of the destination
pub receives_found : (table : TableValue) (service : Service) (ne : ℕ) (proc : Proc) → member_at (receivers table service) ne ≡ Some proc → Receives table service ne proc
receives_found table service ne proc e = receives_by (is_delivered service.desc.class) table service ne proc refl e

-- ---- such an exchange was granted

-- by the class
class_by : (class : ℕ) → ((class == 1) ≡ true) ⊎ ((class == 2) ≡ true) → (class == 3) ≡ false
class_by class (inl e) = ap (λ c. c == 3) (eqb-true class 1 e)
class_by class (inr e) = ap (λ c. c == 3) (eqb-true class 2 e)

-- it is not of class 3
pub not_three : (class : ℕ) → is_delivered class ≡ true → (class == 3) ≡ false
not_three class e = class_by class (or_cases (class == 1) (class == 2) e)

-- where three of four tests fail, the other passes
third_of : (a b c d : Bool) → (a || b || c || d) ≡ true → a ≡ false → b ≡ false → d ≡ false → c ≡ true
third_of true b c d e p q r = cc
third_of false true c d e p q r = cc
third_of false false true d e p q r = refl
third_of false false false d e p q r = let no_more : d ≡ true = e in cc

-- a request that is not discarded has no reason and is not expired
no_reason : (o : Option ℕ) (b : Bool) → option_or o (where_true b 6) ≡ None → (o ≡ None) × (b ≡ false)
no_reason None true e = cc
no_reason None false e = (refl, refl)
no_reason (Some x) b e = cc

-- its destination is granted, where it is of class 1 or 2
abbrev pub IsGranted : TableValue → List GroupFlags → Scoreboard → Service → Type 0
IsGranted table flags board service = is_delivered service.desc.class ≡ true → is_granted table flags board service.desc.dest ≡ true

-- one that is eligible and not discarded
granted_by : (table : TableValue) (flags : List GroupFlags) (board : Scoreboard) (now : ℕ) (r : Request) → is_eligible table flags board now r ≡ true → discard_reason table r ≡ None
    → is_delivered r.desc.class ≡ true → is_granted table flags board r.desc.dest ≡ true
unfolding is_eligible
granted_by table flags board now r eligible none delivered =
    let both = and_parts (is_ready now r) (is_some (reason table r.sender r.desc) || r.desc.class == 3 || is_granted table flags board r.desc.dest || is_expired table r) eligible in
    let facts = no_reason (reason table r.sender r.desc) (is_expired table r) none in
    third_of (is_some (reason table r.sender r.desc)) (r.desc.class == 3) (is_granted table flags board r.desc.dest) (is_expired table r) both.1
    (ap is_some facts.0) (not_three r.desc.class delivered) facts.1

-- by whether it is discarded
done_granted : (table : TableValue) (flags : List GroupFlags) (board : Scoreboard) (now : ℕ) (r : Request) (why : Option ℕ) → discard_reason table r ≡ why → is_eligible table flags board now r ≡ true
    → IfExchange (IsGranted table flags board) (done_with now r why)
done_granted table flags board now r (Some number) e eligible = tt
done_granted table flags board now r None e eligible = granted_by table flags board now r eligible e

-- by whether there is a request
decided_granted : (table : TableValue) (flags : List GroupFlags) (board : Scoreboard) (now : ℕ) (o : Option Request) → IfRequest (λ r. is_eligible table flags board now r ≡ true) o
    → IfExchange (IsGranted table flags board) (decided table now o)
decided_granted table flags board now None is = tt
decided_granted table flags board now (Some r) is = done_granted table flags board now r (discard_reason table r) refl is

-- an exchange of class 1 or 2 is to a granted destination
pub decision_granted : (table : TableValue) (flags : List GroupFlags) (now : ℕ) (board : Scoreboard) → IfExchange (IsGranted table flags board) (decision_of table flags now board)
unfolding decision_of
decision_granted table flags now board =
    decided_granted table flags board now (oldest (eligible_requests table flags board now))
    (oldest_has (λ r. is_eligible table flags board now r ≡ true) (eligible_requests table flags board now) (all-pass (is_eligible table flags board now) (waiting_requests table flags board)))

-- what a test passes of all it passes of each
list_true : {A : Type 0} (test : A → Bool) (xs : List A) → list_all test xs ≡ true → AllByRecursion (λ x. test x ≡ true) xs
list_true test [] e = tt
list_true test (x ∷ xs) e = let both = and_parts (test x) (list_all test xs) e in (both.0, list_true test xs both.1)

-- by the group and its flags
takes_parts : (o : Option Group) (f : Option GroupFlags) (line : StateRow) (g : Group) (one : GroupFlags) → o ≡ Some g → f ≡ Some one → takes o f line ≡ true
    → AllByRecursion (λ seat. takes_at g one line seat ≡ true) (live_seats g)
takes_parts o f line g one named flagged e =
    let whole : takes (Some g) (Some one) line ≡ true = (λ i. takes (sym named i) (sym flagged i) line) ∙ e in
    list_true (takes_at g one line) (live_seats g) (and_parts one.most_space (all_take g one line) whole).1

-- each live member of a granted destination has space or lags
pub granted_seats : (table : TableValue) (flags : List GroupFlags) (board : Scoreboard) (vid : ℕ) (g : Group) (one : GroupFlags) → is_granted table flags board vid ≡ true
    → group_named table vid ≡ Some g → flags_named flags vid ≡ Some one → AllByRecursion (λ seat. takes_at g one (line_of board vid) seat ≡ true) (live_seats g)
granted_seats table flags board vid g one e named flagged = takes_parts (group_named table vid) (flags_named flags vid) (line_of board vid) g one named flagged e

-- ---- seats

-- a seat of a list from a number on has the entry that far in the list
abbrev pub IsSeat : ℕ → List Proc → ℕ × Proc → Type 0
IsSeat k ps seat = (j : ℕ) × (seat.0 ≡ k + j) × (slice_get ps j ≡ Some seat.1)

-- the seats of the later members
seats_later : (k : ℕ) (p : Proc) (ps : List Proc) (seats : List (ℕ × Proc)) → AllByRecursion (IsSeat (k + 1) ps) seats → AllByRecursion (IsSeat k (p ∷ ps)) seats
seats_later k p ps [] a = tt
seats_later k p ps (s ∷ ss) a = let far = a.0.1 in ((suc a.0.0, (omega arith), a.0.2), seats_later k p ps ss a.1)

-- each seat has its member
seats_are : (k : ℕ) (ps : List Proc) → AllByRecursion (IsSeat k ps) (enumerate_from k ps)
seats_are k [] = tt
seats_are k (p ∷ ps) = ((0, (omega arith), refl), seats_later k p ps (enumerate_from (k + 1) ps) (seats_are (k + 1) ps))

-- each live seat of a group has its member
pub live_seats_are : (g : Group) → AllByRecursion (IsSeat 0 (members_of g)) (live_seats g)
live_seats_are g = all-filter (IsSeat 0 (members_of g)) (is_unmasked g) (enumerate_from 0 (members_of g)) (seats_are 0 (members_of g))

-- this seat, or a later one
seat_by : (P : ℕ × Proc → Type 0) (b : Bool) (seat : ℕ × Proc) (o : Option Proc) (proc : Proc) → P seat → cond b (Some seat.1) o ≡ Some proc
    → (o ≡ Some proc → (index : ℕ) × P (index, proc)) → (index : ℕ) × P (index, proc)
seat_by P true seat o proc p e more = let same : seat.1 ≡ proc = cc in (seat.0, subst (λ q. P (seat.0, q)) same p)
seat_by P false seat o proc p e more = more e

-- what holds of all seats holds of that of a member that is found
pub seat_found : (P : ℕ × Proc → Type 0) (test : Proc → Bool) (seats : List (ℕ × Proc)) (proc : Proc) → AllByRecursion P seats → find test (map (λ seat. seat.1) seats) ≡ Some proc → (index : ℕ) × P (index, proc)
seat_found P test [] proc a e = cc
seat_found P test (s ∷ ss) proc a e = seat_by P (test s.1) s (find test (map (λ seat. seat.1) ss)) proc a.0 e (seat_found P test ss proc a.1)

-- of members that stand apart, each has one place
pub one_place : (ps : List Proc) (i j : ℕ) (p : Proc) → AreApart ps → slice_get ps i ≡ Some p → slice_get ps j ≡ Some p → i ≡ j
one_place [] i j p a e f = cc
one_place (q ∷ qs) zero zero p a e f = refl
one_place (q ∷ qs) zero (suc j) p a e f = let same : q ≡ p = cc in absurd (slice_get-all (λ r. q.ne ≢ r.ne) qs j p a.0 f (ap (λ r. r.ne) same))
one_place (q ∷ qs) (suc i) zero p a e f = let same : q ≡ p = cc in absurd (slice_get-all (λ r. q.ne ≢ r.ne) qs i p a.0 e (ap (λ r. r.ne) same))
one_place (q ∷ qs) (suc i) (suc j) p a e f = ap suc (one_place qs i j p a.1 e f)

-- ---- lags

-- a request that goes leaves the lags
pub lag-without : (vid : ℕ) (board : Scoreboard) (other index : ℕ) → lag_of (without_request vid board) other index ≡ lag_of board other index
lag-without vid board other index = ap (λ lags. slice_index lags index) (kept_lags vid board other)
