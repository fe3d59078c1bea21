-- The request that a decision takes, and the lines of the scoreboard around it.
use Rattle.std.proofs.Common.{◌≡◌, ℕ, ◌+◌, Bool, true, false, cond, List, refl, ap, sym, ◌∙◌, subst, Option, Some, None, option_map}
use Rattle.std.specs.Prelude.{◌==◌}
use Rattle.std.proofs.lemmas.Bool.{eqb-true, and_parts}
use Rattle.packet_format.specs.declared.Descriptor.{Descriptor}
use Rattle.packet_format.specs.Packets.{same_descriptor}
use Rattle.config_table.specs.declared.groups.Group.{Group}
use Rattle.config_table.specs.declared.decisions.GroupFlags.{GroupFlags}
use Rattle.config_table.specs.declared.decisions.Decision.{Decision}
use Rattle.config_table.specs.Table.{TableValue, group_named, is_named, IsValid}
use Rattle.flag_vote.specs.Flags.{Pattern, flags_of, voted_flags, voted_descriptor}
use Rattle.scoreboard.specs.Board.{Scoreboard, Waiting, line_of, marked, are_flags_of, flags_named, request_after, waiting_since, lacks_space}
use Rattle.scoreboard.specs.Choice.{Request, request_by, request_in, waiting_requests, eligible_requests, is_eligible, is_ready, oldest, discard_reason, done_with, decided, decision_of, scoreboard_decision}
use Rattle.scoreboard.proofs.Rows.{marked_request as request_marked}
use Rattle.scoreboard.proofs.Chosen.{of_by, oldest_item, takes-decided}
use Rattle.scoreboard.specs.Service.{takes_of}
use Rattle.ftpp_base.proofs.Items.{IsItem, item_filter, item_filter_map, find-map}
use Rattle.config_table.proofs.Validity.{valid_named}
use Rattle.element_core.proofs.DecisionLaws.{flags_desc, waiting_desc}

-- ---- the flags and the line of a group

-- flags have the number of their group
flags_vid : (pattern : Pattern) (g : Group) → (flags_of pattern g).vid ≡ g.vid
unfolding flags_of
flags_vid pattern g = refl

-- the flags of a group of the table
pub flags_named-group : (table : TableValue) (pattern : Pattern) (vid : ℕ) (g : Group) → group_named table vid ≡ Some g → flags_named (voted_flags table pattern) vid ≡ Some (flags_of pattern g)
flags_named-group table pattern vid g named =
    find-map (are_flags_of vid) (is_named vid) (flags_of pattern) table.groups (λ h. ap (λ v. v == vid) (flags_vid pattern h)) ∙ ap (option_map (flags_of pattern)) named

-- the request of a group after one pattern
abbrev pub marked_request : TableValue → Pattern → ℕ → Scoreboard → Group → Option Waiting
marked_request table pattern now board g = request_after (voted_flags table pattern) now (line_of board g.vid).request (voted_descriptor pattern g)

-- that is what the line of the group has then
pub request-marked : (table : TableValue) (pattern : Pattern) (now : ℕ) (board : Scoreboard) (g : Group) → group_named table g.vid ≡ Some g
    → (line_of (marked table (voted_flags table pattern) now board) g.vid).request ≡ marked_request table pattern now board g
request-marked table pattern now board g named =
    request_marked table (voted_flags table pattern) now board g.vid g (flags_of pattern g) named (flags_named-group table pattern g.vid g named)
    ∙ ap (request_after (voted_flags table pattern) now (line_of board g.vid).request) (flags_desc pattern g)

-- ---- the chosen request

-- A request that waits in the name of its own group, and may be chosen.
pub record MayTake (table : TableValue) (flags : List GroupFlags) (board : Scoreboard) (now : ℕ) (r : Request) : Type 0 where
  pub own : group_named table r.sender.vid ≡ Some r.sender
  pub waits : request_in flags board r.sender ≡ Some r
  pub ready : is_ready now r ≡ true

-- so is each that may be chosen under a valid table
pub eligible-may : (table : TableValue) (flags : List GroupFlags) (board : Scoreboard) (now : ℕ) → IsValid table → (r : Request) → IsItem (eligible_requests table flags board now) r → MayTake table flags board now r
unfolding is_eligible
eligible-may table flags board now valid r i =
    let kept = item_filter (is_eligible table flags board now) (waiting_requests table flags board) r i in
    let made = item_filter_map (request_in flags board) table.groups r kept.0 in
    let h : Group = made.0 in
    let same : r.sender ≡ h = (of_by board h (flags_named flags h.vid) (line_of board h.vid).request r refl made.2).sender in
    record {
      own = subst (λ (g : Group). group_named table g.vid ≡ Some g) (sym same) (valid_named table valid h made.1);
      waits = ap (request_in flags board) same ∙ made.2;
      ready = (and_parts (is_ready now r) _ kept.1).0;
    }

-- the request of a group with a line that waits
abbrev pub request_for : Pattern → Group → Waiting → Request
request_for pattern g w = record { sender = g; flags = flags_of pattern g; desc = w.0; since = w.1; starved = w.2 }

-- What is known of a decision that takes a group's request.
pub record Takes (table : TableValue) (pattern : Pattern) (now : ℕ) (board : Scoreboard) (g : Group) (decision : Decision) : Type 0 where
  pub waiting : Waiting
  pub marked : marked_request table pattern now board g ≡ Some waiting
  pub ready : is_ready now (request_for pattern g waiting) ≡ true
  pub done : decision ≡ done_with now (request_for pattern g waiting) (discard_reason table (request_for pattern g waiting))

-- a request is made of what waits
some_request : (g : Group) (one : GroupFlags) (o : Option Waiting) (r : Request) → request_by g (Some one) o ≡ Some r
    → (w : Waiting) × (o ≡ Some w) × (r ≡ record { sender = g; flags = one; desc = w.0; since = w.1; starved = w.2 })
some_request g one None r e = cc
some_request g one (Some w) r e =
    let x : Request = record { sender = g; flags = one; desc = w.0; since = w.1; starved = w.2 } in
    let same : r ≡ x = cc in (w, refl, same)

-- the request of a group of the table, by its flags and its line
pub request_in-group : (table : TableValue) (pattern : Pattern) (now : ℕ) (board : Scoreboard) (g : Group) → group_named table g.vid ≡ Some g
    → request_in (voted_flags table pattern) (marked table (voted_flags table pattern) now board) g ≡ request_by g (Some (flags_of pattern g)) (marked_request table pattern now board g)
request_in-group table pattern now board g named =
    (λ i. request_by g (flags_named-group table pattern g.vid g named i) (request-marked table pattern now board g named i))

-- a ready request of what waits is one that a decision takes
takes_from : (table : TableValue) (pattern : Pattern) (now : ℕ) (board : Scoreboard) (g : Group) (r : Request) (w : Waiting) → marked_request table pattern now board g ≡ Some w
    → r ≡ request_for pattern g w → is_ready now r ≡ true → Takes table pattern now board g (done_with now r (discard_reason table r))
takes_from table pattern now board g r w waits is ready = record {
  waiting = w;
  marked = waits;
  ready = ap (is_ready now) (sym is) ∙ ready;
  done = ap (λ (q : Request). done_with now q (discard_reason table q)) is;
}

-- a chosen request, or none
takes_by : (table : TableValue) (pattern : Pattern) (now : ℕ) (board : Scoreboard) (g : Group) (o : Option Request) → group_named table g.vid ≡ Some g
    → ((r : Request) → o ≡ Some r → MayTake table (voted_flags table pattern) (marked table (voted_flags table pattern) now board) now r)
    → takes_of g.vid (decided table now o) ≡ true → Takes table pattern now board g (decided table now o)
takes_by table pattern now board g None named may e = cc
takes_by table pattern now board g (Some r) named may e =
    let m = may r refl in
    let vid : r.sender.vid ≡ g.vid = eqb-true r.sender.vid g.vid (sym (takes-decided table g.vid now r) ∙ e) in
    let both : Some r.sender ≡ Some g = sym m.own ∙ ap (group_named table) vid ∙ named in
    let same : r.sender ≡ g = cc in
    let P : Group → Type 0 = λ h. request_in (voted_flags table pattern) (marked table (voted_flags table pattern) now board) h ≡ Some r in
    let some = some_request g (flags_of pattern g) (marked_request table pattern now board g) r (sym (request_in-group table pattern now board g named) ∙ subst P same m.waits) in
    takes_from table pattern now board g r some.0 some.1 some.2 m.ready

-- a decision that takes a group's request takes the one that waits in its line
pub takes-chosen : (table : TableValue) (pattern : Pattern) (now : ℕ) (board : Scoreboard) (g : Group) → IsValid table → group_named table g.vid ≡ Some g
    → takes_of g.vid (scoreboard_decision table now (voted_flags table pattern) board) ≡ true
    → Takes table pattern now board g (scoreboard_decision table now (voted_flags table pattern) board)
unfolding decision_of
takes-chosen table pattern now board g valid named e =
    let flags = voted_flags table pattern in
    let after = marked table flags now board in
    takes_by table pattern now board g (oldest (eligible_requests table flags after now)) named
    (λ r h. eligible-may table flags after now valid r (oldest_item (eligible_requests table flags after now) r h)) e

-- ---- the request that waits: of the voted descriptor, and since its line had it or since now

-- where a request waits since
pub record Since (now : ℕ) (before : Option Waiting) (w : Waiting) : Type 0 where
  pub since : (w.1 ≡ now → ⊥) → (old : Waiting) × (before ≡ Some old) × (same_descriptor old.0 w.0 ≡ true) × (old.1 ≡ w.1)

-- the same request goes on, another one begins now
since_by : (b starves : Bool) (now : ℕ) (desc : Descriptor) (old : Waiting) → same_descriptor old.0 desc ≡ b
    → (cond b (desc, old.1, cond starves (old.2 + 1) 0) (desc, now, cond starves 1 0) ≡ waiting_since starves now desc (Some old)) × Since now (Some old) (cond b (desc, old.1, cond starves (old.2 + 1) 0) (desc, now, cond starves 1 0))
since_by true starves now desc old e = (ap (λ (b : Bool). cond b (desc, old.1, cond starves (old.2 + 1) 0) (desc, now, cond starves 1 0)) (sym e), record { since = λ wrong. (old, refl, e, refl) })
since_by false starves now desc old e = (ap (λ (b : Bool). cond b (desc, old.1, cond starves (old.2 + 1) 0) (desc, now, cond starves 1 0)) (sym e), record { since = λ wrong. absurd (wrong refl) })

-- a request waits since its line had it, or since now
since_of : (starves : Bool) (now : ℕ) (desc : Descriptor) (before : Option Waiting) → Since now before (waiting_since starves now desc before)
since_of starves now desc None = record { since = λ wrong. absurd (wrong refl) }
since_of starves now desc (Some old) = let h = since_by (same_descriptor old.0 desc) starves now desc old refl in h.1

-- a request that waits after a pattern is of the voted descriptor
pub waits-voted : (flags : List GroupFlags) (now : ℕ) (before : Option Waiting) (voted : Option Descriptor) (w : Waiting) → request_after flags now before voted ≡ Some w
    → (voted ≡ Some w.0) × Since now before w
waits-voted flags now before None w e = cc
waits-voted flags now before (Some desc) w e =
    let same : waiting_since (lacks_space flags desc) now desc before ≡ w = cc in (
      ap (λ (d : Descriptor). Some d) (sym (waiting_desc (lacks_space flags desc) now desc before) ∙ ap (λ (x : Waiting). x.0) same),
      subst (Since now before) same (since_of (lacks_space flags desc) now desc before),
    )
