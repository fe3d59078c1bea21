-- The request of a group from cycle to cycle: it is kept until the group is taken, and only an old one waits since an early cycle.
use Rattle.std.proofs.Common.{◌≡◌, ℕ, ◌<◌, ◌≤◌, Bool, true, false, cond, List, refl, ap, sym, ◌∙◌, arith}
use Rattle.std.specs.Prelude.{Option, Some, None, find, option_map, unwrap_or, ◌==◌, ◌&&◌, ◌||◌, nat_lt}
use Rattle.std.proofs.lemmas.Bool.{eqb-true, eqb-false, eq-eqb, ne_eqb, le-ltb, or_from, and_left, cond-true}
use Rattle.packet_format.specs.declared.Descriptor.{Descriptor}
use Rattle.packet_format.specs.Packets.{same_descriptor}
use Rattle.packet_format.proofs.Descriptors.{same_descriptor-refl}
use Rattle.ftpp_base.proofs.Items.{find_item, find-map}
use Rattle.config_table.specs.declared.groups.Group.{Group}
use Rattle.config_table.specs.declared.decisions.GroupFlags.{GroupFlags}
use Rattle.config_table.specs.declared.decisions.StateRow.{StateRow}
use Rattle.config_table.specs.declared.decisions.Decision.{Decision}
use Rattle.config_table.specs.declared.decisions.Decision.TheVariants.{Idle, Discard, Exchange}
use Rattle.config_table.specs.Table.{TableValue, group_named}
use Rattle.scoreboard.specs.Board.{Scoreboard, Waiting, line_of, line_after, blank_line, marked, is_line_of, flags_named, request_after, waiting_since, ended, without_request}
use Rattle.scoreboard.specs.Choice.{after_decision}
use Rattle.scoreboard.specs.Service.{takes_of}
use Rattle.scoreboard.proofs.Lines.{line_of-marked}

-- the line that is found, or the blank one, has the number
line_vid_by : (vid : ℕ) (board : Scoreboard) (o : Option StateRow) → find (is_line_of vid) board ≡ o → (unwrap_or o (blank_line vid)).vid ≡ vid
line_vid_by vid board None e = refl
line_vid_by vid board (Some line) e = eqb-true line.vid vid (find_item (is_line_of vid) board line e).1

-- the line of a group has its number
pub line_vid : (board : Scoreboard) (vid : ℕ) → (line_of board vid).vid ≡ vid
line_vid board vid = line_vid_by vid board (find (is_line_of vid) board) refl

-- a line that loses its request keeps its number
ended_vid : (b : Bool) (line : StateRow) → (cond b (record line { request = None }) line).vid ≡ line.vid
ended_vid true line = refl
ended_vid false line = refl

-- and its lags
ended_lags : (b : Bool) (line : StateRow) → (cond b (record line { request = None }) line).lags ≡ line.lags
ended_lags true line = refl
ended_lags false line = refl

-- its request is gone
ended_request : (b : Bool) (line : StateRow) → (cond b (record line { request = None }) line).request ≡ cond b None line.request
ended_request true line = refl
ended_request false line = refl

-- a blank line has none to lose
ended_blank : (b : Bool) (vid : ℕ) → blank_line vid ≡ cond b (record (blank_line vid) { request = None }) (blank_line vid)
ended_blank true vid = refl
ended_blank false vid = refl

-- a line loses its request after it is looked up as before
ended_or : (vid v : ℕ) (o : Option StateRow) → unwrap_or (option_map (ended vid) o) (blank_line v) ≡ ended vid (unwrap_or o (blank_line v))
ended_or vid v None = ended_blank (is_line_of vid (blank_line v)) v
ended_or vid v (Some line) = refl

-- a line where the request of one group is gone
pub line_of-without_request : (vid : ℕ) (board : Scoreboard) (v : ℕ) → line_of (without_request vid board) v ≡ ended vid (line_of board v)
line_of-without_request vid board v =
    ap (λ o. unwrap_or o (blank_line v))
    (find-map (is_line_of v) (is_line_of v) (ended vid) board (λ line. ap (λ n. n == v) (ended_vid (is_line_of vid line) line)))
    ∙ ended_or vid v (find (is_line_of v) board)

-- one answer of a test, the other way round
eqb_by : (b : Bool) (m n : ℕ) → (m == n) ≡ b → (n == m) ≡ b
eqb_by true m n e = eq-eqb n m (sym (eqb-true m n e))
eqb_by false m n e = ne_eqb n m (λ same. eqb-false m n e (sym same))

-- a test on two numbers is the same the other way round
eqb_comm : (m n : ℕ) → (n == m) ≡ (m == n)
eqb_comm m n = eqb_by (m == n) m n refl

-- the request of a group where that of one group is gone
gone : (vid : ℕ) (board : Scoreboard) (v : ℕ) → (line_of (without_request vid board) v).request ≡ cond (vid == v) None (line_of board v).request
gone vid board v =
    ap (λ line. line.request) (line_of-without_request vid board v)
    ∙ ended_request (is_line_of vid (line_of board v)) (line_of board v)
    ∙ ap (λ b. cond b None (line_of board v).request) (ap (λ n. n == vid) (line_vid board v) ∙ eqb_comm vid v)

-- after a decision a request is gone where its group was taken, and stays where not
pub request_after_decision : (decision : Decision) (board : Scoreboard) (v : ℕ) → (line_of (after_decision decision board) v).request ≡ cond (takes_of v decision) None (line_of board v).request
request_after_decision Idle board v = refl
request_after_decision (Discard vid desc number admitted waited) board v = gone vid board v
request_after_decision (Exchange service) board v = gone service.vid board v

-- the lags of a group where the request of one group is gone
pub kept_lags : (vid : ℕ) (board : Scoreboard) (v : ℕ) → (line_of (without_request vid board) v).lags ≡ (line_of board v).lags
kept_lags vid board v =
    ap (λ line. line.lags) (line_of-without_request vid board v) ∙ ended_lags (is_line_of vid (line_of board v)) (line_of board v)

-- the lags stay
pub lags_after_decision : (decision : Decision) (board : Scoreboard) (v : ℕ) → (line_of (after_decision decision board) v).lags ≡ (line_of board v).lags
lags_after_decision Idle board v = refl
lags_after_decision (Discard vid desc number admitted waited) board v = kept_lags vid board v
lags_after_decision (Exchange service) board v = kept_lags service.vid board v

-- the request of a group of the table after one pattern
pub marked_request : (table : TableValue) (flags : List GroupFlags) (now : ℕ) (board : Scoreboard) (vid : ℕ) (g : Group) (one : GroupFlags)
    → group_named table vid ≡ Some g → flags_named flags g.vid ≡ Some one
    → (line_of (marked table flags now board) vid).request ≡ request_after flags now (line_of board g.vid).request one.desc
marked_request table flags now board vid g one named there =
    ap (λ line. line.request) (line_of-marked table flags now board vid g named)
    ∙ ap (λ o. (line_after flags now g (line_of board g.vid) o).request) there

-- ---- requests that wait longer

-- whether a request of a group precedes one that waits since a cycle, of another group
abbrev pub waits_ahead : ℕ → ℕ → ℕ → Option Waiting → Bool
waits_ahead since vid other None = false
waits_ahead since vid other (Some w) = nat_lt w.1 since || (w.1 == since && nat_lt other vid)

-- a request that begins later does not precede
late : (since vid other now : ℕ) → since < now → (nat_lt now since || (now == since && nat_lt other vid)) ≡ false
late since vid other now l =
    or_from (nat_lt now since) (now == since && nat_lt other vid) (le-ltb now since (omega arith))
    (and_left (now == since) (nat_lt other vid) (ne_eqb now since (λ e. omega arith)))

-- a request that goes on waiting, or begins anew
ahead_cond : (b : Bool) (since vid other now : ℕ) (one two : Descriptor) (w : Waiting) (m n : ℕ) → since < now
    → waits_ahead since vid other (Some (cond b (one, w.1, m) (two, now, n))) ≡ true → waits_ahead since vid other (Some w) ≡ true
ahead_cond true since vid other now one two w m n l e = e
ahead_cond false since vid other now one two w m n l e = let never = late since vid other now l in cc

-- so one that precedes after a pattern preceded before it
ahead_kept : (since vid other now : ℕ) (flags : List GroupFlags) (before : Option Waiting) (desc : Option Descriptor) → since < now
    → waits_ahead since vid other (request_after flags now before desc) ≡ true → waits_ahead since vid other before ≡ true
ahead_kept since vid other now flags before None l e = cc
ahead_kept since vid other now flags None (Some desc) l e = let never = late since vid other now l in cc
ahead_kept since vid other now flags (Some w) (Some desc) l e =
    ahead_cond (same_descriptor w.0 desc) since vid other now desc desc w _ _ l e

-- the same of a line
ahead_line : (since vid now : ℕ) (flags : List GroupFlags) (h : Group) (line : StateRow) (one : Option GroupFlags) → since < now
    → waits_ahead since vid h.vid (line_after flags now h line one).request ≡ true → waits_ahead since vid h.vid line.request ≡ true
ahead_line since vid now flags h line None l e = cc
ahead_line since vid now flags h line (Some one) l e = ahead_kept since vid h.vid now flags line.request one.desc l e

-- a request that is gone does not precede
ahead_gone : (b : Bool) (since vid other : ℕ) (before : Option Waiting) → waits_ahead since vid other (cond b None before) ≡ true → (waits_ahead since vid other before ≡ true) × (b ≡ false)
ahead_gone true since vid other before e = cc
ahead_gone false since vid other before e = (e, refl)

-- the groups that precede in one cycle are some of those that did in the cycle before, and were not taken
pub ahead_before : (table : TableValue) (flags : List GroupFlags) (now since vid : ℕ) (board : Scoreboard) (decision : Decision) (h : Group)
    → group_named table h.vid ≡ Some h → since < now
    → waits_ahead since vid h.vid (line_of (marked table flags now (after_decision decision board)) h.vid).request ≡ true
    → (waits_ahead since vid h.vid (line_of board h.vid).request ≡ true) × (takes_of h.vid decision ≡ false)
ahead_before table flags now since vid board decision h named l e =
    let next = after_decision decision board in
    let one = ap (λ line. waits_ahead since vid h.vid line.request) (line_of-marked table flags now next h.vid h named) in
    let two = ahead_line since vid now flags h (line_of next h.vid) (flags_named flags h.vid) l (sym one ∙ e) in
    ahead_gone (takes_of h.vid decision) since vid h.vid (line_of board h.vid).request
    (sym (ap (waits_ahead since vid h.vid) (request_after_decision decision board h.vid)) ∙ two)

-- ---- the request itself

-- a voted request that waits goes on waiting
pub waiting-same : (now since starved : ℕ) (desc : Descriptor) → waiting_since false now desc (Some (desc, since, starved)) ≡ (desc, since, 0)
waiting-same now since starved desc = cond-true (same_descriptor desc desc) (desc, since, 0) (desc, now, 0) (same_descriptor-refl desc)

-- a request that goes on waiting, or begins now
waiting_by : (b : Bool) (now : ℕ) (desc : Descriptor) (w : Waiting) → w.1 ≤ now
    → (since : ℕ) × (since ≤ now) × ◌≡◌ {A = Waiting} (cond b (desc, w.1, 0) (desc, now, 0)) (desc, since, 0)
waiting_by true now desc w l = (w.1, l, refl)
waiting_by false now desc w l = (now, omega arith, refl)

-- a voted request waits since some cycle that is not later
pub waiting-some : (now : ℕ) (desc : Descriptor) (before : Option Waiting) → ((w : Waiting) → before ≡ Some w → w.1 ≤ now)
    → (since : ℕ) × (since ≤ now) × (waiting_since false now desc before ≡ (desc, since, 0))
waiting-some now desc None h = (now, omega arith, refl)
waiting-some now desc (Some w) h = waiting_by (same_descriptor w.0 desc) now desc w (h w refl)
