-- What stands from cycle to cycle while a request is awaited: its line, the groups that precede it, and its receiver's lag.
use Rattle.std.proofs.Common.{◌≡◌, ℕ, suc, ◌+◌, ◌*◌, ◌<◌, ◌≤◌, Bool, true, false, cond, List, length, refl, ap, sym, ◌∙◌, arith, ◌⊎◌, inl, inr, subst}
use Rattle.std.specs.Prelude.{Option, Some, None, option_map, unwrap_or, not, is_none, ◌==◌, ◌&&◌, ◌||◌, nat_lt, count_by}
use Rattle.std.specs.Option.{option_or}
use Rattle.std.proofs.lemmas.Bool.{eqb-true, eqb-false, le-ltb, and_left, and_right, or_from, or_left, or_right, cond-false}
use Rattle.packet_format.specs.declared.Descriptor.{Descriptor}
use Rattle.ftpp_base.proofs.Counts.{count_items, count_fewer, count_some}
use Rattle.ftpp_base.proofs.Items.{IsItem, find_item}
use Rattle.config_table.specs.declared.groups.Group.{Group}
use Rattle.config_table.specs.declared.decisions.GroupFlags.{GroupFlags}
use Rattle.config_table.specs.declared.decisions.Decision.{Decision}
use Rattle.config_table.specs.Table.{TableValue, IsValid, group_named, is_named}
use Rattle.config_table.proofs.Validity.{valid_named, valid_few}
use Rattle.scoreboard.specs.Board.{Scoreboard, Waiting, line_of, marked, lacks_space, request_after, waiting_since}
use Rattle.scoreboard.specs.Choice.{reason, where_true, is_granted, after_decision, scoreboard_decision}
use Rattle.scoreboard.specs.Service.{takes_of, Serves, longest_wait, IsAsked, IsUntaken, AwaitsFrom}
use Rattle.scoreboard.proofs.Rows.{waits_ahead, request_after_decision, lags_after_decision, marked_request, ahead_before, waiting-same, waiting-some}
use Rattle.scoreboard.proofs.Chosen.{Waits, TakesAhead, served_or_not, served_or_ahead}
use Rattle.scoreboard.proofs.Grants.{LagAtLeast, grant_or_lag}

-- A lawful request that is awaited.
pub record Case : Type 0 where
  pub table : TableValue
  pub g : Group
  pub desc : Descriptor
  pub faulty : Option ℕ
  pub from : ℕ
  pub flags : ℕ → List GroupFlags
  pub board : ℕ → Scoreboard
  pub decision : ℕ → Decision
  pub valid : IsValid table
  pub named : group_named table g.vid ≡ Some g
  pub lawful : reason table g desc ≡ None
  pub awaits : AwaitsFrom table g desc faulty from flags board decision

-- the scoreboard after the pattern of a cycle
abbrev pub after_pattern : Case → ℕ → Scoreboard
after_pattern x u = marked x.table (x.flags u) u (x.board u)

-- the lag timeout of a request's receiver, and 0 for class 3
abbrev pub lag_timeout : TableValue → Descriptor → ℕ
lag_timeout table desc = cond (desc.class == 3) 0 (unwrap_or (option_map (λ g. g.tr) (group_named table desc.dest)) 0)

-- the two cases of the longest wait are one
wait_by : (b : Bool) (ts n turn : ℕ) → cond b (ts + n) (ts + n * (turn + 1)) ≡ ts + n * (cond b 0 turn + 1)
wait_by true ts n turn = omega arith
wait_by false ts n turn = refl

-- the longest wait is the sender's timeout and for each group a cycle and this lag timeout
pub longest_is : (table : TableValue) (g : Group) (desc : Descriptor) → longest_wait table g desc ≡ g.ts + length table.groups * (lag_timeout table desc + 1)
longest_is table g desc = wait_by (desc.class == 3) g.ts (length table.groups) (unwrap_or (option_map (λ d. d.tr) (group_named table desc.dest)) 0)

-- the cycle before which it is served
abbrev pub latest : Case → ℕ
latest x = x.from + longest_wait x.table x.g x.desc

-- no cycle before has taken its group
abbrev pub untaken_before : Case → ℕ → Type 0
untaken_before x u = IsUntaken x.decision x.g.vid x.from u

-- ---- the receiver

-- without the first two reasons, their conditions fail
no_reason_two : (a b : Bool) (rest : Option ℕ) → option_or (where_true (not a) 1) (option_or (where_true b 2) rest) ≡ None → (a ≡ true) × (b ≡ false)
no_reason_two true true rest e = cc
no_reason_two true false rest e = (refl, refl)
no_reason_two false b rest e = cc

-- a class of 1 or 2 has a receiver
receiver_by : (a b c : Bool) (o : Option Group) → (a || b || c) ≡ true → ((a || b) && is_none o) ≡ false → c ≡ false → (d : Group) × (o ≡ Some d)
receiver_by true b c None e f n = cc
receiver_by false true c None e f n = cc
receiver_by false false c None e f n = cc
receiver_by a b c (Some d) e f n = (d, refl)

-- the receiver of a lawful request of class 1 or 2 is a group of the table
pub receiver : (table : TableValue) (g : Group) (desc : Descriptor) → reason table g desc ≡ None → (desc.class == 3) ≡ false → (d : Group) × (group_named table desc.dest ≡ Some d)
unfolding reason
receiver table g desc e n =
    let parts = no_reason_two (desc.class == 1 || desc.class == 2 || desc.class == 3) ((desc.class == 1 || desc.class == 2) && is_none (group_named table desc.dest)) _ e in
    receiver_by (desc.class == 1) (desc.class == 2) (desc.class == 3) (group_named table desc.dest) parts.0 parts.1 n

-- it does not lack space
lacks_by : (b : Bool) (table : TableValue) (g : Group) (desc : Descriptor) (faulty : Option ℕ) (flags : List GroupFlags) → (desc.class == 3) ≡ b → reason table g desc ≡ None → IsAsked table g desc faulty flags
    → lacks_space flags desc ≡ false
lacks_by true table g desc faulty flags three lawful asked =
    let class : desc.class ≡ 3 = eqb-true desc.class 3 three in
    and_left (desc.class == 1 || desc.class == 2) _ (or_from (desc.class == 1) (desc.class == 2) (ap (λ n. n == 1) class) (ap (λ n. n == 2) class))
lacks_by false table g desc faulty flags other lawful asked =
    let d = receiver table g desc lawful other in
    let room = asked.room (eqb-false desc.class 3 other) d.0 d.1 in
    and_right (desc.class == 1 || desc.class == 2) _
    (ap (λ o. unwrap_or (option_map (λ one. not one.most_space) o) false) room.1 ∙ ap not room.2.most)

-- ---- its line

-- after the pattern of a cycle in which it is asked for
line_asked : (x : Case) (u : ℕ) → IsAsked x.table x.g x.desc x.faulty (x.flags u)
    → (line_of (after_pattern x u) x.g.vid).request ≡ Some (waiting_since false u x.desc (line_of (x.board u) x.g.vid).request)
line_asked x u asked =
    let before = (line_of (x.board u) x.g.vid).request in
    marked_request x.table (x.flags u) u (x.board u) x.g.vid x.g asked.voted.0 x.named asked.voted.1
    ∙ ap (request_after (x.flags u) u before) asked.voted.2
    ∙ ap (λ b. Some (waiting_since b u x.desc before)) (lacks_by (x.desc.class == 3) x.table x.g x.desc x.faulty (x.flags u) refl x.lawful asked)

-- in the first cycle it waits since some cycle that is not later
pub waits_first : (x : Case) → x.from < latest x → ((w : Waiting) → (line_of (x.board x.from) x.g.vid).request ≡ Some w → w.1 ≤ x.from)
    → (since : ℕ) × (since ≤ x.from) × Waits x.table (after_pattern x x.from) x.g x.desc since
waits_first x more old =
    let asked = x.awaits.asked x.from (omega arith) more (λ k a b. let never : ⊥ = omega arith in absurd never) in
    let some = waiting-some x.from x.desc (line_of (x.board x.from) x.g.vid).request old in
    (some.0, some.1, record { named = x.named; lawful = x.lawful; line = line_asked x x.from asked ∙ ap (λ w. Some w) some.2 })

-- what stands after a cycle that does not take its group
board_next : (x : Case) (u : ℕ) → x.from ≤ u → suc u < latest x → untaken_before x (suc u) → x.decision u ≡ scoreboard_decision x.table u (x.flags u) (x.board u)
    → x.board (suc u) ≡ after_decision (x.decision u) (after_pattern x u)
board_next x u l m n e = x.awaits.follows u l m n ∙ ap (λ d. after_decision d (after_pattern x u)) (sym e)

-- then it waits on
pub waits_next : (x : Case) (since u : ℕ) → x.from ≤ u → suc u < latest x → untaken_before x (suc u) → x.decision u ≡ scoreboard_decision x.table u (x.flags u) (x.board u)
    → takes_of x.g.vid (x.decision u) ≡ false → Waits x.table (after_pattern x u) x.g x.desc since → Waits x.table (after_pattern x (suc u)) x.g x.desc since
waits_next x since u l m n e none w =
    let asked = x.awaits.asked (suc u) (omega arith) m n in
    let kept : (line_of (x.board (suc u)) x.g.vid).request ≡ Some (x.desc, since, 0) =
    ap (λ b. (line_of b x.g.vid).request) (board_next x u l m n e)
    ∙ request_after_decision (x.decision u) (after_pattern x u) x.g.vid
    ∙ ap (λ b. cond b None (line_of (after_pattern x u) x.g.vid).request) none
    ∙ w.line in
    record {
      named = x.named;
      lawful = x.lawful;
      line = line_asked x (suc u) asked ∙ ap (λ o. Some (waiting_since false (suc u) x.desc o)) kept ∙ ap (λ v. Some v) (waiting-same (suc u) since 0 x.desc);
    }

-- ---- the groups that precede it

-- whether a group precedes the request, by its line
abbrev pub is_ahead : ℕ → ℕ → Scoreboard → Group → Bool
is_ahead since vid board h = waits_ahead since vid h.vid (line_of board h.vid).request

-- how many groups precede it in a cycle
abbrev pub ahead_count : Case → ℕ → ℕ → ℕ
ahead_count x since u = count_by (is_ahead since x.g.vid (after_pattern x u)) x.table.groups

-- the next cycle's are some of them, but those that were taken
still_ahead : (x : Case) (since u : ℕ) (h : Group) → IsItem x.table.groups h → since ≤ u → x.board (suc u) ≡ after_decision (x.decision u) (after_pattern x u)
    → is_ahead since x.g.vid (after_pattern x (suc u)) h ≡ true
    → (is_ahead since x.g.vid (after_pattern x u) h ≡ true) × (takes_of h.vid (x.decision u) ≡ false)
still_ahead x since u h i l next e =
    ahead_before x.table (x.flags (suc u)) (suc u) since x.g.vid (after_pattern x u) (x.decision u) h (valid_named x.table x.valid h i) (omega arith)
    (ap (λ b. is_ahead since x.g.vid (marked x.table (x.flags (suc u)) (suc u) b) h) (sym next) ∙ e)

-- so there are no more of them
pub ahead_no_more : (x : Case) (since u : ℕ) → since ≤ u → x.from ≤ u → suc u < latest x → untaken_before x (suc u) → x.decision u ≡ scoreboard_decision x.table u (x.flags u) (x.board u)
    → ahead_count x since (suc u) ≤ ahead_count x since u
ahead_no_more x since u l f m n e =
    count_items (is_ahead since x.g.vid (after_pattern x (suc u))) (is_ahead since x.g.vid (after_pattern x u)) x.table.groups
    (λ h i y. (still_ahead x since u h i l (board_next x u f m n e) y).0)

-- where one of them is taken there is one less
pub ahead_less : (x : Case) (since u : ℕ) → since ≤ u → x.from ≤ u → suc u < latest x → untaken_before x (suc u) → x.decision u ≡ scoreboard_decision x.table u (x.flags u) (x.board u)
    → TakesAhead x.table (after_pattern x u) x.g since (x.decision u)
    → suc (ahead_count x since (suc u)) ≤ ahead_count x since u
ahead_less x since u l f m n e t =
    let h = t.taken in
    count_fewer (is_ahead since x.g.vid (after_pattern x (suc u))) (is_ahead since x.g.vid (after_pattern x u)) x.table.groups h t.listed
    (λ k i y. (still_ahead x since u k i l (board_next x u f m n e) y).0)
    (gone_by (is_ahead since x.g.vid (after_pattern x (suc u)) h) refl) t.ahead where
      gone_by : (b : Bool) → is_ahead since x.g.vid (after_pattern x (suc u)) t.taken ≡ b → b ≡ false
      gone_by true y = let none = (still_ahead x since u t.taken t.listed l (board_next x u f m n e) y).1 in let some = t.takes in cc
      gone_by false y = refl

-- the group that is taken was one of them
pub ahead_some : (x : Case) (since u : ℕ) → TakesAhead x.table (after_pattern x u) x.g since (x.decision u) → 1 ≤ ahead_count x since u
ahead_some x since u t =
    let l = count_fewer (λ h. false) (is_ahead since x.g.vid (after_pattern x u)) x.table.groups t.taken t.listed (λ h i e. cc) refl t.ahead in omega arith

-- no request precedes itself
not_ahead_of_itself : (since vid : ℕ) → (nat_lt since since || (since == since && nat_lt vid vid)) ≡ false
not_ahead_of_itself since vid =
    or_from (nat_lt since since) _ (le-ltb since since (omega arith)) (and_right (since == since) (nat_lt vid vid) (le-ltb vid vid (omega arith)))

-- its own group does not precede it
pub ahead_few : (x : Case) (since u : ℕ) → Waits x.table (after_pattern x u) x.g x.desc since → suc (ahead_count x since u) ≤ length x.table.groups
ahead_few x since u w =
    count_some (is_ahead since x.g.vid (after_pattern x u)) x.table.groups x.g (find_item (is_named x.g.vid) x.table.groups x.g x.named).0
    (ap (waits_ahead since x.g.vid x.g.vid) w.line ∙ not_ahead_of_itself since x.g.vid)

-- ---- its receiver's lag

-- the receiver's member that may say full lags by at least a number
abbrev pub LagsBy : Case → Scoreboard → ℕ → Type 0
LagsBy x board least = (d : Group) → (x.desc.class == 3) ≡ false → group_named x.table x.desc.dest ≡ Some d → LagAtLeast x.faulty d (line_of board x.desc.dest).lags least

-- at least 0 in any case
pub lags_none : (x : Case) (board : Scoreboard) → LagsBy x board 0
lags_none x board d n e seat i b = omega arith

-- the lag after a pattern is that before the next
pub lags_next : (x : Case) (u least : ℕ) → x.from ≤ u → suc u < latest x → untaken_before x (suc u) → x.decision u ≡ scoreboard_decision x.table u (x.flags u) (x.board u)
    → LagsBy x (after_pattern x u) least → LagsBy x (x.board (suc u)) least
lags_next x u least l m n e h d other named =
    let P : List ℕ → Type 0 = λ lags. LagAtLeast x.faulty d lags least in
    subst P (sym (ap (λ b. (line_of b x.desc.dest).lags) (board_next x u l m n e) ∙ lags_after_decision (x.decision u) (after_pattern x u) x.desc.dest)) (h d other named)

-- ---- one cycle

-- the group is not taken, and one that precedes is, or the receiver has to be waited for
abbrev pub Goes : Case → ℕ → ℕ → Scoreboard → Decision → Type 0
Goes x since least board decision =
    Serves decision x.g.vid x.desc
    ⊎ ((takes_of x.g.vid decision ≡ false)
    × (TakesAhead x.table board x.g since decision ⊎ ((least + 1 ≤ lag_timeout x.table x.desc) × LagsBy x board (least + 1))))

-- where it may be chosen
goes_on : (x : Case) (since u least : ℕ) → IsAsked x.table x.g x.desc x.faulty (x.flags u) → Waits x.table (after_pattern x u) x.g x.desc since → since + x.g.ts ≤ u
    → (x.desc.class == 3 || is_granted x.table (x.flags u) (after_pattern x u) x.desc.dest) ≡ true
    → Goes x since least (after_pattern x u) (scoreboard_decision x.table u (x.flags u) (x.board u))
goes_on x since u least asked w ready take =
    elim (served_or_ahead x.table (x.flags u) (after_pattern x u) u x.g x.desc since asked.voted.0 w (valid_named x.table x.valid) (find_item (is_named x.g.vid) x.table.groups x.g x.named).0 asked.voted.1 ready take) [
      | inl s ↦ inl s
      | inr p ↦ inr (p.0, inl p.1)
    ]

-- where its receiver has to be waited for
waits_on : (x : Case) (since u least : ℕ) → Waits x.table (after_pattern x u) x.g x.desc since → (least + 1 ≤ lag_timeout x.table x.desc) × LagsBy x (after_pattern x u) (least + 1)
    → Goes x since least (after_pattern x u) (scoreboard_decision x.table u (x.flags u) (x.board u))
waits_on x since u least w lag =
    elim (served_or_not x.table (x.flags u) (after_pattern x u) u x.g x.desc since w (valid_named x.table x.valid)) [
      | inl s ↦ inl s
      | inr none ↦ inr (none, inr lag)
    ]

-- with a receiver and without
goes_by : (b : Bool) (x : Case) (since u least : ℕ) → (x.desc.class == 3) ≡ b → IsAsked x.table x.g x.desc x.faulty (x.flags u) → Waits x.table (after_pattern x u) x.g x.desc since → since + x.g.ts ≤ u
    → LagsBy x (x.board u) least → Goes x since least (after_pattern x u) (scoreboard_decision x.table u (x.flags u) (x.board u))
goes_by true x since u least class asked w ready lags =
    goes_on x since u least asked w ready (or_left (x.desc.class == 3) _ class)
goes_by false x since u least class asked w ready lags =
    let d = receiver x.table x.g x.desc x.lawful class in
    let room = asked.room (eqb-false x.desc.class 3 class) d.0 d.1 in
    let few = valid_few x.table x.valid d.0 (find_item (is_named x.desc.dest) x.table.groups d.0 d.1).0 in
    let timeout : lag_timeout x.table x.desc ≡ d.0.tr =
    cond-false (x.desc.class == 3) 0 _ class ∙ ap (λ o. unwrap_or (option_map (λ g. g.tr) o) 0) d.1 in
    elim (grant_or_lag x.table (x.flags u) u (x.board u) x.desc.dest d.0 room.0 x.faulty least d.1 room.1 few room.2 (lags d.0 class d.1)) [
      | inl granted ↦ goes_on x since u least asked w ready (or_right (x.desc.class == 3) _ granted)
      | inr p ↦
          let within : least + 1 ≤ d.0.tr = p.0 in
          waits_on x since u least w (
            (omega arith),
            λ e n found.
                let same : d.0 ≡ e = let both : Some d.0 ≡ Some e = sym d.1 ∙ found in cc in
                let P : Group → Type 0 = λ h. LagAtLeast x.faulty h (line_of (after_pattern x u) x.desc.dest).lags (least + 1) in
                subst P same p.1,
          )
    ]

-- in a cycle after its timeout it is served, or a group that precedes it is taken, or its receiver's lag rises within its timeout
pub goes : (x : Case) (since u least : ℕ) → x.from ≤ u → u < latest x → untaken_before x u → Waits x.table (after_pattern x u) x.g x.desc since → since + x.g.ts ≤ u
    → LagsBy x (x.board u) least → Goes x since least (after_pattern x u) (x.decision u)
goes x since u least l m n w ready lags =
    let P : Decision → Type 0 = λ d. Goes x since least (after_pattern x u) d in
    subst P (sym (x.awaits.decides u l m n)) (goes_by (x.desc.class == 3) x since u least refl (x.awaits.asked u l m n) w ready lags)

-- in a cycle before its timeout it is served, or its group is not taken
pub waits_or_served : (x : Case) (since u : ℕ) → x.from ≤ u → u < latest x → untaken_before x u → Waits x.table (after_pattern x u) x.g x.desc since
    → Serves (x.decision u) x.g.vid x.desc ⊎ (takes_of x.g.vid (x.decision u) ≡ false)
waits_or_served x since u l m n w =
    let P : Decision → Type 0 = λ d. Serves d x.g.vid x.desc ⊎ (takes_of x.g.vid d ≡ false) in
    subst P (sym (x.awaits.decides u l m n)) (served_or_not x.table (x.flags u) (after_pattern x u) u x.g x.desc since w (valid_named x.table x.valid))
