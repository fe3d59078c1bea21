-- What is chosen in a cycle while a lawful request waits: that request, or one that precedes it.
use Rattle.std.proofs.Common.{◌≡◌, ℕ, ◌<◌, ◌≤◌, ◌-◌, ◌+◌, Bool, true, false, cond, List, [], ◌∷◌, refl, ap, sym, ◌∙◌, arith, ◌⊎◌, inl, inr, subst}
use Rattle.std.specs.Prelude.{Option, Some, None, option_map, unwrap_or, ◌==◌, ◌&&◌, ◌||◌, nat_lt, nat_le, is_some}
use Rattle.std.specs.Option.{option_or}
use Rattle.std.proofs.lemmas.Bool.{cases_lt, eqb-true, eqb-false, eq-eqb, lt-ltb, le-leb, le-ltb, and_from, and_right, or_left, or_right}
use Rattle.std.proofs.lemmas.Option.{same_Some}
use Rattle.packet_format.specs.declared.Descriptor.{Descriptor}
use Rattle.ftpp_base.proofs.Items.{IsItem, item_all, item_filter, filter_item, item_filter_map, filter_map_item}
use Rattle.config_table.specs.declared.groups.Group.{Group}
use Rattle.config_table.specs.declared.decisions.GroupFlags.{GroupFlags}
use Rattle.config_table.specs.declared.decisions.Decision.{Decision}
use Rattle.config_table.specs.Table.{TableValue, group_named}
use Rattle.scoreboard.specs.Board.{Scoreboard, Waiting, line_of, flags_named}
use Rattle.scoreboard.specs.Choice.{Request, reason, where_true, is_granted, is_expired, is_ready, is_eligible, request_by, request_in, eligible_requests, waiting_requests, oldest, older, precedes, discard_reason, done_with, decided, decision_of}
use Rattle.scoreboard.specs.Service.{takes_of, Serves}
use Rattle.scoreboard.proofs.Oldest.{IsNotBefore, oldest-least}
use Rattle.scoreboard.proofs.Rows.{waits_ahead}

-- A request is that of a group, as its line has it.
pub record IsOf (board : Scoreboard) (h : Group) (r : Request) : Type 0 where
  pub sender : r.sender ≡ h
  pub waiting : (line_of board h.vid).request ≡ Some (r.desc, r.since, r.starved)

-- each group of the table is the one of its number
abbrev pub AreNamed : TableValue → Type 0
AreNamed table = (h : Group) → IsItem table.groups h → group_named table h.vid ≡ Some h

-- a request is made of its group and its line
pub of_by : (board : Scoreboard) (h : Group) (one : Option GroupFlags) (w : Option Waiting) (r : Request) → (line_of board h.vid).request ≡ w → request_by h one w ≡ Some r → IsOf board h r
of_by board h None w r there e = cc
of_by board h (Some one) None r there e = cc
of_by board h (Some one) (Some w) r there e = record {
  sender = let s : Some h ≡ Some r.sender = ap (option_map (λ q. q.sender)) e in cc;
  waiting = there ∙ ap (option_map (λ q. (q.desc, q.since, q.starved))) e;
}

-- a request that may be chosen is that of some group
pub eligible_is : (table : TableValue) (flags : List GroupFlags) (board : Scoreboard) (now : ℕ) (r : Request) → IsItem (eligible_requests table flags board now) r
    → (h : Group) × IsItem table.groups h × IsOf board h r
eligible_is table flags board now r i =
    let kept = item_filter (is_eligible table flags board now) (waiting_requests table flags board) r i in
    let made = item_filter_map (request_in flags board) table.groups r kept.0 in
    (made.0, made.1, of_by board made.0 (flags_named flags made.0.vid) (line_of board made.0.vid).request r refl made.2)

-- whatever is done, it takes the group of the request
takes_done : (v now : ℕ) (r : Request) (o : Option ℕ) → takes_of v (done_with now r o) ≡ (r.sender.vid == v)
takes_done v now r None = refl
takes_done v now r (Some number) = refl

-- a decision takes a request of the group whose request was chosen
pub takes-decided : (table : TableValue) (v now : ℕ) (r : Request) → takes_of v (decided table now (Some r)) ≡ (r.sender.vid == v)
takes-decided table v now r = takes_done v now r (discard_reason table r)

-- ---- the request that waits

-- In a cycle, after its pattern, the line of a group of the table has a lawful request that has not starved.
pub record Waits (table : TableValue) (board : Scoreboard) (g : Group) (desc : Descriptor) (since : ℕ) : Type 0 where
  pub named : group_named table g.vid ≡ Some g
  pub lawful : reason table g desc ≡ None
  pub line : (line_of board g.vid).request ≡ Some (desc, since, 0)

-- a count of 0 is beyond no expiry
starved_by : (o : Option Group) → unwrap_or (option_map (λ g. nat_lt 0 g.tx && nat_lt g.tx 0) o) false ≡ false
starved_by None = refl
starved_by (Some g) = and_right (nat_lt 0 g.tx) (nat_lt g.tx 0) (le_never g.tx) where
  le_never : (n : ℕ) → nat_lt n 0 ≡ false
  le_never n = le-ltb n 0 (omega arith)

-- a request that has not starved is not expired
not_expired : (table : TableValue) (r : Request) → r.starved ≡ 0 → is_expired table r ≡ false
not_expired table r e =
    ap (λ n. unwrap_or (option_map (λ g. nat_lt 0 g.tx && nat_lt g.tx n) (group_named table r.desc.dest)) false) e ∙ starved_by (group_named table r.desc.dest)

-- a lawful request that is not expired has no reason to be discarded
no_reason : (a b : Bool) (o : Option ℕ) → o ≡ None → b ≡ false → option_or o (where_true b 6) ≡ None
no_reason a true o e f = cc
no_reason a false None e f = refl
no_reason a false (Some n) e f = cc

-- without a reason the request is served
serves_done : (now vid : ℕ) (desc : Descriptor) (r : Request) (o : Option ℕ) → o ≡ None → r.sender.vid ≡ vid → r.desc ≡ desc → Serves (done_with now r o) vid desc
serves_done now vid desc r None e s d = (s, d)
serves_done now vid desc r (Some number) e s d = cc

-- two lines with one request have its parts alike
pub same_parts : (d e : Descriptor) (m n k l : ℕ) → ◌≡◌ {A = Option Waiting} (Some (d, m, k)) (Some (e, n, l)) → (d ≡ e) × (m ≡ n) × (k ≡ l)
same_parts d e m n k l h =
    let p : ◌≡◌ {A = Waiting} (d, m, k) (e, n, l) = same_Some _ _ h in
    (ap {A = Waiting} (λ w. w.0) p, ap {A = Waiting} (λ w. w.1) p, ap {A = Waiting} (λ w. w.2) p)

-- where the chosen request is of the group, the decision serves the one that waits
pub serves_own : (table : TableValue) (board : Scoreboard) (g h : Group) (desc : Descriptor) (since now : ℕ) (r : Request) → Waits table board g desc since
    → group_named table h.vid ≡ Some h → IsOf board h r → r.sender.vid ≡ g.vid → Serves (decided table now (Some r)) g.vid desc
serves_own table board g h desc since now r w named is same =
    let number : h.vid ≡ g.vid = sym (ap (λ q. q.vid) is.sender) ∙ same in
    let found : Some h ≡ Some g = sym named ∙ ap (group_named table) number ∙ w.named in
    let one : h ≡ g = cc in
    let parts = same_parts r.desc desc r.since since r.starved 0 (sym is.waiting ∙ ap (λ v. (line_of board v).request) number ∙ w.line) in
    let law : reason table r.sender r.desc ≡ None = (λ i. reason table ((is.sender ∙ one) i) (parts.0 i)) ∙ w.lawful in
    serves_done now g.vid desc r (discard_reason table r) (no_reason true (is_expired table r) (reason table r.sender r.desc) law (not_expired table r parts.2)) same parts.0

-- ---- the choice

-- what is chosen is one of the requests
pub oldest_item : (rs : List Request) (r : Request) → oldest rs ≡ Some r → IsItem rs r
oldest_item [] r e = cc
oldest_item (x ∷ rs) r e = older_by x rs r (oldest rs) refl (λ q f. oldest_item rs q f) e where
  older_cond : (b : Bool) (y : Request) (ys : List Request) (s t : Request) → IsItem ys s → Some (cond b s y) ≡ Some t → (y ≡ t) ⊎ IsItem ys t
  older_cond true y ys s t i f = let P : Request → Type 0 = λ q. IsItem ys q in let same : s ≡ t = same_Some s t f in inr (subst P same i)
  older_cond false y ys s t i f = inl (same_Some y t f)

  older_by : (y : Request) (ys : List Request) (t : Request) (o : Option Request) → oldest ys ≡ o → ((q : Request) → oldest ys ≡ Some q → IsItem ys q) → Some (older y o) ≡ Some t → (y ≡ t) ⊎ IsItem ys t
  older_by y ys t None f more g = inl (same_Some y t g)
  older_by y ys t (Some s) f more g = older_cond (precedes s y) y ys s t (more s f) g

-- The request of another group is taken, and it precedes the one that waits.
pub record TakesAhead (table : TableValue) (board : Scoreboard) (g : Group) (since : ℕ) (decision : Decision) : Type 0 where
  pub taken : Group
  pub listed : IsItem table.groups taken
  pub ahead : waits_ahead since g.vid taken.vid (line_of board taken.vid).request ≡ true
  pub takes : takes_of taken.vid decision ≡ true

-- one chosen request: it is of the group, or not
served_by : (b : Bool) (table : TableValue) (flags : List GroupFlags) (board : Scoreboard) (now : ℕ) (g : Group) (desc : Descriptor) (since : ℕ) (r : Request) → (r.sender.vid == g.vid) ≡ b
    → Waits table board g desc since → AreNamed table → IsItem (eligible_requests table flags board now) r
    → Serves (decided table now (Some r)) g.vid desc ⊎ (takes_of g.vid (decided table now (Some r)) ≡ false)
served_by true table flags board now g desc since r e w names i =
    let is = eligible_is table flags board now r i in
    inl (serves_own table board g is.0 desc since now r w (names is.0 is.1) is.2 (eqb-true r.sender.vid g.vid e))
served_by false table flags board now g desc since r e w names i = inr (takes-decided table g.vid now r ∙ e)

-- a chosen request or none
served_or : (o : Option Request) (table : TableValue) (flags : List GroupFlags) (board : Scoreboard) (now : ℕ) (g : Group) (desc : Descriptor) (since : ℕ)
    → oldest (eligible_requests table flags board now) ≡ o → Waits table board g desc since → AreNamed table
    → Serves (decided table now o) g.vid desc ⊎ (takes_of g.vid (decided table now o) ≡ false)
served_or None table flags board now g desc since e w names = inr refl
served_or (Some r) table flags board now g desc since e w names =
    served_by (r.sender.vid == g.vid) table flags board now g desc since r refl w names (oldest_item (eligible_requests table flags board now) r e)

-- a group whose lawful request waits is taken only to serve that request
pub served_or_not : (table : TableValue) (flags : List GroupFlags) (board : Scoreboard) (now : ℕ) (g : Group) (desc : Descriptor) (since : ℕ)
    → Waits table board g desc since → AreNamed table
    → Serves (decision_of table flags now board) g.vid desc ⊎ (takes_of g.vid (decision_of table flags now board) ≡ false)
unfolding decision_of
served_or_not table flags board now g desc since w names = served_or (oldest (eligible_requests table flags board now)) table flags board now g desc since refl w names

-- a request of another group that waits no shorter precedes
ahead_by : (vid now since : ℕ) (h : Group) (r : Request) → r.since ≤ since → (since ≡ r.since → r.sender.vid ≤ vid) → r.sender ≡ h → (h.vid ≡ vid → ⊥)
    → (nat_lt r.since since || (r.since == since && nat_lt h.vid vid)) ≡ true
ahead_by vid now since h r l n s differ = elim (cases_lt r.since since) [
  | inl low ↦ or_left (nat_lt r.since since) _ (lt-ltb r.since since low)
  | inr high ↦
      let same : r.since ≡ since = omega arith in
      let most : r.sender.vid ≤ vid = n (sym same) in
      let number : r.sender.vid ≡ h.vid = ap (λ q. q.vid) s in
      let less : h.vid < vid = below_other h.vid vid (omega arith) differ in
      or_right (nat_lt r.since since) _ (and_from (r.since == since) (nat_lt h.vid vid) (eq-eqb r.since since same) (lt-ltb h.vid vid less))
] where
  below_other : (m n : ℕ) → m ≤ n → (m ≡ n → ⊥) → m < n
  below_other m n l differ = elim (cases_lt m n) [ inl low ↦ low | inr high ↦ absurd (differ (omega arith)) ]

-- the chosen request of another group precedes one that may be chosen too
ahead_of : (table : TableValue) (flags : List GroupFlags) (board : Scoreboard) (now : ℕ) (g : Group) (desc : Descriptor) (since : ℕ) (own r : Request)
    → own.since ≡ since → own.sender ≡ g → IsItem (eligible_requests table flags board now) own
    → oldest (eligible_requests table flags board now) ≡ Some r → (r.sender.vid == g.vid) ≡ false
    → TakesAhead table board g since (decided table now (Some r))
ahead_of table flags board now g desc since own r begun mine i e other =
    let rs = eligible_requests table flags board now in
    let is = eligible_is table flags board now r (oldest_item rs r e) in
    let first = item_all (λ q. IsNotBefore q r) rs own (oldest-least rs r e) i in
    let low : r.since ≤ since = let l = first.since in omega arith in
    let number : own.sender.vid ≡ g.vid = ap (λ q. q.vid) mine in
    let order : since ≡ r.since → r.sender.vid ≤ g.vid = λ same. let l = first.number (begun ∙ same) in omega arith in
    let sent : r.sender.vid ≡ is.0.vid = ap (λ q. q.vid) is.2.sender in
    record {
      taken = is.0;
      listed = is.1;
      ahead = ap (waits_ahead since g.vid is.0.vid) is.2.waiting
          ∙ ahead_by g.vid now since is.0 r low order is.2.sender (λ same. eqb-false r.sender.vid g.vid other (sent ∙ same));
      takes = takes-decided table is.0.vid now r ∙ eq-eqb r.sender.vid is.0.vid sent;
    }

-- one chosen request, where the one that waits may be chosen
chosen_by : (b : Bool) (table : TableValue) (flags : List GroupFlags) (board : Scoreboard) (now : ℕ) (g : Group) (desc : Descriptor) (since : ℕ) (own r : Request) → (r.sender.vid == g.vid) ≡ b
    → Waits table board g desc since → AreNamed table
    → own.since ≡ since → own.sender ≡ g → IsItem (eligible_requests table flags board now) own
    → oldest (eligible_requests table flags board now) ≡ Some r
    → Serves (decided table now (Some r)) g.vid desc ⊎ ((takes_of g.vid (decided table now (Some r)) ≡ false) × TakesAhead table board g since (decided table now (Some r)))
chosen_by true table flags board now g desc since own r b w names begun mine i e =
    let is = eligible_is table flags board now r (oldest_item (eligible_requests table flags board now) r e) in
    inl (serves_own table board g is.0 desc since now r w (names is.0 is.1) is.2 (eqb-true r.sender.vid g.vid b))
chosen_by false table flags board now g desc since own r b w names begun mine i e =
    inr (takes-decided table g.vid now r ∙ b, ahead_of table flags board now g desc since own r begun mine i e b)

-- some request is chosen there
chosen_or : (o : Option Request) (table : TableValue) (flags : List GroupFlags) (board : Scoreboard) (now : ℕ) (g : Group) (desc : Descriptor) (since : ℕ) (own : Request)
    → Waits table board g desc since → AreNamed table
    → own.since ≡ since → own.sender ≡ g → IsItem (eligible_requests table flags board now) own
    → oldest (eligible_requests table flags board now) ≡ o
    → Serves (decided table now o) g.vid desc ⊎ ((takes_of g.vid (decided table now o) ≡ false) × TakesAhead table board g since (decided table now o))
chosen_or None table flags board now g desc since own w names begun mine i e = absurd (some_chosen (eligible_requests table flags board now) own i e) where
  some_chosen : (rs : List Request) (r : Request) → IsItem rs r → oldest rs ≡ None → ⊥
  some_chosen [] r i e = i
  some_chosen (x ∷ rs) r i e = cc
chosen_or (Some r) table flags board now g desc since own w names begun mine i e =
    chosen_by (r.sender.vid == g.vid) table flags board now g desc since own r refl w names begun mine i e

-- the request that waits
abbrev own_request : Group → GroupFlags → Descriptor → ℕ → Request
own_request g one desc since = record { sender = g; flags = one; desc = desc; since = since; starved = 0 }

-- one of the four grounds is enough
eligible_by : (a b c d : Bool) → (b || c) ≡ true → (a || b || c || d) ≡ true
eligible_by true b c d e = refl
eligible_by false true c d e = refl
eligible_by false false true d e = refl
eligible_by false false false d e = cc

-- it may be chosen once its timeout has passed, if it has no receiver or its receiver is granted
own_eligible : (table : TableValue) (flags : List GroupFlags) (board : Scoreboard) (now : ℕ) (g : Group) (desc : Descriptor) (since : ℕ) (one : GroupFlags) → Waits table board g desc since
    → IsItem table.groups g → flags_named flags g.vid ≡ Some one → since + g.ts ≤ now
    → (desc.class == 3 || is_granted table flags board desc.dest) ≡ true
    → IsItem (eligible_requests table flags board now) (own_request g one desc since)
unfolding is_eligible
own_eligible table flags board now g desc since one w listed there ready take =
    let own = own_request g one desc since in
    let is : request_in flags board g ≡ Some own = (λ i. request_by g (there i) (w.line i)) in
    filter_item (is_eligible table flags board now) (waiting_requests table flags board) own
    (filter_map_item (request_in flags board) table.groups g own listed is)
    (and_from (is_ready now own) _
    (or_right one.unanimous (nat_le g.ts (now - since)) (le-leb g.ts (now - since) (omega arith)))
    (eligible_by (is_some (reason table g desc)) (desc.class == 3) (is_granted table flags board desc.dest) (is_expired table own) take))

-- a lawful request that waits for its timeout, and whose receiver is granted or which has none, is served, or one that precedes it is taken
pub served_or_ahead : (table : TableValue) (flags : List GroupFlags) (board : Scoreboard) (now : ℕ) (g : Group) (desc : Descriptor) (since : ℕ) (one : GroupFlags) → Waits table board g desc since
    → AreNamed table → IsItem table.groups g → flags_named flags g.vid ≡ Some one → since + g.ts ≤ now
    → (desc.class == 3 || is_granted table flags board desc.dest) ≡ true
    → Serves (decision_of table flags now board) g.vid desc
    ⊎ ((takes_of g.vid (decision_of table flags now board) ≡ false) × TakesAhead table board g since (decision_of table flags now board))
unfolding decision_of
served_or_ahead table flags board now g desc since one w names listed there ready take =
    chosen_or (oldest (eligible_requests table flags board now)) table flags board now g desc since (own_request g one desc since) w names refl refl
    (own_eligible table flags board now g desc since one w listed there ready take) refl
