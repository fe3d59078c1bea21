-- A request that is awaited is served within its longest wait.
use Rattle.std.proofs.Common.{◌≡◌, ℕ, suc, zero, ◌+◌, ◌*◌, ◌<◌, ◌≤◌, true, false, List, [], ◌∷◌, length, refl, ap, ◌∙◌, arith, inl, inr}
use Rattle.std.specs.Prelude.{Some}
use Rattle.std.proofs.lemmas.Bool.{eq-eqb, cases_lt}
use Rattle.std.proofs.Math.Nat.{mul-le-mul_right}
use Rattle.packet_format.specs.declared.Descriptor.{Descriptor}
use Rattle.config_table.specs.declared.groups.Group.{Group}
use Rattle.config_table.specs.declared.decisions.Decision.{Decision}
use Rattle.config_table.specs.declared.decisions.Decision.TheVariants.{Idle, Discard, Exchange}
use Rattle.ftpp_base.proofs.Items.{IsItem, find_item}
use Rattle.config_table.specs.Table.{is_named}
use Rattle.scoreboard.specs.Board.{Waiting, line_of}
use Rattle.scoreboard.specs.Service.{takes_of, Serves, ServedInTime}
use Rattle.scoreboard.proofs.Chosen.{Waits, TakesAhead}
use Rattle.scoreboard.proofs.Awaited.{Case, lag_timeout, longest_is, after_pattern, latest, untaken_before, waits_first, waits_next, ahead_count, ahead_no_more, ahead_less, ahead_some, ahead_few, LagsBy, lags_none, lags_next, goes, waits_or_served}

-- a decision that serves a group's request takes it
pub serves_takes : (decision : Decision) (vid : ℕ) (desc : Descriptor) → Serves decision vid desc → takes_of vid decision ≡ true
serves_takes Idle vid desc s = absurd s
serves_takes (Discard v d number admitted waited) vid desc s = absurd s
serves_takes (Exchange service) vid desc s = eq-eqb service.vid vid s.0

-- one more cycle that does not take the group
untaken_next : (x : Case) (u : ℕ) → untaken_before x u → takes_of x.g.vid (x.decision u) ≡ false → untaken_before x (suc u)
untaken_next x u n none k l m = elim (cases_lt k u) [
  | inl before ↦ n k l before
  | inr after ↦ let same : k ≡ u = omega arith in ap (λ j. takes_of x.g.vid (x.decision j)) same ∙ none
]

-- it is served in one of some cycles
abbrev pub ServedBetween : Case → ℕ → ℕ → Type 0
ServedBetween x u upto = (k : ℕ) × (u ≤ k) × (k < upto) × Serves (x.decision k) x.g.vid x.desc

-- between later cycles is between earlier ones
sooner : (x : Case) (u v upto : ℕ) → v ≤ u → ServedBetween x u upto → ServedBetween x v upto
sooner x u v upto l s = let k = s.0 in let a = s.1 in (s.0, omega arith, s.2, s.3)

-- What stands at a cycle after the timeout, with the work that may be left.
record Stands (x : Case) (since u least left : ℕ) : Type 0 where
  from : x.from ≤ u
  old : since ≤ u
  ready : since + x.g.ts ≤ u
  untaken : untaken_before x u
  waits : Waits x.table (after_pattern x u) x.g x.desc since
  lags : LagsBy x (x.board u) least
  within : least ≤ lag_timeout x.table x.desc
  work : ahead_count x since u * (lag_timeout x.table x.desc + 1) + lag_timeout x.table x.desc + 1 ≤ left + least
  room : u + left ≤ latest x

-- where one group less precedes, a whole turn less is left
turn_less : (n m turn left least : ℕ) → suc n ≤ m → m * (turn + 1) + turn + 1 ≤ suc left + least → least ≤ turn → n * (turn + 1) + turn + 1 ≤ left + 0
turn_less n m turn left least l w c = let p = mul-le-mul_right (turn + 1) l in omega arith

-- where no group more precedes and the lag has risen, a cycle less is left
no_turn_more : (n m turn left least : ℕ) → n ≤ m → m * (turn + 1) + turn + 1 ≤ suc left + least → n * (turn + 1) + turn + 1 ≤ left + (least + 1)
no_turn_more n m turn left least l w = let p = mul-le-mul_right (turn + 1) l in omega arith

-- where a group precedes, more than this cycle is left
some_left : (m turn left least : ℕ) → 1 ≤ m → m * (turn + 1) + turn + 1 ≤ suc left + least → least ≤ turn → 1 ≤ left
some_left m turn left least l w c = let p = mul-le-mul_right (turn + 1) l in omega arith

-- there is always a cycle left
nothing_left : (m turn least : ℕ) → m * (turn + 1) + turn + 1 ≤ 0 + least → least ≤ turn → ⊥
nothing_left m turn least w c = omega arith

-- after a cycle that took a group that precedes
turn_next : (x : Case) (since u least left : ℕ) → Stands x since u least (suc left) → takes_of x.g.vid (x.decision u) ≡ false → TakesAhead x.table (after_pattern x u) x.g since (x.decision u)
    → Stands x since (suc u) 0 left
turn_next x since u least left s none t =
    let l = s.from in let o = s.old in let r = s.ready in let room = s.room in let w = s.work in let c = s.within in
    let some = some_left (ahead_count x since u) (lag_timeout x.table x.desc) left least (ahead_some x since u t) w c in
    let more : suc u < latest x = omega arith in
    let n = untaken_next x u s.untaken none in
    let e = x.awaits.decides u l (omega arith) s.untaken in
    record {
      from = omega arith;
      old = omega arith;
      ready = omega arith;
      untaken = n;
      waits = waits_next x since u l more n e none s.waits;
      lags = lags_none x (x.board (suc u));
      within = omega arith;
      work = turn_less (ahead_count x since (suc u)) (ahead_count x since u) (lag_timeout x.table x.desc) left least (ahead_less x since u o l more n e t) w c;
      room = omega arith;
    }

-- after a cycle in which the receiver had to be waited for
lag_next : (x : Case) (since u least left : ℕ) → Stands x since u least (suc left) → takes_of x.g.vid (x.decision u) ≡ false → least + 1 ≤ lag_timeout x.table x.desc → LagsBy x (after_pattern x u) (least + 1)
    → Stands x since (suc u) (least + 1) left
lag_next x since u least left s none within lags =
    let l = s.from in let o = s.old in let r = s.ready in let room = s.room in let w = s.work in
    let more : suc u < latest x = omega arith in
    let n = untaken_next x u s.untaken none in
    let e = x.awaits.decides u l (omega arith) s.untaken in
    record {
      from = omega arith;
      old = omega arith;
      ready = omega arith;
      untaken = n;
      waits = waits_next x since u l more n e none s.waits;
      lags = lags_next x u (least + 1) l more n e lags;
      within = within;
      work = no_turn_more (ahead_count x since (suc u)) (ahead_count x since u) (lag_timeout x.table x.desc) left least (ahead_no_more x since u o l more n e) w;
      room = omega arith;
    }

-- after its timeout it is served within the work that is left
after_timeout : (left : ℕ) (x : Case) (since u least : ℕ) → Stands x since u least left → ServedBetween x u (latest x)
after_timeout zero x since u least s = absurd (nothing_left (ahead_count x since u) (lag_timeout x.table x.desc) least s.work s.within)
after_timeout (suc left) x since u least s =
    let room = s.room in
    elim (goes x since u least s.from (omega arith) s.untaken s.waits s.ready s.lags) [
      | inl served ↦ (u, omega arith, omega arith, served)
      | inr p ↦ elim p.1 [
        | inl ahead ↦ sooner x (suc u) u (latest x) (omega arith) (after_timeout left x since (suc u) 0 (turn_next x since u least left s p.0 ahead))
        | inr lag ↦ sooner x (suc u) u (latest x) (omega arith) (after_timeout left x since (suc u) (least + 1) (lag_next x since u least left s p.0 lag.0 lag.1))
      ]
    ]

-- the work at the timeout is at most a turn for each group
whole : (n m turn : ℕ) → suc n ≤ m → n * (turn + 1) + turn + 1 ≤ m * (turn + 1) + 0
whole n m turn l = let p = mul-le-mul_right (turn + 1) l in omega arith

-- a group makes a turn of at least one cycle
some_turn : (n m turn : ℕ) → suc n ≤ m → 1 ≤ m * (turn + 1)
some_turn n m turn l = let p = mul-le-mul_right (turn + 1) l in omega arith

-- before its timeout it is served, or waits until then
before_timeout : (n : ℕ) (x : Case) (since u : ℕ) → u + n ≡ x.from + x.g.ts → since ≤ x.from → x.from ≤ u → untaken_before x u → Waits x.table (after_pattern x u) x.g x.desc since → ServedBetween x u (latest x)
before_timeout zero x since u e b l n w =
    let few = ahead_few x since u w in
    let long = longest_is x.table x.g x.desc in
    after_timeout (length x.table.groups * (lag_timeout x.table x.desc + 1)) x since u 0 (record {
      from = l;
      old = omega arith;
      ready = omega arith;
      untaken = n;
      waits = w;
      lags = lags_none x (x.board u);
      within = omega arith;
      work = whole (ahead_count x since u) (length x.table.groups) (lag_timeout x.table x.desc) few;
      room = omega arith;
    })
before_timeout (suc m) x since u e b l n w =
    let few = ahead_few x since u w in
    let some = some_turn (ahead_count x since u) (length x.table.groups) (lag_timeout x.table x.desc) few in
    let long = longest_is x.table x.g x.desc in
    let more : suc u < latest x = omega arith in
    elim (waits_or_served x since u l (omega arith) n w) [
      | inl served ↦ (u, omega arith, omega arith, served)
      | inr none ↦
          let next = untaken_next x u n none in
          let d = x.awaits.decides u l (omega arith) n in
          sooner x (suc u) u (latest x) (omega arith) (before_timeout m x since (suc u) (omega arith) b (omega arith) next (waits_next x since u l more next d none w))
    ]

-- there is a group, so the longest wait is at least one cycle
some_wait : (x : Case) → x.from < latest x
some_wait x = let some = listed x.table.groups (found x) in let one = some_turn 0 (length x.table.groups) (lag_timeout x.table x.desc) some in let long = longest_is x.table x.g x.desc in omega arith where
  listed : (gs : List Group) → IsItem gs x.g → 1 ≤ length gs
  listed [] i = absurd i
  listed (h ∷ hs) i = omega arith

  found : (y : Case) → IsItem y.table.groups y.g
  found y = (find_item (is_named y.g.vid) y.table.groups y.g y.named).0

-- before its timeout and after it
case_served : (x : Case) → ((w : Waiting) → (line_of (x.board x.from) x.g.vid).request ≡ Some w → w.1 ≤ x.from) → ServedBetween x x.from (latest x)
case_served x old =
    let first = waits_first x (some_wait x) old in
    before_timeout x.g.ts x first.0 x.from refl first.1 (omega arith) (λ k a b. let never : ⊥ = omega arith in absurd never) first.2

-- a lawful request that is awaited is served within its longest wait
pub served_in_time : ServedInTime
served_in_time table g desc faulty from flags board decision valid named lawful old awaits =
    let x : Case = record {
      table = table;
      g = g;
      desc = desc;
      faulty = faulty;
      from = from;
      flags = flags;
      board = board;
      decision = decision;
      valid = valid;
      named = named;
      lawful = lawful;
      awaits = awaits;
    } in
    case_served x old
