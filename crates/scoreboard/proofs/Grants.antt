-- In each cycle the receiver of a request is granted, or the lag of its member that may say full rises by one and is within the timeout.
use Rattle.std.proofs.Common.{◌≡◌, ℕ, suc, zero, ◌+◌, ◌<◌, ◌≤◌, Bool, true, false, List, length, refl, ap, sym, ◌∙◌, arith, ◌⊎◌, inl, inr, subst}
use Rattle.std.specs.Prelude.{Option, Some, None, option_map, unwrap_or, not, ◌&&◌, nat_lt, slice_index, slice_get}
use Rattle.std.specs.List.{enumerate_from}
use Rattle.std.proofs.lemmas.Bool.{eqb-true, lt-ltb, ltb-false, and_from, or_parts, cond-true, not_from_false}
use Rattle.std.proofs.lemmas.Option.{slice_get_within}
use Rattle.ftpp_base.specs.Lists.{is_this}
use Rattle.ftpp_base.specs.Sets.{has}
use Rattle.ftpp_base.specs.declared.element.Proc.{Proc}
use Rattle.ftpp_base.proofs.Items.{IsItem, item_filter, item_enumerate, item_contains, all_false, find_item}
use Rattle.config_table.specs.declared.groups.Group.{Group}
use Rattle.config_table.specs.declared.decisions.GroupFlags.{GroupFlags}
use Rattle.config_table.specs.declared.decisions.StateRow.{StateRow}
use Rattle.config_table.specs.Groups.{is_live, is_unmasked, live_seats, members_of}
use Rattle.config_table.specs.Table.{TableValue, group_named, is_named}
use Rattle.scoreboard.specs.Board.{Scoreboard, line_of, line_after, marked, flags_named, says_full, lag_after, lags_after}
use Rattle.scoreboard.specs.Choice.{takes, takes_at, all_take, is_granted}
use Rattle.scoreboard.specs.Service.{TakesBut}
use Rattle.scoreboard.proofs.Lines.{line_of-marked}

-- each live member at an element that may be faulty lags by at least a number
abbrev pub LagAtLeast : Option ℕ → Group → List ℕ → ℕ → Type 0
LagAtLeast faulty g lags least = (seat : ℕ × Proc) → IsItem (live_seats g) seat → is_this faulty seat.1.ne ≡ true → least ≤ slice_index lags seat.0

-- an element that is this one is the only one
same_this : (faulty : Option ℕ) (one other : ℕ) → is_this faulty one ≡ true → is_this faulty other ≡ true → one ≡ other
same_this None one other e f = cc
same_this (Some m) one other e f = sym (eqb-true m one e) ∙ eqb-true m other f

-- Where a live member sits.
record Sits (g : Group) (seat : ℕ × Proc) : Type 0 where
  there : slice_get (members_of g) seat.0 ≡ Some seat.1
  within : seat.0 < length (members_of g)
  live : is_live g seat.0 ≡ true

-- each live member sits at its place
sits : (g : Group) (seat : ℕ × Proc) → IsItem (live_seats g) seat → Sits g seat
sits g seat i =
    let kept = item_filter (is_unmasked g) (enumerate_from 0 (members_of g)) seat i in
    let placed = item_enumerate 0 (members_of g) seat kept.0 in
    let place : placed.0 ≡ seat.0 = let e = placed.1 in omega arith in
    let is : slice_get (members_of g) seat.0 ≡ Some seat.1 = ap (slice_get (members_of g)) (sym place) ∙ placed.2 in
    let low : seat.0 < length (members_of g) = slice_get_within (members_of g) seat.0 seat.1 is in
    record { there = is; within = low; live = and_from (nat_lt seat.0 (length (members_of g))) (is_unmasked g seat) (lt-ltb _ _ low) kept.1 }

-- a live member without space says full
full_at : (g : Group) (one : GroupFlags) (seat : ℕ × Proc) → Sits g seat → has one.space seat.1.ne ≡ false → says_full g one seat.0 ≡ true
full_at g one seat s none =
    and_from (is_live g seat.0) _ s.live
    (ap (λ o. unwrap_or (option_map (λ proc. not (has one.space proc.ne)) o) false) s.there ∙ not_from_false (has one.space seat.1.ne) none)

-- the four lags after one pattern
lag_at : (g : Group) (one : GroupFlags) (lags : List ℕ) (index : ℕ) → index < 4 → slice_index (lags_after g one lags) index ≡ lag_after g one lags index
lag_at g one lags zero l = refl
lag_at g one lags (suc zero) l = refl
lag_at g one lags (suc (suc zero)) l = refl
lag_at g one lags (suc (suc (suc zero))) l = refl
lag_at g one lags (suc (suc (suc (suc index)))) l = let never : ⊥ = omega arith in absurd never

-- a member that says full while its group has most space lags by one more
lag_rises : (g : Group) (one : GroupFlags) (lags : List ℕ) (seat : ℕ × Proc) → length (members_of g) ≤ 4 → one.most_space ≡ true → Sits g seat → has one.space seat.1.ne ≡ false
    → slice_index (lags_after g one lags) seat.0 ≡ slice_index lags seat.0 + 1
lag_rises g one lags seat few most s none =
    let low = s.within in
    lag_at g one lags seat.0 (omega arith)
    ∙ cond-true (one.most_space && says_full g one seat.0) (slice_index lags seat.0 + 1) 0
    (and_from one.most_space (says_full g one seat.0) most (full_at g one seat s none))

-- so do all live members at that element
all_rise : (g : Group) (one : GroupFlags) (faulty : Option ℕ) (lags : List ℕ) (least : ℕ) (seat : ℕ × Proc) → length (members_of g) ≤ 4 → one.most_space ≡ true
    → is_this faulty seat.1.ne ≡ true → has one.space seat.1.ne ≡ false → LagAtLeast faulty g lags least
    → LagAtLeast faulty g (lags_after g one lags) (least + 1)
all_rise g one faulty lags least seat few most bad none h other i worse =
    let same : other.1.ne ≡ seat.1.ne = same_this faulty other.1.ne seat.1.ne worse bad in
    let e = lag_rises g one lags other few most (sits g other i) (ap (has one.space) same ∙ none) in
    let l = h other i worse in
    omega arith

-- what does not yield is the faulty one
bad_by : (b s : Bool) → s ≡ false → (b ≡ false → s ≡ true) → b ≡ true
bad_by true s none yields = refl
bad_by false s none yields = let more : s ≡ true = yields refl in cc

-- where all but the faulty one take, and that one still has to be waited for, it lags within the timeout, and by one more than before
waited_for : (g : Group) (one : GroupFlags) (faulty : Option ℕ) (lags : List ℕ) (line : StateRow) (least : ℕ) → length (members_of g) ≤ 4 → TakesBut faulty g one
    → line.lags ≡ lags_after g one lags → LagAtLeast faulty g lags least → all_take g one line ≡ false
    → (least + 1 ≤ g.tr) × LagAtLeast faulty g (lags_after g one lags) (least + 1)
waited_for g one faulty lags line least few t made h no_grant =
    let failing = all_false (takes_at g one line) (live_seats g) no_grant in
    let seat : ℕ × Proc = failing.0 in
    let i : IsItem (live_seats g) seat = failing.1 in
    let parts = or_parts (has one.space seat.1.ne) (nat_lt g.tr (slice_index line.lags seat.0)) failing.2 in
    let none : has one.space seat.1.ne ≡ false = parts.0 in
    let bad : is_this faulty seat.1.ne ≡ true = bad_by (is_this faulty seat.1.ne) (has one.space seat.1.ne) none (λ fine. t.others seat (item_contains (live_seats g) seat i) fine) in
    let low : slice_index line.lags seat.0 ≤ g.tr = ltb-false g.tr (slice_index line.lags seat.0) parts.1 in
    let same : slice_index line.lags seat.0 ≡ slice_index (lags_after g one lags) seat.0 = ap (λ l. slice_index l seat.0) made in
    let rise = lag_rises g one lags seat few t.most (sits g seat i) none in
    let before = h seat i bad in
    (omega arith, all_rise g one faulty lags least seat few t.most bad none h)

-- the lags of a group of the table after one pattern
marked_lags : (table : TableValue) (flags : List GroupFlags) (now : ℕ) (board : Scoreboard) (vid : ℕ) (g : Group) (one : GroupFlags)
    → group_named table vid ≡ Some g → flags_named flags vid ≡ Some one
    → (line_of (marked table flags now board) vid).lags ≡ lags_after g one (line_of board vid).lags
marked_lags table flags now board vid g one named there =
    let number : g.vid ≡ vid = eqb-true g.vid vid (find_item (is_named vid) table.groups g named).1 in
    ap (λ line. line.lags) (line_of-marked table flags now board vid g named)
    ∙ (λ i. (line_after flags now g (line_of board (number i)) (flags_named flags (number i))).lags)
    ∙ ap (λ o. (line_after flags now g (line_of board vid) o).lags) there

-- a group with most space is granted, or somebody has to be waited for
granted_by : (b : Bool) (g : Group) (one : GroupFlags) (line : StateRow) (P : Type 0) → all_take g one line ≡ b → one.most_space ≡ true → (all_take g one line ≡ false → P)
    → ((one.most_space && all_take g one line) ≡ true) ⊎ P
granted_by true g one line P e most h = inl (and_from one.most_space (all_take g one line) most e)
granted_by false g one line P e most h = inr (h e)

-- the receiver is granted, or its member that may say full lags within its timeout, and by one more than before the pattern
pub grant_or_lag : (table : TableValue) (flags : List GroupFlags) (now : ℕ) (board : Scoreboard) (vid : ℕ) (g : Group) (one : GroupFlags) (faulty : Option ℕ) (least : ℕ)
    → group_named table vid ≡ Some g → flags_named flags vid ≡ Some one → length (members_of g) ≤ 4 → TakesBut faulty g one
    → LagAtLeast faulty g (line_of board vid).lags least
    → (is_granted table flags (marked table flags now board) vid ≡ true)
    ⊎ ((least + 1 ≤ g.tr) × LagAtLeast faulty g (line_of (marked table flags now board) vid).lags (least + 1))
grant_or_lag table flags now board vid g one faulty least named there few t h =
    let after = marked table flags now board in
    let line = line_of after vid in
    let made : line.lags ≡ lags_after g one (line_of board vid).lags = marked_lags table flags now board vid g one named there in
    let P : Type 0 = (least + 1 ≤ g.tr) × LagAtLeast faulty g line.lags (least + 1) in
    let Q : Bool → Type 0 = λ b. (b ≡ true) ⊎ P in
    let same : takes (group_named table vid) (flags_named flags vid) line ≡ (one.most_space && all_take g one line) = λ i. takes (named i) (there i) line in
    subst Q (sym same) (granted_by (all_take g one line) g one line P refl t.most (λ e.
    let w = waited_for g one faulty (line_of board vid).lags line least few t made h e in
    let R : List ℕ → Type 0 = λ l. LagAtLeast faulty g l (least + 1) in
    (w.0, subst R (sym made) w.1)))
