-- What each step and each update keeps of a scoreboard: one line for each group, and numbers of earlier cycles.
use Rattle.std.proofs.Common.{◌≡◌, ℕ, zero, suc, ◌+◌, ◌<◌, ◌≤◌, Bool, true, false, cond, List, [], ◌∷◌, map, refl, ap, sym, ◌∙◌, arith, subst}
use Rattle.std.specs.Prelude.{Option, Some, None, option_map, unwrap_or, is_some, find, slice_index, ◌==◌, ◌&&◌}
use Rattle.std.specs.List.{AllByRecursion}
use Rattle.std.proofs.lemmas.Option.{same_Some}
use Rattle.std.proofs.lemmas.Bool.{eq-eqb, ne_eqb, eqb-true}
use Rattle.packet_format.specs.declared.Descriptor.{Descriptor}
use Rattle.packet_format.specs.Packets.{same_descriptor}
use Rattle.ftpp_base.proofs.Items.{find-map}
use Rattle.config_table.specs.declared.groups.Group.{Group}
use Rattle.config_table.specs.declared.decisions.GroupFlags.{GroupFlags}
use Rattle.config_table.specs.declared.decisions.StateRow.{StateRow}
use Rattle.config_table.specs.declared.decisions.Decision.{Decision}
use Rattle.config_table.specs.declared.decisions.Decision.TheVariants.{Idle, Discard, Exchange}
use Rattle.config_table.specs.Table.{TableValue, IsValid, is_named, group_named}
use Rattle.config_table.proofs.NamedGroups.{Ascending, Ascending-valid}
use Rattle.scoreboard.specs.Board.{Scoreboard, Waiting, is_line_of, blank_line, line_of, line_after, flags_named, lacks_space, waiting_since, request_after, says_full, lags_after, marked, marked_line, without_request, updated_line, after_update, empty_scoreboard}
use Rattle.scoreboard.specs.Choice.{after_decision, scoreboard_decision, scoreboard_after}
use Rattle.scoreboard.specs.Times.{IsBefore, AreBefore, AreHeldBy, AreOthersHeldBy, line_number, group_number, line_for, lines_for, AreLinesOf}
use Rattle.scoreboard.proofs.Lines.{keeps_vid}
use Rattle.scoreboard.proofs.Rows.{line_vid, line_of-without_request}
use Rattle.scoreboard.proofs.Holding.{line_there}

-- ---- lines made group by group

-- the line of a group, where each line has the number of the group that it is made of
pub line_made : (f : Group → StateRow) (table : TableValue) (vid : ℕ) → ((g : Group) → (f g).vid ≡ g.vid) → line_of (map f table.groups) vid ≡ unwrap_or (option_map f (group_named table vid)) (blank_line vid)
line_made f table vid number =
    ap (λ o. unwrap_or o (blank_line vid)) (find-map (is_line_of vid) (is_named vid) f table.groups (λ g. ap (λ n. n == vid) (number g)))

-- such lines are those of the groups
pub lines_made : (f : Group → StateRow) (groups : List Group) → ((g : Group) → (f g).vid ≡ g.vid) → map line_number (map f groups) ≡ map group_number groups
lines_made f [] number = refl
lines_made f (g ∷ gs) number = λ i. number g i ∷ lines_made f gs number i

-- the line of one group, before a cycle
before_by : (o : Option Group) (f : Group → StateRow) (n vid : ℕ) → ((g : Group) → IsBefore n (f g)) → IsBefore n (blank_line vid) → IsBefore n (unwrap_or (option_map f o) (blank_line vid))
before_by None f n vid each blank = blank
before_by (Some g) f n vid each blank = each g

-- no lag, at any index
pub no_lag : (index : ℕ) → slice_index (0 ∷ 0 ∷ 0 ∷ 0 ∷ []) index ≡ 0
no_lag zero = refl
no_lag (suc zero) = refl
no_lag (suc (suc zero)) = refl
no_lag (suc (suc (suc zero))) = refl
no_lag (suc (suc (suc (suc index)))) = refl

-- a blank line is one of before any cycle
pub before_blank : (n vid : ℕ) → IsBefore n (blank_line vid)
before_blank n vid = record {
  since = λ w e. cc;
  starved = λ w e. cc;
  lags = λ index. let none = no_lag index in omega arith;
}

-- so are lines made of lines before a cycle
pub before_made : (f : Group → StateRow) (table : TableValue) (n : ℕ) → ((g : Group) → (f g).vid ≡ g.vid) → ((g : Group) → IsBefore n (f g)) → AreBefore n (map f table.groups)
before_made f table n number each vid =
    let P : StateRow → Type 0 = λ line. IsBefore n line in
    subst P (sym (line_made f table vid number)) (before_by (group_named table vid) f n vid each (before_blank n vid))

-- a line before a cycle is one before a later one
later_line : (n m : ℕ) (line : StateRow) → n ≤ m → IsBefore n line → IsBefore m line
later_line n m line l h = record {
  since = λ w e. let s = h.since w e in omega arith;
  starved = λ w e. let s = h.starved w e in omega arith;
  lags = λ index. let s = h.lags index in omega arith;
}

pub before_later : (n m : ℕ) (board : Scoreboard) → n ≤ m → AreBefore n board → AreBefore m board
before_later n m board l h vid = later_line n m (line_of board vid) l (h vid)

-- ---- a step

-- a request with its numbers
with_numbers : (n : ℕ) (x w : Waiting) → ◌≡◌ {A = Option Waiting} (Some x) (Some w) → (x.1 < n) × (x.2 ≤ n) → (w.1 < n) × (w.2 ≤ n)
with_numbers n x w e h = let P : Waiting → Type 0 = λ v. (v.1 < n) × (v.2 ≤ n) in subst P (same_Some x w e) h

-- it begins
begins : (starves : Bool) (now : ℕ) (desc : Descriptor) → (now < now + 1) × (cond starves 1 0 ≤ now + 1)
begins true now desc = (omega arith, omega arith)
begins false now desc = (omega arith, omega arith)

-- or goes on
goes_on : (starves : Bool) (now : ℕ) (w : Waiting) → w.1 < now → w.2 ≤ now → (w.1 < now + 1) × (cond starves (w.2 + 1) 0 ≤ now + 1)
goes_on true now w l m = (omega arith, omega arith)
goes_on false now w l m = (omega arith, omega arith)

-- by whether it is the one that waited
numbers_by : (b starves : Bool) (now : ℕ) (desc : Descriptor) (w : Waiting) → w.1 < now → w.2 ≤ now
    → let v : Waiting = cond b (desc, w.1, cond starves (w.2 + 1) 0) (desc, now, cond starves 1 0) in (v.1 < now + 1) × (v.2 ≤ now + 1)
numbers_by true starves now desc w l m = goes_on starves now w l m
numbers_by false starves now desc w l m = begins starves now desc

-- a voted request
numbers_since : (starves : Bool) (now : ℕ) (desc : Descriptor) (before : Option Waiting) → ((w : Waiting) → before ≡ Some w → (w.1 < now) × (w.2 ≤ now))
    → let v : Waiting = waiting_since starves now desc before in (v.1 < now + 1) × (v.2 ≤ now + 1)
numbers_since starves now desc None h = begins starves now desc
numbers_since starves now desc (Some w) h = let k = h w refl in numbers_by (same_descriptor w.0 desc) starves now desc w k.0 k.1

-- the request of a line
numbers_after : (flags : List GroupFlags) (now : ℕ) (before : Option Waiting) (desc : Option Descriptor) → ((w : Waiting) → before ≡ Some w → (w.1 < now) × (w.2 ≤ now))
    → (w : Waiting) → request_after flags now before desc ≡ Some w → (w.1 < now + 1) × (w.2 ≤ now + 1)
numbers_after flags now before None h w e = cc
numbers_after flags now before (Some desc) h w e =
    with_numbers (now + 1) (waiting_since (lacks_space flags desc) now desc before) w e (numbers_since (lacks_space flags desc) now desc before h)

-- a lag
lag_by : (b : Bool) (lag now : ℕ) → lag ≤ now → cond b (lag + 1) 0 ≤ now + 1
lag_by true lag now l = omega arith
lag_by false lag now l = omega arith

lags_by : (g : Group) (one : GroupFlags) (lags : List ℕ) (now : ℕ) → ((index : ℕ) → slice_index lags index ≤ now) → (index : ℕ) → slice_index (lags_after g one lags) index ≤ now + 1
lags_by g one lags now h zero = lag_by (one.most_space && says_full g one 0) (slice_index lags 0) now (h 0)
lags_by g one lags now h (suc zero) = lag_by (one.most_space && says_full g one 1) (slice_index lags 1) now (h 1)
lags_by g one lags now h (suc (suc zero)) = lag_by (one.most_space && says_full g one 2) (slice_index lags 2) now (h 2)
lags_by g one lags now h (suc (suc (suc zero))) = lag_by (one.most_space && says_full g one 3) (slice_index lags 3) now (h 3)
lags_by g one lags now h (suc (suc (suc (suc index)))) = omega arith

-- a line
line_by : (flags : List GroupFlags) (now : ℕ) (g : Group) (line : StateRow) (one : Option GroupFlags) → IsBefore now line → IsBefore (now + 1) (line_after flags now g line one)
line_by flags now g line None h = before_blank (now + 1) g.vid
line_by flags now g line (Some one) h =
    let numbers : (w : Waiting) → line.request ≡ Some w → (w.1 < now) × (w.2 ≤ now) = λ w e. (h.since w e, h.starved w e) in record {
      since = λ w e. (numbers_after flags now line.request one.desc numbers w e).0;
      starved = λ w e. (numbers_after flags now line.request one.desc numbers w e).1;
      lags = lags_by g one line.lags now h.lags;
    }

-- the lines after a pattern are those of before the next cycle
pub before_marked : (table : TableValue) (flags : List GroupFlags) (now : ℕ) (board : Scoreboard) → AreBefore now board → AreBefore (now + 1) (marked table flags now board)
unfolding marked
before_marked table flags now board h =
    before_made (marked_line flags now board) table (now + 1) (λ g. keeps_vid flags now g (line_of board g.vid) (flags_named flags g.vid))
    (λ g. line_by flags now g (line_of board g.vid) (flags_named flags g.vid) (h g.vid))

-- and are those of the table's groups
pub lines_marked : (table : TableValue) (flags : List GroupFlags) (now : ℕ) (board : Scoreboard) → AreLinesOf table (marked table flags now board)
unfolding marked
lines_marked table flags now board = lines_made (marked_line flags now board) table.groups (λ g. keeps_vid flags now g (line_of board g.vid) (flags_named flags g.vid))

-- a line that may lose its request
ended_by : (b : Bool) (n : ℕ) (line : StateRow) → IsBefore n line → IsBefore n (cond b (record line { request = None }) line)
ended_by true n line h = record { since = λ w e. cc; starved = λ w e. cc; lags = h.lags }
ended_by false n line h = h

before_without : (n vid : ℕ) (board : Scoreboard) → AreBefore n board → AreBefore n (without_request vid board)
before_without n vid board h other =
    let P : StateRow → Type 0 = λ line. IsBefore n line in
    subst P (sym (line_of-without_request vid board other)) (ended_by (is_line_of vid (line_of board other)) n (line_of board other) (h other))

-- it keeps its number
ended_number : (b : Bool) (line : StateRow) → (cond b (record line { request = None }) line).vid ≡ line.vid
ended_number true line = refl
ended_number false line = refl

pub numbers_without : (vid : ℕ) (board : Scoreboard) → map line_number (without_request vid board) ≡ map line_number board
numbers_without vid [] = refl
numbers_without vid (line ∷ lines) = λ i. ended_number (is_line_of vid line) line i ∷ numbers_without vid lines i

-- the same of the lines after a decision
pub before_decision : (n : ℕ) (decision : Decision) (board : Scoreboard) → AreBefore n board → AreBefore n (after_decision decision board)
before_decision n Idle board h = h
before_decision n (Discard vid desc number admitted waited) board h = before_without n vid board h
before_decision n (Exchange service) board h = before_without n service.vid board h

pub lines_decision : (table : TableValue) (decision : Decision) (board : Scoreboard) → AreLinesOf table board → AreLinesOf table (after_decision decision board)
lines_decision table Idle board h = h
lines_decision table (Discard vid desc number admitted waited) board h = numbers_without vid board ∙ h
lines_decision table (Exchange service) board h = numbers_without service.vid board ∙ h

pub before_step : (table : TableValue) (flags : List GroupFlags) (now : ℕ) (board : Scoreboard) → AreBefore now board → AreBefore (now + 1) (scoreboard_after table now flags board)
before_step table flags now board h =
    before_decision (now + 1) (scoreboard_decision table now flags board) (marked table flags now board) (before_marked table flags now board h)

pub lines_step : (table : TableValue) (flags : List GroupFlags) (now : ℕ) (board : Scoreboard) → AreLinesOf table (scoreboard_after table now flags board)
lines_step table flags now board = lines_decision table (scoreboard_decision table now flags board) (marked table flags now board) (lines_marked table flags now board)

-- ---- an update

-- a line after an update has its group's number
updated_by : (b : Bool) (vid : ℕ) (board : Scoreboard) (g : Group) → (g.vid == vid) ≡ b → (cond b (blank_line vid) (line_of board g.vid)).vid ≡ g.vid
updated_by true vid board g e = sym (eqb-true g.vid vid e)
updated_by false vid board g e = line_vid board g.vid

updated_number : (vid : ℕ) (board : Scoreboard) (g : Group) → (updated_line vid board g).vid ≡ g.vid
updated_number vid board g = updated_by (g.vid == vid) vid board g refl

-- and is one of before the same cycles
updated_before : (b : Bool) (n vid : ℕ) (line : StateRow) → IsBefore n line → IsBefore n (cond b (blank_line vid) line)
updated_before true n vid line h = before_blank n vid
updated_before false n vid line h = h

pub before_update : (table : TableValue) (vid : ℕ) (board : Scoreboard) (n : ℕ) → AreBefore n board → AreBefore n (after_update table vid board)
before_update table vid board n h =
    before_made (updated_line vid board) table n (updated_number vid board) (λ g. updated_before (g.vid == vid) n vid (line_of board g.vid) (h g.vid))

pub lines_update : (table : TableValue) (vid : ℕ) (board : Scoreboard) → AreLinesOf table (after_update table vid board)
lines_update table vid board = lines_made (updated_line vid board) table.groups (updated_number vid board)

-- ---- a scoreboard without requests

-- the line of one group
abbrev empty_line : Group → StateRow
empty_line g = blank_line g.vid

pub before_empty : (table : TableValue) → AreBefore 0 (empty_scoreboard table)
before_empty table = before_made empty_line table 0 (λ g. refl) (λ g. before_blank 0 g.vid)

pub lines_empty : (table : TableValue) → AreLinesOf table (empty_scoreboard table)
lines_empty table = lines_made empty_line table.groups (λ g. refl)

-- ---- lines of the table's groups

-- a group without a line has no request
has_line : (o : Option StateRow) (vid : ℕ) → is_some (unwrap_or o (blank_line vid)).request ≡ true → is_some o ≡ true
has_line None vid e = cc
has_line (Some line) vid e = refl

-- so each that has one is a group of the table
pub held_lines : (table : TableValue) (board : Scoreboard) → AreLinesOf table board → AreHeldBy table board
held_lines table board lines vid e = sym (line_there table.groups board vid lines) ∙ has_line (find (is_line_of vid) board) vid e

pub others_lines : (table : TableValue) (one : ℕ) (board : Scoreboard) → AreLinesOf table board → AreOthersHeldBy table one board
others_lines table one board lines vid differs e = held_lines table board lines vid e

-- a line in front of others is not that of their groups
skip_line : (line : StateRow) (lines : List StateRow) (groups : List Group) → AllByRecursion (λ g. line.vid < g.vid) groups → map (line_for (line ∷ lines)) groups ≡ map (line_for lines) groups
skip_line line lines [] all = refl
skip_line line lines (g ∷ gs) all =
    let low = all.0 in
    let other : (line.vid == g.vid) ≡ false = ne_eqb line.vid g.vid (λ e. omega arith) in
    let first : line_of (line ∷ lines) g.vid ≡ line_of lines g.vid = ap (λ b. unwrap_or (cond b (Some line) (find (is_line_of g.vid) lines)) (blank_line g.vid)) other in
    λ i. first i ∷ skip_line line lines gs all.1 i

-- looked up group by group they are the lines themselves
same_lines : (groups : List Group) (lines : List StateRow) → Ascending groups → map line_number lines ≡ map group_number groups → map (line_for lines) groups ≡ lines
same_lines [] [] up e = refl
same_lines [] (l ∷ ls) up e = cc
same_lines (g ∷ gs) [] up e = cc
same_lines (g ∷ gs) (l ∷ ls) up e =
    let number : g.vid ≡ l.vid = cc in
    let rest : map line_number ls ≡ map group_number gs = cc in
    let P : ℕ → Type 0 = λ n. AllByRecursion (λ h. n < h.vid) gs in
    let first : line_of (l ∷ ls) g.vid ≡ l = ap (λ b. unwrap_or (cond b (Some l) (find (is_line_of g.vid) ls)) (blank_line g.vid)) (eq-eqb l.vid g.vid (sym number)) in
    let later : map (line_for (l ∷ ls)) gs ≡ ls = skip_line l ls gs (subst P number up.0) ∙ same_lines gs ls up.1 rest in
    λ i. first i ∷ later i

pub lines_for-same : (table : TableValue) (board : Scoreboard) → IsValid table → AreLinesOf table board → lines_for table board ≡ board
lines_for-same table board valid lines = same_lines table.groups board (Ascending-valid table valid) lines
