-- Past the size of a group its lags are 0.
use Rattle.std.proofs.Common.{◌≡◌, ℕ, zero, suc, ◌+◌, ◌≤◌, Bool, true, false, cond, List, length, refl, ap, sym, subst, ◌∙◌}
use Rattle.std.specs.Prelude.{Option, Some, None, option_map, unwrap_or, slice_get, slice_index, not, ◌&&◌, ◌==◌, nat_lt}
use Rattle.std.proofs.lemmas.Bool.{le-ltb, and_left, eqb-true, eqb-false}
use Rattle.ftpp_base.specs.Sets.{has}
use Rattle.config_table.specs.declared.groups.Group.{Group}
use Rattle.config_table.specs.declared.decisions.GroupFlags.{GroupFlags}
use Rattle.config_table.specs.declared.decisions.StateRow.{StateRow}
use Rattle.config_table.specs.Groups.{is_live, members_of}
use Rattle.config_table.specs.Table.{TableValue, group_named}
use Rattle.scoreboard.specs.Board.{Scoreboard, blank_line, line_of, line_after, flags_named, says_full, lags_after, lag_of, marked, after_update, empty_scoreboard}
use Rattle.scoreboard.specs.Choice.{scoreboard_decision, scoreboard_after}
use Rattle.scoreboard.specs.Times.{FitsGroup, OnlyMembersLag, OnlyOthersLag}
use Rattle.scoreboard.proofs.Lines.{line_of-marked}
use Rattle.scoreboard.proofs.Rows.{lags_after_decision}
use Rattle.scoreboard.proofs.NextLine.{after_update-other, after_update-own}
use Rattle.scoreboard.proofs.Kept.{no_lag, line_made}

-- there is no live member past the size
not_live : (g : Group) (k : ℕ) → length (members_of g) ≤ k → is_live g k ≡ false
not_live g k l = and_left (nat_lt k (length (members_of g))) (not (has g.masked k)) (le-ltb k (length (members_of g)) l)

-- so none says full there
not_full : (g : Group) (one : GroupFlags) (k : ℕ) → length (members_of g) ≤ k → says_full g one k ≡ false
not_full g one k l =
    and_left (is_live g k) (unwrap_or (option_map (λ proc. not (has one.space proc.ne)) (slice_get (members_of g) k)) false) (not_live g k l)

-- and no lag rises
no_rise : (most full : Bool) (n : ℕ) → full ≡ false → cond (most && full) n 0 ≡ 0
no_rise true true n e = cc
no_rise true false n e = refl
no_rise false full n e = refl

-- the lag past the size after one pattern
past_size : (g : Group) (one : GroupFlags) (lags : List ℕ) (index : ℕ) → length (members_of g) ≤ index → slice_index (lags_after g one lags) index ≡ 0
past_size g one lags zero l = no_rise one.most_space (says_full g one 0) (slice_index lags 0 + 1) (not_full g one 0 l)
past_size g one lags (suc zero) l = no_rise one.most_space (says_full g one 1) (slice_index lags 1 + 1) (not_full g one 1 l)
past_size g one lags (suc (suc zero)) l = no_rise one.most_space (says_full g one 2) (slice_index lags 2 + 1) (not_full g one 2 l)
past_size g one lags (suc (suc (suc zero))) l = no_rise one.most_space (says_full g one 3) (slice_index lags 3 + 1) (not_full g one 3 l)
past_size g one lags (suc (suc (suc (suc index)))) l = refl

-- by the flags of the group
past_line : (o : Option GroupFlags) (flags : List GroupFlags) (now : ℕ) (g : Group) (line : StateRow) (index : ℕ) → length (members_of g) ≤ index → slice_index (line_after flags now g line o).lags index ≡ 0
past_line None flags now g line index l = no_lag index
past_line (Some one) flags now g line index l = past_size g one line.lags index l

-- the lag past the size after one step
pub lag_of-past_size : (table : TableValue) (now : ℕ) (flags : List GroupFlags) (board : Scoreboard) (g : Group) (index : ℕ) → group_named table g.vid ≡ Some g → length (members_of g) ≤ index
    → lag_of (scoreboard_after table now flags board) g.vid index ≡ 0
lag_of-past_size table now flags board g index named l =
    ap (λ (lags : List ℕ). slice_index lags index)
    (lags_after_decision (scoreboard_decision table now flags board) (marked table flags now board) g.vid
    ∙ ap (λ (line : StateRow). line.lags) (line_of-marked table flags now board g.vid g named))
    ∙ past_line (flags_named flags g.vid) flags now g (line_of board g.vid) index l

-- ---- lines that fit their groups

-- a blank line fits any group
pub blank_fits : (g : Group) (vid : ℕ) → FitsGroup g (blank_line vid)
blank_fits g vid = record { four = refl; past = λ index l. no_lag index }

-- a line with the lags of one that fits
same_lags : (g : Group) (line other : StateRow) → other.lags ≡ line.lags → FitsGroup g line → FitsGroup g other
same_lags g line other e h = record {
  four = ap (λ (lags : List ℕ). length lags) e ∙ h.four;
  past = λ index l. ap (λ (lags : List ℕ). slice_index lags index) e ∙ h.past index l;
}

-- a line after one pattern, whatever it was before
after_fits : (o : Option GroupFlags) (flags : List GroupFlags) (now : ℕ) (g : Group) (line : StateRow) → FitsGroup g (line_after flags now g line o)
after_fits None flags now g line = blank_fits g g.vid
after_fits (Some one) flags now g line = record { four = refl; past = λ index l. past_size g one line.lags index l }

-- so each step gives lines that fit
pub members_step : (table : TableValue) (now : ℕ) (flags : List GroupFlags) (board : Scoreboard) → OnlyMembersLag table (scoreboard_after table now flags board)
members_step table now flags board g named =
    same_lags g (line_after flags now g (line_of board g.vid) (flags_named flags g.vid)) (line_of (scoreboard_after table now flags board) g.vid)
    (lags_after_decision (scoreboard_decision table now flags board) (marked table flags now board) g.vid
    ∙ ap (λ (line : StateRow). line.lags) (line_of-marked table flags now board g.vid g named))
    (after_fits (flags_named flags g.vid) flags now g (line_of board g.vid))

-- so does a scoreboard without requests
pub members_empty : (table : TableValue) → OnlyMembersLag table (empty_scoreboard table)
members_empty table g named =
    subst (λ (line : StateRow). FitsGroup g line)
    (sym (line_made (λ h. blank_line h.vid) table g.vid (λ h. refl) ∙ ap (λ (o : Option Group). unwrap_or (option_map (λ h. blank_line h.vid) o) (blank_line g.vid)) named))
    (blank_fits g g.vid)

-- by whether it is the group that was updated
updated_fits : (b : Bool) (table : TableValue) (vid : ℕ) (board : Scoreboard) (g : Group) → (g.vid == vid) ≡ b → group_named table g.vid ≡ Some g → OnlyOthersLag table vid board
    → FitsGroup g (line_of (after_update table vid board) g.vid)
updated_fits true table vid board g e named others = subst (λ (line : StateRow). FitsGroup g line) (sym (after_update-own table vid board g named (eqb-true g.vid vid e))) (blank_fits g vid)
updated_fits false table vid board g e named others =
    let differs = eqb-false g.vid vid e in
    subst (λ (line : StateRow). FitsGroup g line) (sym (after_update-other table vid board g named differs)) (others g named differs)

-- and an update, where the lines of the others fit
pub members_update : (table : TableValue) (vid : ℕ) (board : Scoreboard) → OnlyOthersLag table vid board → OnlyMembersLag table (after_update table vid board)
members_update table vid board others g named = updated_fits (g.vid == vid) table vid board g refl named others
