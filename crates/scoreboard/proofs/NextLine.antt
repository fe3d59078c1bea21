-- The line of a group after a decision and after an update.
use Rattle.std.proofs.Common.{◌≡◌, ℕ, Bool, true, false, cond, ap, sym, ◌∙◌, refl, Option, Some, None, option_map, unwrap_or}
use Rattle.std.specs.Prelude.{◌==◌}
use Rattle.std.proofs.lemmas.Bool.{eqb-true, eq-eqb, ne_eqb, eqb-false}
use Rattle.ftpp_base.proofs.Items.{find-map}
use Rattle.config_table.specs.declared.groups.Group.{Group}
use Rattle.config_table.specs.declared.decisions.StateRow.{StateRow}
use Rattle.config_table.specs.declared.decisions.Decision.{Decision}
use Rattle.config_table.specs.declared.decisions.Decision.TheVariants.{Idle, Discard, Exchange}
use Rattle.config_table.specs.Table.{TableValue, group_named, is_named}
use Rattle.scoreboard.specs.Board.{Scoreboard, line_of, blank_line, is_line_of, without_request, updated_line, after_update}
use Rattle.scoreboard.specs.Choice.{after_decision}
use Rattle.scoreboard.specs.Service.{takes_of}
use Rattle.scoreboard.proofs.Rows.{line_vid, line_of-without_request, request_after_decision}

-- the lines of other groups stay where the request of one group is gone
pub without_request-other : (board : Scoreboard) (v vid : ℕ) → (v ≡ vid → ⊥) → line_of (without_request v board) vid ≡ line_of board vid
without_request-other board v vid wrong =
    line_of-without_request v board vid
    ∙ ap (λ (b : Bool). cond b (record (line_of board vid) { request = None }) (line_of board vid)) (ap (λ n. n == v) (line_vid board vid) ∙ ne_eqb vid v (λ h. wrong (sym h)))

-- a decision that takes a group's request takes it away
pub after_decision-own : (decision : Decision) (board : Scoreboard) (vid : ℕ) → takes_of vid decision ≡ true → (line_of (after_decision decision board) vid).request ≡ None
after_decision-own decision board vid e = request_after_decision decision board vid ∙ ap (λ (b : Bool). cond b None (line_of board vid).request) e

-- any other leaves its line
pub after_decision-other : (decision : Decision) (board : Scoreboard) (vid : ℕ) → takes_of vid decision ≡ false → line_of (after_decision decision board) vid ≡ line_of board vid
after_decision-other Idle board vid e = refl
after_decision-other (Discard v desc number admitted waited) board vid e = without_request-other board v vid (eqb-false v vid e)
after_decision-other (Exchange service) board vid e = without_request-other board service.vid vid (eqb-false service.vid vid e)

-- a line after an update has the number of its group
updated_vid : (v : ℕ) (board : Scoreboard) (h : Group) (b : Bool) → (h.vid == v) ≡ b → (cond b (blank_line v) (line_of board h.vid)).vid ≡ h.vid
updated_vid v board h true e = sym (eqb-true h.vid v e)
updated_vid v board h false e = line_vid board h.vid

-- an update of another group leaves its line
pub after_update-other : (table : TableValue) (v : ℕ) (board : Scoreboard) (g : Group) → group_named table g.vid ≡ Some g → (g.vid ≡ v → ⊥)
    → line_of (after_update table v board) g.vid ≡ line_of board g.vid
after_update-other table v board g named wrong =
    ap (λ (o : Option StateRow). unwrap_or o (blank_line g.vid))
    (find-map (is_line_of g.vid) (is_named g.vid) (updated_line v board) table.groups (λ h. ap (λ k. k == g.vid) (updated_vid v board h (h.vid == v) refl)))
    ∙ ap (λ (o : Option Group). unwrap_or (option_map (updated_line v board) o) (blank_line g.vid)) named
    ∙ ap (λ (b : Bool). cond b (blank_line v) (line_of board g.vid)) (ne_eqb g.vid v wrong)

-- and blanks the line of its own
pub after_update-own : (table : TableValue) (v : ℕ) (board : Scoreboard) (g : Group) → group_named table g.vid ≡ Some g → g.vid ≡ v
    → line_of (after_update table v board) g.vid ≡ blank_line v
after_update-own table v board g named own =
    ap (λ (o : Option StateRow). unwrap_or o (blank_line g.vid))
    (find-map (is_line_of g.vid) (is_named g.vid) (updated_line v board) table.groups (λ h. ap (λ k. k == g.vid) (updated_vid v board h (h.vid == v) refl)))
    ∙ ap (λ (o : Option Group). unwrap_or (option_map (updated_line v board) o) (blank_line g.vid)) named
    ∙ ap (λ (b : Bool). cond b (blank_line v) (line_of board g.vid)) (eq-eqb g.vid v own)
