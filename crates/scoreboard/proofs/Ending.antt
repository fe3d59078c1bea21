-- The request of one group ended, one line at a time.
use Rattle.std.proofs.Common.{◌≡◌, ℕ, suc, ◌+◌, ◌<◌, cond, List, [], ◌∷◌, ◌++◌, map, take, drop, set, length, refl, ap, sym, ◌∙◌, arith, get_or, take-suc, take-suc-set, drop-cons, drop-set-lt, subst, take_at}
use Rattle.std.specs.Prelude.{Some, None}
use Rattle.std.specs.List.{refill}
use Rattle.std.proofs.lemmas.Bool.{eq-eqb, ne_eqb}
use Rattle.config_table.specs.declared.decisions.StateRow.{StateRow}
use Rattle.config_table.specs.declared.decisions.Decision.{Decision}
use Rattle.config_table.specs.declared.decisions.Decision.TheVariants.{Idle, Discard, Exchange}
use Rattle.scoreboard.specs.Board.{Scoreboard, ended, without_request}
use Rattle.scoreboard.specs.Choice.{after_decision}
use Rattle.scoreboard.specs.Steps.{taken}

-- The first k lines are without the request, and the others are as before.
pub record IsEnding (vid : ℕ) (before : List StateRow) (k : ℕ) (lines : List StateRow) : Type 0 where
  pub done : take k lines ≡ map (ended vid) (take k before)
  pub left : drop k lines ≡ drop k before

-- one line more at the end
map_end : (f : StateRow → StateRow) (xs : List StateRow) (x : StateRow) → map f (xs ++ x ∷ []) ≡ map f xs ++ f x ∷ []
map_end f [] x = refl
map_end f (y ∷ ys) x = ap (λ zs. f y ∷ zs) (map_end f ys x)

-- the next line is as before
next_line : (before lines : List StateRow) (k : ℕ) (d : StateRow) → length lines ≡ length before → k < length lines → drop k lines ≡ drop k before
    → (get_or lines k d ≡ get_or before k d) × (drop (suc k) lines ≡ drop (suc k) before)
next_line before lines k d width l left =
    let here = drop-cons lines k d l in
    let there = drop-cons before k d (omega arith) in
    let both : get_or lines k d ∷ drop (suc k) lines ≡ get_or before k d ∷ drop (suc k) before = sym here ∙ left ∙ there in
    (cc, cc)

-- one line more is without the request
more_by : (vid : ℕ) (before lines after : List StateRow) (k : ℕ) (d x : StateRow) → length lines ≡ length before → k < length lines → IsEnding vid before k lines
    → x ≡ ended vid (get_or lines k d) → take (suc k) after ≡ take k lines ++ x ∷ [] → drop (suc k) after ≡ drop (suc k) lines → IsEnding vid before (k + 1) after
more_by vid before lines after k d x width l h is front rest =
    let next = next_line before lines k d width l h.left in
    let there : suc k ≡ k + 1 = omega arith in
    let P : ℕ → Type 0 = λ n. IsEnding vid before n after in
    let same : x ≡ ended vid (get_or before k d) = is ∙ ap (ended vid) next.0 in
    subst P there (record {
      done = front ∙ (λ i. h.done i ++ same i ∷ []) ∙ sym (map_end (ended vid) (take k before) (get_or before k d))
          ∙ sym (ap (map (ended vid)) (take-suc before k d (omega arith)));
      left = rest ∙ next.1;
    })

-- where the line is that of the group, its request is taken away
pub end_here : (vid : ℕ) (before lines : List StateRow) (k : ℕ) (d : StateRow) → length lines ≡ length before → k < length lines → IsEnding vid before k lines
    → (get_or lines k d).vid ≡ vid → IsEnding vid before (k + 1) (set lines k (record (get_or lines k d) { request = None }))
end_here vid before lines k d width l h own =
    let line : StateRow = get_or lines k d in
    let gone : StateRow = record line { request = None } in
    more_by vid before lines (set lines k gone) k d gone width l h (sym (ap (λ b. cond b gone line) (eq-eqb line.vid vid own))) (take-suc-set lines k gone l) (drop-set-lt (suc k) lines k gone (omega arith))

-- else the line stays
pub end_other : (vid : ℕ) (before lines : List StateRow) (k : ℕ) (d : StateRow) → length lines ≡ length before → k < length lines → IsEnding vid before k lines
    → ((get_or lines k d).vid ≡ vid → ⊥) → IsEnding vid before (k + 1) (set lines k (get_or lines k d))
end_other vid before lines k d width l h other =
    let line : StateRow = get_or lines k d in
    let gone : StateRow = record line { request = None } in
    more_by vid before lines (set lines k line) k d line width l h (sym (ap (λ b. cond b gone line) (ne_eqb line.vid vid other))) (take-suc-set lines k line l) (drop-set-lt (suc k) lines k line (omega arith))

-- lines that are all written over are the new ones
pub refill_whole : (n : ℕ) (old new : List StateRow) → length new ≡ n → refill n old new ≡ new
refill_whole n old new width = take_at new _ n width

-- the request of the group whose request a decision takes is ended
pub after_decision-taken : (decision : Decision) (vid : ℕ) (board : Scoreboard) → taken decision ≡ Some vid → after_decision decision board ≡ without_request vid board
after_decision-taken Idle vid board e = cc
after_decision-taken (Discard v desc number admitted waited) vid board e = let same : v ≡ vid = cc in ap (λ n. without_request n board) same
after_decision-taken (Exchange service) vid board e = let same : service.vid ≡ vid = cc in ap (λ n. without_request n board) same

-- and none where it takes none
pub after_decision-none : (decision : Decision) (board : Scoreboard) → taken decision ≡ None → after_decision decision board ≡ board
after_decision-none Idle board e = refl
after_decision-none (Discard v desc number admitted waited) board e = cc
after_decision-none (Exchange service) board e = cc
