-- Whether each live member takes, from one member on.
use Rattle.std.proofs.Common.{◌≡◌, ℕ, suc, ◌+◌, ◌<◌, Bool, true, false, not, cond, List, ◌∷◌, drop, filter, length, refl, ap, sym, ◌∙◌, arith, ◌⊎◌, inl, inr, get_or, drop-cons}
use Rattle.std.specs.Prelude.{◌&&◌}
use Rattle.std.specs.List.{list_all, enumerate_from}
use Rattle.std.proofs.lemmas.Bool.{lt-ltb}
use Rattle.ftpp_base.specs.Sets.{has}
use Rattle.ftpp_base.specs.declared.element.Proc.{Proc}
use Rattle.config_table.specs.declared.groups.Group.{Group}
use Rattle.config_table.specs.declared.decisions.GroupFlags.{GroupFlags}
use Rattle.config_table.specs.declared.decisions.StateRow.{StateRow}
use Rattle.config_table.specs.Groups.{is_live, is_unmasked, members_of}
use Rattle.scoreboard.specs.Choice.{takes_at}

-- by whether the first seat is kept
first_by : (b : Bool) (test : ℕ × Proc → Bool) (seat : ℕ × Proc) (seats : List (ℕ × Proc)) → (b ≡ false) ⊎ (test seat ≡ true)
    → list_all test (cond b (seat ∷ seats) seats) ≡ list_all test seats
first_by true test seat seats (inl e) = cc
first_by true test seat seats (inr e) = ap (λ b. b && list_all test seats) e
first_by false test seat seats h = refl

-- a member of the table is live where it is not masked
live_is : (g : Group) (k : ℕ) (member : Proc) → k < length (members_of g) → is_live g k ≡ is_unmasked g (k, member)
live_is g k member l = ap (λ b. b && not (has g.masked k)) (lt-ltb k (length (members_of g)) l)

-- one member more takes, or is not live
pub takes_more : (g : Group) (one : GroupFlags) (line : StateRow) (members : List Proc) (k : ℕ) (d : Proc) → members ≡ members_of g → k < length members
    → (is_live g k ≡ false) ⊎ (takes_at g one line (k, get_or members k d) ≡ true)
    → list_all (takes_at g one line) (filter (is_unmasked g) (enumerate_from (k + 1) (drop (k + 1) members)))
    ≡ list_all (takes_at g one line) (filter (is_unmasked g) (enumerate_from k (drop k members)))
takes_more g one line members k d same l h =
    let next : k + 1 ≡ suc k = omega arith in
    let member : Proc = get_or members k d in
    let seats : List Proc → List (ℕ × Proc) = λ ms. filter (is_unmasked g) (enumerate_from (k + 1) ms) in
    let width = ap (λ (ms : List Proc). length ms) same in
    let live = live_is g k member (omega arith) in
    ap (λ n. list_all (takes_at g one line) (seats (drop n members))) next
    ∙ sym (first_by (is_unmasked g (k, member)) (takes_at g one line) (k, member) (seats (drop (suc k) members)) (elim h [ inl e ↦ inl (sym live ∙ e) | inr e ↦ inr e ]))
    ∙ ap (λ ms. list_all (takes_at g one line) (filter (is_unmasked g) (enumerate_from k ms))) (sym (drop-cons members k d l))
