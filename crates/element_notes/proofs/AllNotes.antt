-- All that is noted, kind after kind: by the senders that count, and how much it is.
use Rattle.std.proofs.Common.{◌≡◌, ℕ, ◌+◌, ◌≤◌, Bool, true, false, List, [], ◌++◌, length, length-append, refl, ap, ◌∙◌, arith, not}
use Rattle.std.specs.Prelude.{◌&&◌, filter, count_by}
use Rattle.std.proofs.lemmas.List.{length-map}
use Rattle.std.proofs.lemmas.List.FromFn.{length-range_with_len}
use Rattle.std.proofs.lemmas.List.Sums.{length-filter, count_by-le-length}
use Rattle.ftpp_base.specs.Lists.{below}
use Rattle.ftpp_base.specs.Sets.{has}
use Rattle.ftpp_base.proofs.Counts.{count_apart}
use Rattle.bit_vote.specs.Vote.{Cell}
use Rattle.two_round.specs.Echoes.{Echoes}
use Rattle.config_table.specs.declared.decisions.Decision.{Decision}
use Rattle.config_table.specs.declared.decisions.Decision.TheVariants.{Idle, Discard, Exchange}
use Rattle.config_table.specs.Table.{TableValue}
use Rattle.syndrome_log.specs.declared.Syndrome.{Syndrome}
use Rattle.syndrome_log.specs.declared.SyndromeKind.{SyndromeKind}
use Rattle.syndrome_log.specs.declared.SyndromeKind.TheVariants as kind
use Rattle.syndrome_log.specs.Log.{noted}
use Rattle.config_table.specs.Members.{senders}
use Rattle.element_notes.specs.Notes.{absent_ones, is_off_value, off_values}
use Rattle.element_notes.specs.Notes.{accused_where}
use Rattle.config_table.specs.Members.{is_left_out, stands_at}

-- ---- how many

accused_few : (cycle : ℕ) (sort : SyndromeKind) (test : ℕ → Bool) (n : ℕ) → length (accused_where cycle sort test (below n)) ≡ count_by test (below n)
accused_few cycle sort test n = length-map (filter test (below n)) (λ ne. noted cycle sort ne ne) ∙ length-filter test (below n)

not_left_out : (admitted here rest : Bool) → (here && not admitted) ≡ true → (admitted && rest) ≡ false
not_left_out true true rest e = cc
not_left_out true false rest e = cc
not_left_out false here rest e = refl

-- a member is not admitted, or its value may differ, and not both
pub five_members : (cycle : ℕ) (table : TableValue) (x : Echoes) (decision : Decision) (entry : Cell) → table.n ≤ 5
    → length (absent_ones cycle table decision) + length (off_values cycle table x decision entry) ≤ 5
five_members cycle table x Idle entry few = omega arith
five_members cycle table x (Discard vid desc number admitted waited) entry few =
    let test = is_left_out table vid admitted in
    let count = accused_few cycle kind.R test table.n in
    let most = count_by-le-length test (below table.n) in
    let long = length-range_with_len 0 table.n in
    omega arith
five_members cycle table x (Exchange service) entry few =
    let absent = is_left_out table service.vid service.admitted in
    let off = is_off_value table service x entry in
    let one = accused_few cycle kind.R absent table.n in
    let other = accused_few cycle kind.V off table.n in
    let apart = count_apart absent off (below table.n) (λ ne e. not_left_out (has service.admitted ne) (stands_at (senders table service.vid) ne) _ e) in
    let long = length-range_with_len 0 table.n in
    omega arith

-- what was appended, by the length before and after
pub added : {A : Type 0} (old more new : List A) → new ≡ old ++ more → length new ≡ length old + length more
added old more new e = ap length e ∙ length-append old more

-- ---- in order

pub in_order : (none a b c d e f g o2 o3 o4 o6 o7 : List Syndrome) → none ≡ [] → o2 ≡ none ++ a ++ b → o3 ≡ o2 ++ c → o4 ≡ o3 ++ d
    → o6 ≡ o4 ++ e ++ f → o7 ≡ o6 ++ g
    → o7 ≡ a ++ b ++ c ++ d ++ e ++ f ++ g
in_order none a b c d e f g o2 o3 o4 o6 o7 e0 e2 e3 e4 e6 e7 =
    e7
    ∙ ap (λ l. l ++ g) e6
    ∙ ap (λ l. l ++ e ++ f ++ g) e4
    ∙ ap (λ l. l ++ d ++ e ++ f ++ g) e3
    ∙ ap (λ l. l ++ c ++ d ++ e ++ f ++ g) e2
    ∙ ap (λ l. l ++ a ++ b ++ c ++ d ++ e ++ f ++ g) e0
