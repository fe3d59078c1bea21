-- Two-round results of a set that has all who contribute are the results where they count.
use Rattle.std.proofs.Common.{◌≡◌, ◌<◌, ◌≤◌, ◌∙◌, ℕ, true, List, None, cond, refl, ap, sym, arith}
use Rattle.std.specs.Prelude.{◌||◌, ◌==◌}
use Rattle.std.proofs.lemmas.Bool.{and_parts, or_right, eq-eqb}
use Rattle.std.proofs.lemmas.List.FromFn.{get_or-map-range_with_len}
use Rattle.ftpp_base.specs.Lists.{cell_at, each_below}
use Rattle.ftpp_base.specs.Sets.{has, with_number}
use Rattle.ftpp_base.specs.declared.sets.Set8.{Set8}
use Rattle.ftpp_base.proofs.SetLaws.{has-set_where}
use Rattle.bit_vote.specs.Vote.{Cell}
use Rattle.two_round.specs.Echoes.{Echoes, result_for, result_of}
use Rattle.config_table.specs.declared.decisions.Service.{Service}
use Rattle.data_exchange.specs.Entries.{CountsAlike, contribution, may_send}
use Rattle.data_exchange.proofs.EntryLaws.{contribution-same}

has_added : (set : Set8) (i : ℕ) → i < 8 → has (with_number set i) i ≡ true
has_added set i l = has-set_where (λ j. has set j || j == i) i l ∙ or_right (has set i) (i == i) (eq-eqb i i refl)

-- the result of an element in the set
pub result_in : (n : ℕ) (set : Set8) (x : Echoes) (results : List Cell) → results ≡ each_below n (result_of set x) → (ne : ℕ) → ne < n → has set ne ≡ true
    → result_for x ne ≡ cell_at results ne
result_in n set x results e ne l among =
    sym (ap (λ cells. cell_at cells ne) e
    ∙ get_or-map-range_with_len (result_of set x) 0 n ne ne None l (omega arith)
    ∙ ap (λ b. cond b (result_for x ne) None) among)

-- so is that of one source, in a set that it was put in
pub source_counts : (n : ℕ) (service : Service) (set : Set8) (x : Echoes) (results : List Cell) (source : ℕ) → results ≡ each_below n (result_of (with_number set source) x)
    → source < n → n ≤ 5 → contribution service (cell_at results) source ≡ contribution service (result_for x) source
source_counts n service set x results source e l few =
    contribution-same service (cell_at results) (result_for x) source
    (λ counts. sym (result_in n (with_number set source) x results e source l (has_added set source (omega arith))))

-- who contributes is admitted
pub admitted_count : (n : ℕ) (service : Service) (x : Echoes) (results : List Cell) → results ≡ each_below n (result_of service.admitted x)
    → CountsAlike n service (result_for x) (cell_at results)
admitted_count n service x results e ne l counts =
    result_in n service.admitted x results e ne l (and_parts (has service.admitted ne) (may_send service.kind ne) counts).0
