-- Where all words about a sender are one cell, that is the result.
use Rattle.std.proofs.Common.{◌≡◌, ◌≢◌, ℕ, true, zero, suc, ◌+◌, ◌<◌, ◌≤◌, List, [], ◌∷◌, ◌++◌, length, map, refl, ap, sym, subst, arith, add-one, ◌∙◌, ◌⊎◌, inl, inr, cond}
use Rattle.std.specs.Prelude.{count_by}
use Rattle.std.specs.List.{AllByRecursion}
use Rattle.std.proofs.lemmas.Bool.{cases_eq}
use Rattle.std.proofs.lemmas.List.{length-map}
use Rattle.std.proofs.lemmas.List.Edits.{length-remove}
use Rattle.std.proofs.lemmas.List.FromFn.{length-range_with_len}
use Rattle.ftpp_base.specs.Lists.{below, others}
use Rattle.ftpp_base.proofs.Counts.{count_by-cons}
use Rattle.bit_vote.specs.Vote.{Cell, IsCell, same_cell, vote}
use Rattle.bit_vote.proofs.Majority.{AreCells, same_cell-refl, vote-same}
use Rattle.two_round.specs.Echoes.{Echoes, word_of, result_for}
use Rattle.two_round.proofs.OthersMore.{others_same, others_more}

-- each is that cell
abbrev AreAll : Cell → List Cell → Type 0
AreAll cell cells = AllByRecursion (λ c. c ≡ cell) cells

all_append : (cell : Cell) (cells : List Cell) (last : Cell) → AreAll cell cells → last ≡ cell → AreAll cell (cells ++ last ∷ [])
all_append cell [] last a e = (e, tt)
all_append cell (c ∷ cells) last a e = (a.0, all_append cell cells last a.1 e)

-- one number more
more_by : (f : ℕ → Cell) (cell : Cell) (one k : ℕ) → AreAll cell (map f (others k one)) → (k ≢ one → f k ≡ cell) → (k ≡ one) ⊎ (k ≡ one → ⊥)
    → AreAll cell (map f (others (k + 1) one))
more_by f cell one k a is (inl e) = subst (AreAll cell) (others_same f one (map f (others k one)) k refl e) a
more_by f cell one k a is (inr away) =
    subst (AreAll cell) (others_more f one (map f (others k one)) (map f (others k one) ++ f k ∷ []) (f k) k refl refl away refl)
    (all_append cell (map f (others k one)) (f k) a (is away))

none_yet : (f : ℕ → Cell) (cell : Cell) (one : ℕ) → AreAll cell (map f (others 0 one))
none_yet f cell zero = tt
none_yet f cell (suc one) = tt

-- the words of all numbers below a bound but one
all_others : (f : ℕ → Cell) (cell : Cell) (one n : ℕ) → ((k : ℕ) → k < n → k ≢ one → f k ≡ cell) → AreAll cell (map f (others n one))
all_others f cell one zero is = none_yet f cell one
all_others f cell one (suc n) is =
    subst (λ m. AreAll cell (map f (others m one))) (add-one n)
    (more_by f cell one n (all_others f cell one n (λ k l. is k (omega arith))) (is n (omega arith)) (cases_eq n one))

count_all : (cell : Cell) (cells : List Cell) → AreAll cell cells → count_by (same_cell cell) cells ≡ length cells
count_all cell [] a = refl
count_all cell (c ∷ cells) a =
    let first : same_cell cell c ≡ true = ap (same_cell cell) a.0 ∙ same_cell-refl cell in
    let more : count_by (same_cell cell) cells ≡ length cells = count_all cell cells a.1 in
    let counted = count_by-cons (same_cell cell) c cells ∙ ap (λ b. cond b 1 0 + count_by (same_cell cell) cells) first in
    omega (arith, counted, more)

cells_all : (wide : ℕ) (cell : Cell) (cells : List Cell) → IsCell wide cell → AreAll cell cells → AreCells wide cells
cells_all wide cell [] is a = tt
cells_all wide cell (c ∷ cells) is a = (subst (IsCell wide) (sym a.0) is, cells_all wide cell cells is a.1)

-- among two elements or more
pub alike-voted : (wide n : ℕ) (x : Echoes) (source : ℕ) (cell : Cell) → IsCell wide cell → 2 ≤ n → source < n → length x.copies ≡ n
    → ((k : ℕ) → k < n → k ≢ source → word_of x source k ≡ cell) → cell ≡ result_for x source
unfolding result_for
alike-voted wide n x source cell is some below_n count words =
    let all : AreAll cell (map (word_of x source) (others n source)) = all_others (word_of x source) cell source n words in
    let long : length (map (word_of x source) (others n source)) ≡ length (others n source) = length-map (others n source) (word_of x source) in
    let whole : length (below n) ≡ n = length-range_with_len 0 n in
    let inside : source < length (below n) = omega arith in
    let less : length (others n source) + 1 ≡ length (below n) = length-remove (below n) source inside in
    let counted = count_all cell (map (word_of x source) (others n source)) all in
    sym (ap (λ m. vote (map (word_of x source) (others m source))) count
    ∙ vote-same wide cell (map (word_of x source) (others n source)) is (cells_all wide cell _ is all) (omega arith))
