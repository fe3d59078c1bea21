use Rattle.std.proofs.Common.{◌≡◌, ◌<◌, ◌≤◌, ◌∙◌, ℕ, suc, zero, true, None, cond, ap, refl, arith}
use Rattle.std.proofs.lemmas.List.FromFn.{fill_by_all, get_or-map-range_with_len, length-map-range_with_len}
use Rattle.ftpp_base.specs.Lists.{each_below}
use Rattle.ftpp_base.specs.Sets.{has}
use Rattle.ftpp_base.specs.declared.sets.Set8.{Set8}
use Rattle.two_round.specs.Echoes.{Echoes, result_for, result_of}
use Rattle.two_round.proofs.exchange.TwoRound.settle_all.Goals as goal

all : Set8
all = record { bits = 255 }

has_all : (s : ℕ) → s < 5 → has all s ≡ true
unfolding all
has_all zero l = refl
has_all (suc zero) l = refl
has_all (suc (suc zero)) l = refl
has_all (suc (suc (suc zero))) l = refl
has_all (suc (suc (suc (suc zero)))) l = refl
has_all (suc (suc (suc (suc (suc s))))) l = let never : ⊥ = omega arith in absurd never

results_all : (n : ℕ) (x : Echoes) → n ≤ 5 → each_below n (result_of all x) ≡ each_below n (result_for x)
results_all n x few =
    fill_by_all (result_for x) (each_below n (result_of all x)) n None (length-map-range_with_len (result_of all x) 0 n)
    (λ s l. get_or-map-range_with_len (result_of all x) 0 n s s None l (omega arith) ∙ ap (λ b. cond b (result_for x s) None) (has_all s (omega arith)))

pub returns-clause-results : goal.returns-clause-results
unfolding all
returns-clause-results g c = c.settle.ensures.results ∙ results_all g.row.N c.args.self.now c.settle.ensures.few

pub returns-clause-differing : goal.returns-clause-differing
unfolding all
returns-clause-differing g c s l =
    let is = c.settle.ensures.differing s l in
    (λ e. (is.0 e).1, λ odd. is.1 (has_all s (let few = c.settle.ensures.few in omega arith), odd))

pub returns-clause-alike : goal.returns-clause-alike
unfolding all
returns-clause-alike g c s l out = c.settle.ensures.alike s l (has_all s (let few = c.settle.ensures.few in omega arith)) out
