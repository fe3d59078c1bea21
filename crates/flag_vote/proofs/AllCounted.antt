-- All of some members say a word exactly where as many say it as there are.
use Rattle.std.proofs.Common.{◌≡◌, ℕ, ◌+◌, ◌≤◌, Bool, true, false, cond, List, [], ◌∷◌, length, refl, arith}
use Rattle.std.specs.Prelude.{◌==◌, ◌&&◌, count_by}
use Rattle.std.specs.List.{list_all}
use Rattle.std.proofs.lemmas.Bool.{eqb-true, eqb-false, eq-eqb, ne_eqb}
use Rattle.std.proofs.lemmas.List.Sums.{count_by-le-length}
use Rattle.ftpp_base.specs.declared.element.Proc.{Proc}
use Rattle.ftpp_base.proofs.Counts.{count_by-cons}

one_more : (b rest : Bool) (c n m k : ℕ) → c ≤ n → m ≡ n + 1 → k ≡ cond b 1 0 + c → (c == n) ≡ rest → (k == m) ≡ (b && rest)
one_more true true c n m k few long is e = let same : c ≡ n = eqb-true c n e in eq-eqb k m (omega arith)
one_more true false c n m k few long is e = let away = eqb-false c n e in ne_eqb k m (omega (arith, away))
one_more false rest c n m k few long is e = ne_eqb k m (omega arith)

pub all-counted : (test : Proc → Bool) (ps : List Proc) → (count_by test ps == length ps) ≡ list_all test ps
all-counted test [] = refl
all-counted test (p ∷ ps) =
    one_more (test p) (list_all test ps) (count_by test ps) (length ps) (length (p ∷ ps)) (count_by test (p ∷ ps))
    (count_by-le-length test ps) (omega arith) (count_by-cons test p ps) (all-counted test ps)
