-- What is in a set with one element more, and in that of all.
use Rattle.std.proofs.Common.{◌≡◌, ℕ, suc, zero, ◌<◌, true, refl, arith}
use Rattle.std.specs.Prelude.{◌==◌, ◌||◌}
use Rattle.ftpp_base.specs.declared.sets.Set8.{Set8}
use Rattle.ftpp_base.specs.Sets.{has, with_number}
use Rattle.ftpp_base.proofs.SetLaws.{has-set_where}

abbrev pub all_below_five : Set8
all_below_five = record { bits = 31 }

pub has_all : (k : ℕ) → k < 5 → has all_below_five k ≡ true
has_all zero l = refl
has_all (suc zero) l = refl
has_all (suc (suc zero)) l = refl
has_all (suc (suc (suc zero))) l = refl
has_all (suc (suc (suc (suc zero)))) l = refl
has_all (suc (suc (suc (suc (suc k))))) l = let never : ⊥ = omega arith in absurd never

pub has_more : (set : Set8) (ne k : ℕ) → k < 8 → has (with_number set ne) k ≡ (has set k || k == ne)
has_more set ne k l = has-set_where (λ j. has set j || j == ne) k l
