-- What is in the set of no element, and of one.
use Rattle.std.proofs.Common.{◌≡◌, ℕ, ◌<◌, false, ap, ◌∙◌}
use Rattle.std.specs.Prelude.{◌==◌, ◌||◌, nat_eq}
use Rattle.std.proofs.lemmas.Nat.Bits.{bit_at-zero}
use Rattle.ftpp_base.specs.declared.sets.Set8.{Set8}
use Rattle.ftpp_base.specs.Sets.{has, with_number}
use Rattle.ftpp_base.proofs.SetLaws.{has-set_where}

abbrev pub no_elements : Set8
no_elements = record { bits = 0 }

-- the empty set has no number
pub has_none : (k : ℕ) → has no_elements k ≡ false
has_none k = ap (λ m. nat_eq m 1) (bit_at-zero k)

-- with one more it has that one
pub has_one : (ne k : ℕ) → k < 8 → has (with_number no_elements ne) k ≡ (k == ne)
has_one ne k l = has-set_where (λ j. has no_elements j || j == ne) k l ∙ ap (λ b. b || k == ne) (has_none k)
