-- Where no member is masked, all are live.
use Rattle.std.proofs.Common.{◌≡◌, ℕ, ◌+◌, List, [], ◌∷◌, refl, ap, false, ◌∙◌, cond, not, map}
use Rattle.std.specs.Prelude.{filter, ◌==◌}
use Rattle.std.specs.List.{enumerate_from}
use Rattle.std.specs.Int.{bit_at}
use Rattle.std.proofs.lemmas.Nat.Bits.{bit_at-zero}
use Rattle.ftpp_base.specs.Sets.{has}
use Rattle.ftpp_base.specs.declared.element.Proc.{Proc}
use Rattle.ftpp_base.specs.declared.sets.Set8.{Set8}
use Rattle.config_table.specs.Groups.{live_members}
use Rattle.config_table.specs.declared.groups.Group.{Group}
use Rattle.flag_vote.specs.Words.{unmasked_from}

-- the set without bits has no number
pub none_masked : (masked : Set8) → masked.bits ≡ 0 → (i : ℕ) → has masked i ≡ false
none_masked masked e i = ap (λ (n : ℕ). n == 1) (ap (λ (n : ℕ). bit_at n i) e ∙ bit_at-zero i)

pub all_unmasked : (masked : Set8) → masked.bits ≡ 0 → (i : ℕ) (ms : List Proc) → unmasked_from masked i ms ≡ ms
all_unmasked masked e i [] = refl
all_unmasked masked e i (p ∷ ms) =
    ap (λ b. map (λ (seat : ℕ × Proc). seat.1) (cond (not b) ((i, p) ∷ filter (λ seat. not (has masked seat.0)) (enumerate_from (i + 1) ms)) (filter (λ seat. not (has masked seat.0)) (enumerate_from (i + 1) ms)))) (none_masked masked e i)
    ∙ ap (λ xs. p ∷ xs) (all_unmasked masked e (i + 1) ms)

pub all_live : (g : Group) → g.masked.bits ≡ 0 → live_members g ≡ g.members.items
all_live g e = all_unmasked g.masked e 0 g.members.items
