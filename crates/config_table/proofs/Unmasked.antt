-- The members that are not masked, one member more.
use Rattle.std.proofs.Common.{◌≡◌, ℕ, ◌+◌, ◌<◌, Bool, true, false, cond, List, [], ◌∷◌, ◌++◌, length, map, drop, get_or, refl, ap, ◌∙◌, not}
use Rattle.std.specs.Prelude.{filter}
use Rattle.std.specs.List.{enumerate_from}
use Rattle.std.proofs.lemmas.List.{drop_more}
use Rattle.ftpp_base.specs.Sets.{has}
use Rattle.ftpp_base.specs.declared.element.Proc.{Proc}
use Rattle.ftpp_base.specs.declared.sets.Set8.{Set8}
use Rattle.config_table.specs.Members.{unmasked_from}

keep_seat : (b : Bool) (i : ℕ) (p : Proc) (seats : List (ℕ × Proc))
    → map (λ (seat : ℕ × Proc). seat.1) (cond (not b) ((i, p) ∷ seats) seats) ≡ cond (not b) (p ∷ []) [] ++ map (λ (seat : ℕ × Proc). seat.1) seats
keep_seat true i p seats = refl
keep_seat false i p seats = refl

-- the members from a place on: the one there, if it is not masked, and the later ones
pub unmasked_more : (s : Set8) (i : ℕ) (ms : List Proc) (d : Proc) → i < length ms
    → unmasked_from s i (drop i ms) ≡ cond (not (has s i)) (get_or ms i d ∷ []) [] ++ unmasked_from s (i + 1) (drop (i + 1) ms)
unmasked_more s i ms d l =
    ap (unmasked_from s i) (drop_more ms i d l)
    ∙ keep_seat (has s i) i (get_or ms i d) (filter (λ seat. not (has s seat.0)) (enumerate_from (i + 1) (drop (i + 1) ms)))
