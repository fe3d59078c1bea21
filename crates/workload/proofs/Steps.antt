-- One step of the stream, and one step of a loop.
use Rattle.std.proofs.Common.{◌≡◌, ℕ, zero, suc, ◌+◌, ◌%◌, ◌<◌, List, [], ◌∷◌, ◌++◌, length, map, take, get_or, refl, ap, arith, ◌∙◌}
use Rattle.std.proofs.Math.Nat.{mod-add-mod}

-- a product and a sum, each within 64 bits
pub stepped : (a b m : ℕ) → (a % m + b) % m ≡ (a + b) % m
stepped a b m = mod-add-mod a m b

map_next : {A B : Type 0} (f : A → B) (xs : List A) (i : ℕ) (d : A) → i < length xs → map f (take (suc i) xs) ≡ map f (take i xs) ++ f (get_or xs i d) ∷ []
map_next f [] i d l = let no_such : ⊥ = omega arith in absurd no_such
map_next f (x ∷ xs) zero d l = refl
map_next f (x ∷ xs) (suc i) d l = ap (λ ys. f x ∷ ys) (map_next f xs i d (omega arith))

pub map_more : {A B : Type 0} (f : A → B) (xs : List A) (i : ℕ) (d : A) → i < length xs → map f (take (i + 1) xs) ≡ map f (take i xs) ++ f (get_or xs i d) ∷ []
map_more f xs i d l = ap (λ n. map f (take n xs)) (one_more i) ∙ map_next f xs i d l where
  one_more : (n : ℕ) → n + 1 ≡ suc n
  one_more n = omega arith
