-- The last item of a list, which is changed in its place.
use Rattle.std.proofs.Common.{◌≡◌, ℕ, List, [], ◌∷◌, ◌++◌, length, drop, take, get_or, refl, ap, ◌∙◌, arith, length-append}
use Rattle.std.specs.Prelude.{slice_set}
use Rattle.std.proofs.lemmas.List.{append-nil, drop_all, take_all, set_at}
use Rattle.config_table.specs.declared.decisions.GroupFlags.{GroupFlags}

-- it is the one that was put at the end
pub last_shown : (before : List GroupFlags) (x : GroupFlags) (all : List GroupFlags) (at : ℕ) (d : GroupFlags) → all ≡ before ++ x ∷ [] → at ≡ length before → get_or all at d ≡ x
last_shown before x all at d items place = (λ i. get_or (items i) (place i) d) ∙ shown before where
  shown : (xs : List GroupFlags) → get_or (xs ++ x ∷ []) (length xs) d ≡ x
  shown [] = refl
  shown (y ∷ xs) = shown xs

-- and the one that takes its place stands at the end
pub last_set : (before : List GroupFlags) (x y : GroupFlags) (all whole : List GroupFlags) (at : ℕ) → all ≡ before ++ x ∷ [] → whole ≡ before ++ x ∷ [] → at ≡ length before
    → take (length whole) (slice_set all at y ++ drop (length (slice_set all at y)) whole) ≡ before ++ y ∷ []
last_set before x y all whole at items same place =
    let set : slice_set all at y ≡ before ++ y ∷ [] = (λ i. slice_set (items i) (place i) y) ∙ set_at before x [] y (length before) refl in
    let long = length-append before (x ∷ []) in
    let new = length-append before (y ∷ []) in
    (λ i. take (length (same i)) (set i ++ drop (length (set i)) (same i)))
    ∙ ap (λ l. take (length (before ++ x ∷ [])) ((before ++ y ∷ []) ++ l)) (drop_all (length (before ++ y ∷ [])) (before ++ x ∷ []) (omega arith))
    ∙ ap (take (length (before ++ x ∷ []))) (append-nil (before ++ y ∷ []))
    ∙ take_all (length (before ++ x ∷ [])) (before ++ y ∷ []) (omega arith)
