-- Writes of one row.
use Rattle.std.proofs.Common.{◌≡◌, ℕ, List, length, slice_set, ap, ap₂, ◌∙◌, length-set}
use Rattle.std.proofs.lemmas.List.{map-set, take_at}
use Rattle.std.specs.List.{refill}
use Rattle.arrayvec.specs.ArrayVec.{ArrayVec}
use Rattle.link_fabric.specs.Rows.{rows_of}

-- a list that is filled up again with as many items as it had is those items
pub refill_whole : {X : Type 0} (n : ℕ) (xs ws : List X) → length ws ≡ n → refill n xs ws ≡ ws
refill_whole n xs ws e = take_at ws _ n e

-- one frame is replaced
pub rows_write : (xs ys : List (ArrayVec ℕ)) (i j : ℕ) (f h : ArrayVec ℕ) → ys ≡ xs → i ≡ j → f ≡ h
    → rows_of (refill (length xs) xs (slice_set ys i f)) ≡ slice_set (rows_of xs) j h.items
rows_write xs ys i j f h e at same =
    ap rows_of (refill_whole (length xs) xs (slice_set ys i f) (length-set ys i f ∙ ap length e))
    ∙ (map-set (λ (g : ArrayVec ℕ). g.items) ys i f ∙ (ap (λ zs. slice_set (rows_of zs) i f.items) e ∙ ap₂ (λ k (g : ArrayVec ℕ). slice_set (rows_of xs) k g.items) at same))
