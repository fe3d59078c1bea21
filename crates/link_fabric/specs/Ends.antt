-- What the link of an element holds.
use Rattle.std.specs.Prelude.{◌≡◌, ℕ, List, [], ◌∷◌, Bool, length, slice_set, if◌then◌else◌}
use Rattle.std.proofs.Common.{zero, suc, ap, ◌∙◌, arith, length-set}
use Rattle.std.proofs.lemmas.List.{length-map}
use Rattle.arrayvec.specs.ArrayVec.{ArrayVec}
use Rattle.link_fabric.specs.Rows.{rows_of}
use Rattle.link_fabric.specs.declared.links.LinkEnd.{LinkEnd}

-- the frame of each element: its own where it has one, and the shared one else
abbrev pub frame_for : List Bool → List ℕ → List (List ℕ) → List (List ℕ)
frame_for [] shared rows = []
frame_for (has_own ∷ more) shared [] = []
frame_for (has_own ∷ more) shared (row ∷ rows) = (if has_own then row else shared) ∷ frame_for more shared rows

-- they are as many as there are elements
pub frames_wide : (n : ℕ) (has_own : List Bool) (shared : List ℕ) (rows : List (List ℕ)) → length has_own ≡ n → length rows ≡ n → length (frame_for has_own shared rows) ≡ n
frames_wide n [] shared rows long wide = long
frames_wide zero (b ∷ bs) shared rows long wide = absurd (omega arith)
frames_wide (suc n) (b ∷ bs) shared [] long wide = absurd (omega arith)
frames_wide (suc n) (b ∷ bs) shared (row ∷ rows) long wide = ap suc (frames_wide n bs shared rows (omega arith) (omega arith))

module _ {N : ℕ} where
  -- the frames that came, by sender
  abbrev pub came_of : LinkEnd N → List (List ℕ)
  came_of l = rows_of l.came.items

  -- the frames that leave, by receiver, and none for the element itself
  unfoldable pub leaves_of : LinkEnd N → List (List ℕ)
  leaves_of l = slice_set (frame_for l.has_own l.shared.items (rows_of l.leaves.items)) l.owner []

  -- there is one for each sender, and one for each receiver
  pub came_wide : (l : LinkEnd N) → length (came_of l) ≡ N
  came_wide l = length-map l.came.items (λ (f : ArrayVec ℕ). f.items) ∙ l.came_len

  pub leaves_wide : (l : LinkEnd N) → length (leaves_of l) ≡ N
  unfolding leaves_of
  leaves_wide l = length-set _ l.owner [] ∙ frames_wide N l.has_own l.shared.items (rows_of l.leaves.items) l.has_own_len (length-map l.leaves.items (λ (f : ArrayVec ℕ). f.items) ∙ l.leaves_len)
