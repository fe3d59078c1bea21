-- What leaves over the link of an element.
use Rattle.std.proofs.Common.{◌≡◌, ◌≢◌, ◌⊎◌, inl, inr, ℕ, zero, suc, ◌<◌, ◌==◌, Bool, true, false, cond, List, [], ◌∷◌, refl, ap, ap₂, sym, ◌∙◌, length, replicate, slice_set, get_or, arith}
use Rattle.std.proofs.lemmas.Bool.{cases_eq, eq-eqb, ne_eqb}
use Rattle.std.proofs.lemmas.List.{length-map, length-replicate, get_or-replicate, get_or-set_same, get_or-set_other, set_comm}
use Rattle.arrayvec.specs.ArrayVec.{ArrayVec}
use Rattle.link_fabric.specs.Rows.{rows_of}
use Rattle.link_fabric.specs.Ends.{frame_for, leaves_of}
use Rattle.link_fabric.specs.declared.links.LinkEnd.{LinkEnd}

-- rows without bytes stay so where one of them is emptied
pub silent_set : (n i : ℕ) → slice_set (replicate {A = List ℕ} n []) i [] ≡ replicate n []
silent_set zero i = refl
silent_set (suc n) zero = refl
silent_set (suc n) (suc i) = λ k. [] ∷ silent_set n i k

-- one element more has a frame of its own
pub own_more : (has_own : List Bool) (shared frame : List ℕ) (rows : List (List ℕ)) (to : ℕ)
    → frame_for (slice_set has_own to true) shared (slice_set rows to frame) ≡ slice_set (frame_for has_own shared rows) to frame
own_more [] shared frame rows to = refl
own_more (b ∷ bs) shared frame [] zero = refl
own_more (b ∷ bs) shared frame [] (suc to) = refl
own_more (b ∷ bs) shared frame (row ∷ rows) zero = refl
own_more (b ∷ bs) shared frame (row ∷ rows) (suc to) = λ k. cond b row shared ∷ own_more bs shared frame rows to k

-- the same for what leaves an element
pub row_put : (me to : ℕ) (shared frame : List ℕ) (has_own owns : List Bool) (rows news : List (List ℕ)) → owns ≡ slice_set has_own to true → news ≡ slice_set rows to frame → to ≢ me
    → slice_set (frame_for owns shared news) me [] ≡ slice_set (slice_set (frame_for has_own shared rows) me []) to frame
row_put me to shared frame has_own owns rows news own put away =
    ap₂ (λ (bs : List Bool) (rs : List (List ℕ)). slice_set (frame_for bs shared rs) me []) own put
    ∙ (ap (λ (rs : List (List ℕ)). slice_set rs me []) (own_more has_own shared frame rows to) ∙ set_comm (frame_for has_own shared rows) to me frame [] away)

-- where no element has a frame of its own, the shared one leaves for each
pub all_shared : (n : ℕ) (shared : List ℕ) (rows : List (List ℕ)) → length rows ≡ n → frame_for (replicate n false) shared rows ≡ replicate n shared
all_shared zero shared rows wide = refl
all_shared (suc n) shared [] wide = absurd (omega arith)
all_shared (suc n) shared (row ∷ rows) wide = λ k. shared ∷ all_shared n shared rows (omega arith) k

-- its own frame leaves for an element that has one, and the shared frame else
pub leaving_one : (has_own : List Bool) (shared : List ℕ) (rows : List (List ℕ)) (to : ℕ) → to < length has_own → length rows ≡ length has_own
    → get_or (frame_for has_own shared rows) to [] ≡ cond (get_or has_own to false) (get_or rows to []) shared
leaving_one [] shared rows to there wide = absurd (omega arith)
leaving_one (b ∷ bs) shared [] to there wide = absurd (omega arith)
leaving_one (b ∷ bs) shared (row ∷ rows) zero there wide = refl
leaving_one (b ∷ bs) shared (row ∷ rows) (suc to) there wide = leaving_one bs shared rows to (omega arith) (omega arith)

-- a shared frame stands in all places but the element's own, which stays empty
pub shared_put : (n me owner to : ℕ) (frame : List ℕ) (olds : List (List ℕ)) → length olds ≡ n → to < n → owner ≡ me
    → get_or (slice_set (replicate n frame) me []) to [] ≡ cond (to == owner) (get_or (slice_set olds me []) to []) frame
shared_put n me owner to frame olds wide below same = by_place (cases_eq to owner) where
  by_place : (to ≡ owner) ⊎ (to ≢ owner) → get_or (slice_set (replicate n frame) me []) to [] ≡ cond (to == owner) (get_or (slice_set olds me []) to []) frame
  by_place (inl e) =
      let here : to ≡ me = e ∙ same in
      let empty : (rows : List (List ℕ)) → length rows ≡ n → get_or (slice_set rows me []) to [] ≡ []
      = λ rows long. ap (λ (k : ℕ). get_or (slice_set rows me []) k []) here ∙ get_or-set_same rows me [] [] (omega (arith, long, below, here)) in
      empty (replicate n frame) (length-replicate n frame) ∙ sym (ap (λ (b : Bool). cond b (get_or (slice_set olds me []) to []) frame) (eq-eqb to owner e) ∙ empty olds wide)
  by_place (inr away) =
      get_or-set_other (replicate n frame) me to [] [] (λ e. away (e ∙ sym same))
      ∙ (get_or-replicate n to frame [] below
      ∙ sym (ap (λ (b : Bool). cond b (get_or (slice_set olds me []) to []) frame) (ne_eqb to owner away)))

module _ {N : ℕ} where
  -- the same of the link of an element
  pub leaving_of : (l : LinkEnd N) (to : ℕ) → to < N → to ≢ l.owner → get_or (leaves_of l) to [] ≡ cond (get_or l.has_own to false) (get_or (rows_of l.leaves.items) to []) l.shared.items
  unfolding leaves_of
  leaving_of l to below away =
      let wide = length-map l.leaves.items (λ (f : ArrayVec ℕ). f.items) in
      get_or-set_other _ l.owner to [] [] away ∙ leaving_one l.has_own l.shared.items (rows_of l.leaves.items) to (omega (arith, below, l.has_own_len)) (wide ∙ l.leaves_len ∙ sym l.has_own_len)
