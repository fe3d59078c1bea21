-- Cells one after the other, cut into their bytes.
use Rattle.std.proofs.Common.{◌≡◌, ◌↔◌, ℕ, ◌+◌, ◌-◌, ◌*◌, ◌<◌, ◌≤◌, zero, suc, List, [], ◌∷◌, ◌++◌, Some, None, Bool, true, false, cond, length, get_or, take, drop, replicate, refl, sym, ◌∙◌, ap, arith, drop-cons, length-append, length-drop}
use Rattle.std.specs.Prelude.{slice_index, ◌==◌}
use Rattle.std.specs.List.{flat_map, AllByRecursion}
use Rattle.std.proofs.lemmas.List.{length-replicate, ext_get_or, take_rest}
use Rattle.std.proofs.Math.Seq.{drop-append-add, take-append_seam}
use Rattle.std.proofs.Math.Nat.{suc-mul, zero-mul, add-mul, mul-le-mul_right}
use Rattle.bit_vote.specs.Vote.{Cell}
use Rattle.frame_format.specs.Frames.{cell_bytes, cell_from, IsWide, AreCells}

-- a cell has a byte and its row
pub length-cell_bytes : (w : ℕ) (cell : Cell) → IsWide w cell → length (cell_bytes w cell) ≡ w + 1
length-cell_bytes w None wide = let row : length (replicate {A = ℕ} w 0) ≡ w = length-replicate w 0 in omega arith
length-cell_bytes w (Some row) wide = omega arith

pub length-cells : (w : ℕ) (cells : List Cell) → AllByRecursion (IsWide w) cells → length (flat_map (cell_bytes w) cells) ≡ length cells * (w + 1)
length-cells w [] wide = sym (zero-mul (w + 1))
length-cells w (cell ∷ cells) wide =
    let rest = length-cells w cells wide.1 in
    let first = length-cell_bytes w cell wide.0 in
    let both = length-append (cell_bytes w cell) (flat_map (cell_bytes w) cells) in
    let more = suc-mul (length cells) (w + 1) in
    omega arith

-- what is left after the first cells is the others
drop-cells : (w i : ℕ) (cells : List Cell) → AllByRecursion (IsWide w) cells → i ≤ length cells
    → drop (i * (w + 1)) (flat_map (cell_bytes w) cells) ≡ flat_map (cell_bytes w) (drop i cells)
drop-cells w zero cells wide h = ap (λ n. drop n (flat_map (cell_bytes w) cells)) (zero-mul (w + 1))
drop-cells w (suc i) [] wide h = let never : ⊥ = omega arith in absurd never
drop-cells w (suc i) (cell ∷ cells) wide h =
    let first = length-cell_bytes w cell wide.0 in
    let more = suc-mul i (w + 1) in
    let at : suc i * (w + 1) ≡ length (cell_bytes w cell) + i * (w + 1) = omega arith in
    ap (λ n. drop n (cell_bytes w cell ++ flat_map (cell_bytes w) cells)) at
    ∙ drop-append-add (cell_bytes w cell) (flat_map (cell_bytes w) cells) (i * (w + 1))
    ∙ drop-cells w i cells wide.1 (omega arith)

-- one cell more is as many bytes more
pub one_more : (w i : ℕ) → (i + 1) * (w + 1) ≡ i * (w + 1) + (w + 1)
one_more w i = let e = add-mul i 1 (w + 1) in omega arith

pub room : (w i n : ℕ) → i < n → i * (w + 1) + (w + 1) ≤ n * (w + 1)
room w i n h = let l : (i + 1) * (w + 1) ≤ n * (w + 1) = mul-le-mul_right (w + 1) (omega arith) in let e = one_more w i in omega arith

pub wide_at : (w i : ℕ) (cells : List Cell) → AllByRecursion (IsWide w) cells → IsWide w (get_or cells i None)
wide_at w i [] wide = tt
wide_at w zero (cell ∷ cells) wide = wide.0
wide_at w (suc i) (cell ∷ cells) wide = wide_at w i cells wide.1

-- a cell's bytes stand at its place
pub cut-cells : (w i : ℕ) (cells : List Cell) → AllByRecursion (IsWide w) cells → i < length cells
    → take (w + 1) (drop (i * (w + 1)) (flat_map (cell_bytes w) cells)) ≡ cell_bytes w (get_or cells i None)
cut-cells w i cells wide h =
    let cell : Cell = get_or cells i None in
    let rest : List ℕ = flat_map (cell_bytes w) (drop (suc i) cells) in
    ap (take (w + 1)) (drop-cells w i cells wide (omega arith) ∙ ap (flat_map (cell_bytes w)) (drop-cons cells i None h))
    ∙ ap (λ n. take n (cell_bytes w cell ++ rest)) (sym (length-cell_bytes w cell (wide_at w i cells wide)))
    ∙ take-append_seam (cell_bytes w cell) rest

-- a cell's bytes give it back
pub cell_from-cell_bytes : (w : ℕ) (cell : Cell) → cell_from (cell_bytes w cell) ≡ cell
cell_from-cell_bytes w None = refl
cell_from-cell_bytes w (Some row) = refl

-- bytes are those of one list of cells at most
pub one_list : (n w : ℕ) (bytes : List ℕ) (xs ys : List Cell) → AreCells n w bytes xs → AreCells n w bytes ys → xs ≡ ys
one_list n w bytes xs ys a b = ext_get_or None xs ys (a.number ∙ sym b.number) (λ i h.
    let same = sym a.spelled ∙ b.spelled in
    sym (cell_from-cell_bytes w (get_or xs i None))
    ∙ ap cell_from (sym (cut-cells w i xs a.wide h) ∙ ap (λ l. take (w + 1) (drop (i * (w + 1)) l)) same ∙ cut-cells w i ys b.wide (omega (arith, a.number, b.number)))
    ∙ cell_from-cell_bytes w (get_or ys i None))

-- what is read of the bytes of a cell has the width
pub cell_from-wide : (w : ℕ) (bytes : List ℕ) → length bytes ≡ w + 1 → IsWide w (cell_from bytes)
cell_from-wide w bytes long = by_test (slice_index bytes 0 == 0) where
  by_test : (b : Bool) → IsWide w (cond b None (Some (drop 1 bytes)))
  by_test true = tt
  by_test false = let l : length (drop 1 bytes) ≡ length bytes - 1 = length-drop 1 bytes in omega arith

-- ---- one cell by itself

first_and_rest : (bytes : List ℕ) → 0 < length bytes → bytes ≡ get_or bytes 0 0 ∷ drop 1 bytes
first_and_rest bytes h = drop-cons bytes 0 0 h

module _ (bytes row : List ℕ) (w : ℕ) (r : Bool) (long : length bytes ≡ w + 1) (read : row ≡ take (length bytes - 1) (drop 1 bytes)) (compared : (r ≡ true) ↔ (row ≡ replicate w 0)) where
  the_row : row ≡ drop 1 bytes
  the_row = read ∙ take_rest bytes 1

  -- 0 and a row of zeros is the absent cell
  pub zeros_found : get_or bytes 0 0 ≡ 0 → r ≡ true → bytes ≡ cell_bytes w None
  zeros_found first same =
      let zeros : row ≡ replicate w 0 = compared.0 same in
      first_and_rest bytes (omega arith) ∙ (λ t. first t ∷ (sym the_row ∙ zeros) t)

  -- and 0 with another row is no cell
  pub no_cell : get_or bytes 0 0 ≡ 0 → r ≡ false → (cell : Cell) → bytes ≡ cell_bytes w cell → ⊥
  no_cell first differs None is =
      let same : row ≡ replicate w 0 = the_row ∙ ap (drop 1) is in
      let equal : r ≡ true = compared.1 same in
      cc
  no_cell first differs (Some other) is =
      let one : get_or bytes 0 0 ≡ 1 = ap (λ l. get_or l 0 0) is in
      omega arith
