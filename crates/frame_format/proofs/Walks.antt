-- Cells that are read or written one after the other, up to one place.
use Rattle.std.proofs.Common.{◌≡◌, ℕ, ◌+◌, ◌*◌, ◌<◌, ◌≤◌, List, [], ◌++◌, None, length, get_or, take, drop, ◌∙◌, ap, arith, subst, append-nil, take_all}
use Rattle.std.specs.List.{flat_map, AllByRecursion}
use Rattle.std.proofs.lemmas.List.{drop_all}
use Rattle.std.proofs.Math.Nat.{mul-le-mul_right}
use Rattle.bit_vote.specs.Vote.{Cell}
use Rattle.frame_format.specs.Frames.{cell_bytes, IsWide, AreCells}
use Rattle.frame_format.proofs.Parts.{cut-cells, wide_at}

-- the first i of n cells are read, and the rest of the bytes is left
pub record HasRead (n w i : ℕ) (cells : List Cell) (bytes rest : List ℕ) : Type 0 where
  pub number : length cells ≡ n
  pub wide : AllByRecursion (IsWide w) (take i cells)
  pub split : bytes ≡ flat_map (cell_bytes w) (take i cells) ++ rest
  pub left : rest ≡ drop (i * (w + 1)) bytes
  pub whole : length bytes ≡ n * (w + 1)

module _ (n w i : ℕ) (cells : List Cell) (bytes rest : List ℕ) (read : HasRead n w i cells bytes rest) where
  -- where the next bytes are no cell the bytes are no cells
  pub none_wrong : i < n → (front : List ℕ) → front ≡ take (w + 1) rest → ((cell : Cell) → IsWide w cell → front ≡ cell_bytes w cell → ⊥)
      → (all : List Cell) → AreCells n w bytes all → ⊥
  none_wrong below front is_front wrong all are =
      wrong (get_or all i None) (wide_at w i all are.wide)
      (is_front ∙ ap (take (w + 1)) (read.left ∙ ap (drop (i * (w + 1))) are.spelled) ∙ cut-cells w i all are.wide (omega (arith, are.number)))

  -- at the end all are read
  pub all_read : n ≤ i → AreCells n w bytes cells
  all_read past =
      let every : take i cells ≡ cells = take_all i cells (omega (arith, read.number)) in
      let enough : n * (w + 1) ≤ i * (w + 1) = mul-le-mul_right (w + 1) past in
      let nothing : rest ≡ [] = read.left ∙ drop_all (i * (w + 1)) bytes (omega (arith, read.whole)) in
      let P : List Cell → Type 0 = AllByRecursion (IsWide w) in
      record {
        number = read.number;
        wide = subst P every read.wide;
        spelled = read.split ∙ (λ t. flat_map (cell_bytes w) (every t) ++ nothing t) ∙ append-nil (flat_map (cell_bytes w) cells);
      }

-- the head and the first i cells are written; that there are n of them shows once one is read
pub record HasWritten (n w : ℕ) (head : List ℕ) (i : ℕ) (cells : List Cell) (out : List ℕ) : Type 0 where
  pub number : 0 < i → length cells ≡ n
  pub long : length out ≡ 6 + i * (w + 1)
  pub written : out ≡ head ++ flat_map (cell_bytes w) (take i cells)
