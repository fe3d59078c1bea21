-- What the calls answer, in the words of the grammar.
use Rattle.std.proofs.Common.{◌≡◌, ℕ, ◌+◌, ◌*◌, List, [], ◌∷◌, ◌++◌, Option, Some, None, length, get_or, take, drop, replicate, refl, sym, ◌∙◌, ap, arith, append-nil, subst}
use Rattle.std.specs.Prelude.{IfSome, option_map, unwrap_or}
use Rattle.std.specs.List.{flat_map, AllByRecursion}
use Rattle.std.proofs.lemmas.List.{take-append-drop}
use Rattle.ftpp_base.specs.declared.element.Round.{Round}
use Rattle.ftpp_base.specs.declared.element.Round.TheVariants.{A1, A2, B1, B2}
use Rattle.ftpp_base.specs.declared.element.Slot.{Slot}
use Rattle.bit_vote.specs.Vote.{Cell}
use Rattle.frame_format.specs.Frames.{width_in, cells_in, cell_bytes, first_cell, frame_head, frame_bytes, IsOfOne, IsOfAll, IsWide, AreCells, IsFrame, decoded, reads_as}
use Rattle.frame_format.proofs.Parts.{length-cells, one_list, wide_at}
use Rattle.frame_format.proofs.Decoded.{decoded-frame, decoded-none}

pub count_all : (round : Round) (n : ℕ) → IsOfAll round → n ≡ cells_in n round
count_all A1 n is = absurd is
count_all A2 n is = refl
count_all B1 n is = absurd is
count_all B2 n is = refl

pub count_one : (round : Round) (n : ℕ) → IsOfOne round → 1 ≡ cells_in n round
count_one A1 n is = refl
count_one A2 n is = absurd is
count_one B1 n is = refl
count_one B2 n is = absurd is

-- cells behind the head are the frame
frame_of_all : (w : ℕ) (slot : Slot) (sender : ℕ) (cells : List Cell) → w ≡ width_in slot.round → frame_head slot sender ++ flat_map (cell_bytes w) cells ≡ frame_bytes slot sender cells
frame_of_all w slot sender cells e = ap (λ k. frame_head slot sender ++ flat_map (cell_bytes k) cells) e

module _ (n k w : ℕ) (slot : Slot) (sender : ℕ) (bytes rest : List ℕ) (is_rest : rest ≡ drop 6 bytes) (count : k ≡ cells_in n slot.round) (width : w ≡ width_in slot.round) where
  -- cells behind the head are a frame
  frame_of_cells : take 6 bytes ≡ frame_head slot sender → (cells : List Cell) → AreCells k w rest cells → IsFrame n slot sender bytes cells
  frame_of_cells head cells are =
      let P : ℕ → Type 0 = λ v. AllByRecursion (IsWide v) cells in
      record {
        spelled = sym (take-append-drop 6 bytes) ∙ (λ t. head t ++ (sym is_rest ∙ are.spelled) t) ∙ frame_of_all w slot sender cells width;
        count = are.number ∙ count;
        wide = subst P width are.wide;
      }

  -- and a frame has cells behind its head
  cells_of_frame : (cells : List Cell) → IsFrame n slot sender bytes cells → AreCells k w rest cells
  cells_of_frame cells is =
      let P : ℕ → Type 0 = λ v. AllByRecursion (IsWide v) cells in
      record {
        number = is.count ∙ sym count;
        wide = subst P (sym width) is.wide;
        spelled = is_rest ∙ ap (drop 6) is.spelled ∙ ap (λ v. flat_map (cell_bytes v) cells) (sym width);
      }

  head_of_frame : (cells : List Cell) → IsFrame n slot sender bytes cells → (length bytes ≡ 6 + k * (w + 1)) × (take 6 bytes ≡ frame_head slot sender)
  head_of_frame cells is =
      let are = cells_of_frame cells is in
      let size = length-cells w cells are.wide ∙ ap (λ j. j * (w + 1)) are.number in
      let all = ap length (is.spelled ∙ sym (frame_of_all w slot sender cells width)) in
      (omega arith, ap (take 6) is.spelled)

  -- bytes with no such head are no frame
  pub not_headed : ((length bytes ≡ 6 + k * (w + 1)) × (take 6 bytes ≡ frame_head slot sender) → ⊥) → decoded n slot sender bytes ≡ None
  not_headed wrong = decoded-none n slot sender bytes (λ cells is. wrong (head_of_frame cells is))

  -- bytes with such a head are decoded to the cells behind it
  pub headed : take 6 bytes ≡ frame_head slot sender → (r : Option (List Cell)) → IfSome r (λ cells. AreCells k w rest cells)
      → ((cells : List Cell) → AreCells k w rest cells → r ≡ Some cells) → decoded n slot sender bytes ≡ r
  headed head None found only = decoded-none n slot sender bytes (λ cells is. let wrong = only cells (cells_of_frame cells is) in cc)
  headed head (Some cells) found only = decoded-frame n slot sender bytes cells (frame_of_cells head cells found)

-- one cell behind the head: what is read of it is the first of the cells that are decoded
pub headed_one : (n w : ℕ) (slot : Slot) (sender : ℕ) (bytes rest : List ℕ) → rest ≡ drop 6 bytes → IsOfOne slot.round → w ≡ width_in slot.round → take 6 bytes ≡ frame_head slot sender
    → (r : Option Cell) → IfSome r (λ cell. IsWide w cell × (rest ≡ cell_bytes w cell))
    → ((cell : Cell) → IsWide w cell → rest ≡ cell_bytes w cell → r ≡ Some cell)
    → r ≡ option_map first_cell (decoded n slot sender bytes)
headed_one n w slot sender bytes rest is_rest one width head None found only =
    sym (ap (option_map first_cell) (headed n 1 w slot sender bytes rest is_rest (count_one slot.round n one) width head None tt (λ cells are.
    let wrong = only (get_or cells 0 None) (wide_at w 0 cells are.wide) (are.spelled ∙ only_first cells are.number) in cc))) where
      only_first : (cells : List Cell) → length cells ≡ 1 → flat_map (cell_bytes w) cells ≡ cell_bytes w (get_or cells 0 None)
      only_first [] long = let never : ⊥ = omega arith in absurd never
      only_first (cell ∷ []) long = append-nil (cell_bytes w cell)
      only_first (cell ∷ other ∷ cells) long = let never : ⊥ = omega arith in absurd never
headed_one n w slot sender bytes rest is_rest one width head (Some cell) found only =
    let are : AreCells 1 w rest (cell ∷ []) = record {
      number = refl;
      wide = (found.0, tt);
      spelled = found.1 ∙ sym (append-nil (cell_bytes w cell));
    } in
    sym (ap (option_map first_cell) (headed n 1 w slot sender bytes rest is_rest (count_one slot.round n one) width head (Some (cell ∷ [])) are (λ cells other.
    ap (λ l. Some l) (one_list 1 w rest (cell ∷ []) cells are other))))

-- what is heard: outside the grammar absent cells
pub heard_all : (n : ℕ) (slot : Slot) (sender : ℕ) (bytes : List ℕ) (r : Option (List Cell)) → IsOfAll slot.round → r ≡ decoded n slot sender bytes
    → unwrap_or r (replicate n None) ≡ reads_as n slot sender bytes
heard_all n slot sender bytes r all e = (λ t. unwrap_or (e t) (replicate (count_all slot.round n all t) None))

pub heard_one : (n : ℕ) (slot : Slot) (sender : ℕ) (bytes : List ℕ) (r : Option Cell) → IsOfOne slot.round
    → r ≡ option_map first_cell (decoded n slot sender bytes) → unwrap_or r None ≡ first_cell (reads_as n slot sender bytes)
heard_one n slot sender bytes r one e =
    ap (λ o. unwrap_or o None) e ∙ by_case (decoded n slot sender bytes) ∙ ap (λ k. first_cell (unwrap_or (decoded n slot sender bytes) (replicate k None))) (count_one slot.round n one) where
      by_case : (d : Option (List Cell)) → unwrap_or (option_map first_cell d) None ≡ first_cell (unwrap_or d (replicate 1 None))
      by_case None = refl
      by_case (Some cells) = refl
