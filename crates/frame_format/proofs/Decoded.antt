-- What decoded cells are: those of the one frame that the bytes can be.
use Rattle.std.proofs.Common.{◌≡◌, ℕ, ◌+◌, ◌-◌, ◌*◌, ◌<◌, zero, suc, List, Some, None, Bool, true, false, cond, length, get_or, take, drop, map, refl, sym, ◌∙◌, ap, arith, length-drop, subst}
use Rattle.std.specs.Prelude.{slice_range, ◌&&◌, ◌==◌}
use Rattle.std.specs.List.{AllByRecursion, range_with_len}
use Rattle.std.proofs.lemmas.List.{ext_get_or, length-take-le, drop-drop}
use Rattle.std.proofs.lemmas.List.FromFn.{length-map-range_with_len, get_or-map-range_with_len}
use Rattle.std.proofs.lemmas.Slice.Eq.{slice_eq-Decides}
use Rattle.std.proofs.lemmas.Bool.{eqb-true, eq-eqb, and_parts}
use Rattle.std.proofs.lemmas.Bool.Decides.{Decides-eqb}
use Rattle.ftpp_base.specs.declared.element.Round.{Round}
use Rattle.ftpp_base.specs.declared.element.Slot.{Slot}
use Rattle.packet_format.specs.Packets.{same_bytes}
use Rattle.bit_vote.specs.Vote.{Cell}
use Rattle.frame_format.specs.Frames.{width_in, cells_in, cell_from, cells_from, frame_bytes, frame_length, IsWide, IsFrame, decoded}
use Rattle.frame_format.proofs.Parts.{length-cells, cut-cells, cell_from-cell_bytes, cell_from-wide, one_more, room}

pub length-frame : (n : ℕ) (slot : Slot) (sender : ℕ) (bytes : List ℕ) (cells : List Cell) → IsFrame n slot sender bytes cells → length bytes ≡ frame_length n slot.round
length-frame n slot sender bytes cells is =
    let size = length-cells (width_in slot.round) cells is.wide ∙ ap (λ k. k * (width_in slot.round + 1)) is.count in
    let all = ap length is.spelled in
    omega arith

-- the slice of a cell, with its beginning and with its length
pub slice : (w i : ℕ) (bytes : List ℕ) → slice_range bytes (6 + i * (w + 1)) (6 + (i + 1) * (w + 1)) ≡ take (w + 1) (drop (i * (w + 1)) (drop 6 bytes))
slice w i bytes =
    let e = one_more w i in
    let size : (6 + (i + 1) * (w + 1)) - (6 + i * (w + 1)) ≡ w + 1 = omega arith in
    ap (λ k. take k (drop (6 + i * (w + 1)) bytes)) size ∙ ap (take (w + 1)) (sym (drop-drop (i * (w + 1)) 6 bytes))

-- the cells of a frame are read from its bytes
pub cells_from-frame : (n : ℕ) (slot : Slot) (sender : ℕ) (bytes : List ℕ) (cells : List Cell) → IsFrame n slot sender bytes cells → cells_from n slot.round bytes ≡ cells
cells_from-frame n slot sender bytes cells is =
    let w : ℕ = width_in slot.round in
    let k : ℕ = cells_in n slot.round in
    let f : ℕ → Cell = λ i. cell_from (slice_range bytes (6 + i * (w + 1)) (6 + (i + 1) * (w + 1))) in
    let long : length (map f (range_with_len 0 k)) ≡ k = length-map-range_with_len f 0 k in
    ext_get_or None (map f (range_with_len 0 k)) cells (long ∙ sym is.count) (λ i h.
    get_or-map-range_with_len f 0 k i i None (omega (arith, long)) (omega arith)
    ∙ ap cell_from (slice w i bytes ∙ ap (λ l. take (w + 1) (drop (i * (w + 1)) (drop 6 l))) is.spelled ∙ cut-cells w i cells is.wide (omega (arith, long, is.count)))
    ∙ cell_from-cell_bytes w (get_or cells i None))

-- what holds of what is made of each number holds of all
each_made : (P : Cell → Type 0) (f : ℕ → Cell) (a n : ℕ) → ((i : ℕ) → i < a + n → P (f i)) → AllByRecursion P (map f (range_with_len a n))
each_made P f a zero h = tt
each_made P f a (suc n) h = (h a (omega arith), each_made P f (a + 1) n (λ i l. h i (omega arith)))

-- what is read of as many bytes as a frame has is of the width
cells_from-wide : (n : ℕ) (round : Round) (bytes : List ℕ) → length bytes ≡ frame_length n round → AllByRecursion (IsWide (width_in round)) (cells_from n round bytes)
cells_from-wide n round bytes long =
    let w : ℕ = width_in round in
    let k : ℕ = cells_in n round in
    each_made (IsWide w) (λ i. cell_from (slice_range bytes (6 + i * (w + 1)) (6 + (i + 1) * (w + 1)))) 0 k (λ i h.
    let here = room w i k (omega arith) in
    let left = length-drop (i * (w + 1)) (drop 6 bytes) in
    let body = length-drop 6 bytes in
    cell_from-wide w (slice_range bytes (6 + i * (w + 1)) (6 + (i + 1) * (w + 1)))
    (ap length (slice w i bytes) ∙ length-take-le (w + 1) (drop (i * (w + 1)) (drop 6 bytes)) (omega arith)))

-- a frame's bytes are decoded to its cells
pub decoded-frame : (n : ℕ) (slot : Slot) (sender : ℕ) (bytes : List ℕ) (cells : List Cell) → IsFrame n slot sender bytes cells → decoded n slot sender bytes ≡ Some cells
unfolding decoded
decoded-frame n slot sender bytes cells is =
    let read = cells_from-frame n slot sender bytes cells is in
    let long : (length bytes == frame_length n slot.round) ≡ true = eq-eqb (length bytes) (frame_length n slot.round) (length-frame n slot sender bytes cells is) in
    let again : bytes ≡ frame_bytes slot sender (cells_from n slot.round bytes) = is.spelled ∙ ap (frame_bytes slot sender) (sym read) in
    let same : same_bytes bytes (frame_bytes slot sender (cells_from n slot.round bytes)) ≡ true =
    (slice_eq-Decides Decides-eqb bytes (frame_bytes slot sender (cells_from n slot.round bytes)) (same_bytes bytes (frame_bytes slot sender (cells_from n slot.round bytes))) refl).1 again in
    λ i. cond (long i && same i) (Some (read i)) None

-- where the test of `decoded` passes the bytes are the frame of what is read of them
passes : (n : ℕ) (slot : Slot) (sender : ℕ) (bytes : List ℕ)
    → (length bytes == frame_length n slot.round && same_bytes bytes (frame_bytes slot sender (cells_from n slot.round bytes))) ≡ true
    → IsFrame n slot sender bytes (cells_from n slot.round bytes)
passes n slot sender bytes e =
    let again : List ℕ = frame_bytes slot sender (cells_from n slot.round bytes) in
    let parts = and_parts _ _ e in
    record {
      spelled = (slice_eq-Decides Decides-eqb bytes again (same_bytes bytes again) refl).0 parts.1;
      count = length-map-range_with_len (λ i. cell_from (slice_range bytes (6 + i * (width_in slot.round + 1)) (6 + (i + 1) * (width_in slot.round + 1)))) 0 (cells_in n slot.round);
      wide = cells_from-wide n slot.round bytes (eqb-true (length bytes) (frame_length n slot.round) parts.0);
    }

-- bytes that are no frame are not decoded
pub decoded-none : (n : ℕ) (slot : Slot) (sender : ℕ) (bytes : List ℕ) → ((cells : List Cell) → IsFrame n slot sender bytes cells → ⊥) → decoded n slot sender bytes ≡ None
unfolding decoded
decoded-none n slot sender bytes none = by_test (length bytes == frame_length n slot.round && same_bytes bytes (frame_bytes slot sender (cells_from n slot.round bytes))) refl where
  by_test : (b : Bool) → (length bytes == frame_length n slot.round && same_bytes bytes (frame_bytes slot sender (cells_from n slot.round bytes))) ≡ b → cond b (Some (cells_from n slot.round bytes)) None ≡ None
  by_test true e = absurd (none (cells_from n slot.round bytes) (passes n slot sender bytes e))
  by_test false e = refl

-- what is decoded is a frame
pub frame-decoded : (n : ℕ) (slot : Slot) (sender : ℕ) (bytes : List ℕ) (cells : List Cell) → decoded n slot sender bytes ≡ Some cells → IsFrame n slot sender bytes cells
unfolding decoded
frame-decoded n slot sender bytes cells d = by_test (length bytes == frame_length n slot.round && same_bytes bytes (frame_bytes slot sender (cells_from n slot.round bytes))) refl d where
  by_test : (b : Bool) → (length bytes == frame_length n slot.round && same_bytes bytes (frame_bytes slot sender (cells_from n slot.round bytes))) ≡ b
      → cond b (Some (cells_from n slot.round bytes)) None ≡ Some cells → IsFrame n slot sender bytes cells
  by_test true e is =
      let same : cells_from n slot.round bytes ≡ cells = cc in
      let P : List Cell → Type 0 = λ l. IsFrame n slot sender bytes l in
      subst P same (passes n slot sender bytes e)
  by_test false e is = cc
