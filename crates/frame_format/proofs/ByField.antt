-- The fields of a frame and its cells one after the other say the same.
use Rattle.std.proofs.Common.{◌≡◌, ◌↔◌, ℕ, ◌+◌, ◌*◌, ◌<◌, ◌≤◌, ◌^◌, zero, suc, List, [], ◌∷◌, ◌++◌, Option, Some, None, Bool, true, false, cond, length, get_or, take, drop, replicate, refl, sym, ◌∙◌, ap, arith, drop-cons, length-drop, subst}
use Rattle.std.specs.Prelude.{IsSome, option_map, slice_index, ◌==◌}
use Rattle.std.specs.List.{flat_map}
use Rattle.std.proofs.lemmas.List.{take-append-drop, drop-drop, drop_all, length-take-le}
use Rattle.std.proofs.lemmas.List.Elements.{recursion_from_All, All-from_get_or}
use Rattle.std.proofs.lemmas.List.FromFn.{length-map-range_with_len, get_or-map-range_with_len}
use Rattle.std.proofs.lemmas.Bool.{eqb-true, eq-eqb}
use Rattle.std.proofs.Math.Nat.{suc-mul, zero-mul}
use Rattle.ftpp_base.specs.Lists.{cell_at}
use Rattle.ftpp_base.specs.declared.element.Round.{Round}
use Rattle.ftpp_base.specs.declared.element.Round.TheVariants.{A1, A2, B1, B2}
use Rattle.ftpp_base.specs.declared.element.Slot.{Slot}
use Rattle.packet_format.specs.Numbers.{four_bytes, number_from}
use Rattle.bit_vote.specs.Vote.{Cell}
use Rattle.frame_format.specs.Frames.{width_in, cells_in, first_cell, cell_bytes, cell_from, cells_from, decoded, frame_bytes, frame_length, kind_byte, IsWide, IsFrame}
use Rattle.frame_format.specs.Grammar.{cell_slice, presence, payload, ShowsCell, IsInGrammar, IsSpelled, GrammarIsDecoded, SpelledIsDecoded, EncodedIsSpelled, OneSpelling, OneMeaning}
use Rattle.frame_format.proofs.Parts.{cut-cells, room}
use Rattle.frame_format.proofs.Decoded.{length-frame, slice, cells_from-frame, decoded-frame, frame-decoded}

-- ---- one cell

-- the bytes of a cell show it
cell_shown : (w : ℕ) (bytes : List ℕ) (cell : Cell) → bytes ≡ cell_bytes w cell → ShowsCell w bytes cell
cell_shown w bytes None e = record { absent = ap (λ l. get_or l 0 0) e; zeros = ap (drop 1) e }
cell_shown w bytes (Some row) e = record { present = ap (λ l. get_or l 0 0) e; row_is_payload = ap (drop 1) e }

-- and bytes that show a cell are its bytes
shown_cell : (w : ℕ) (bytes : List ℕ) (cell : Cell) → length bytes ≡ w + 1 → ShowsCell w bytes cell → bytes ≡ cell_bytes w cell
shown_cell w bytes None long shows = drop-cons bytes 0 0 (omega arith) ∙ (λ i. shows.absent i ∷ shows.zeros i)
shown_cell w bytes (Some row) long shows = drop-cons bytes 0 0 (omega arith) ∙ (λ i. shows.present i ∷ shows.row_is_payload i)

-- a cell that is shown by as many bytes as it has is of the width
shown_wide : (w : ℕ) (bytes : List ℕ) (cell : Cell) → length bytes ≡ w + 1 → ShowsCell w bytes cell → IsWide w cell
shown_wide w bytes None long shows = tt
shown_wide w bytes (Some row) long shows = let e = ap length shows.row_is_payload in let left = length-drop 1 bytes in omega arith

-- a bit that is not 0
is_one : (k : ℕ) → k ≤ 1 → (k ≡ 0 → ⊥) → k ≡ 1
is_one zero few no_zero = absurd (no_zero refl)
is_one (suc zero) few no_zero = refl
is_one (suc (suc k)) few no_zero = omega arith

-- bytes of which the first is a bit show the cell that is read of them
read_shown : (w : ℕ) (bytes : List ℕ) → presence bytes ≤ 1 → (presence bytes ≡ 0 → payload bytes ≡ replicate w 0) → ShowsCell w bytes (cell_from bytes)
read_shown w bytes bit zeros = by_test (slice_index bytes 0 == 0) refl where
  by_test : (b : Bool) → (slice_index bytes 0 == 0) ≡ b → ShowsCell w bytes (cond b None (Some (drop 1 bytes)))
  by_test true e = let absent = eqb-true (slice_index bytes 0) 0 e in record { absent = absent; zeros = zeros absent }
  by_test false e =
      let no_zero : slice_index bytes 0 ≡ 0 → ⊥ = λ z. let same = eq-eqb (slice_index bytes 0) 0 z in cc in
      let one : slice_index bytes 0 ≡ 1 = is_one (slice_index bytes 0) bit no_zero in
      record { present = one; row_is_payload = refl }

-- and the first byte of what shows a cell is a bit, with zeros behind 0
bit_shown : (w : ℕ) (bytes : List ℕ) (cell : Cell) → ShowsCell w bytes cell → presence bytes ≤ 1
bit_shown w bytes None shows = let e = shows.absent in omega arith
bit_shown w bytes (Some row) shows = let e = shows.present in omega arith

zeros_shown : (w : ℕ) (bytes : List ℕ) (cell : Cell) → ShowsCell w bytes cell → presence bytes ≡ 0 → payload bytes ≡ replicate w 0
zeros_shown w bytes None shows e = shows.zeros
zeros_shown w bytes (Some row) shows e = let one = shows.present in let never : ⊥ = omega arith in absurd never

-- ---- cells one after the other

-- bytes that are cut into the bytes of cells are those of all of them
joined : (w : ℕ) (cells : List Cell) (bytes : List ℕ) → length bytes ≡ length cells * (w + 1)
    → ((i : ℕ) → i < length cells → take (w + 1) (drop (i * (w + 1)) bytes) ≡ cell_bytes w (get_or cells i None)) → bytes ≡ flat_map (cell_bytes w) cells
joined w [] bytes long cut = let nothing = zero-mul (w + 1) in drop_all 0 bytes (omega arith)
joined w (cell ∷ cells) bytes long cut =
    let size = suc-mul (length cells) (w + 1) in
    let rest = length-drop (w + 1) bytes in
    let first : take (w + 1) bytes ≡ cell_bytes w cell = ap (λ n. take (w + 1) (drop n bytes)) (sym (zero-mul (w + 1))) ∙ cut 0 (omega arith) in
    let others : drop (w + 1) bytes ≡ flat_map (cell_bytes w) cells =
    joined w cells (drop (w + 1) bytes) (omega arith) (λ i h.
    ap (take (w + 1)) (drop-drop (i * (w + 1)) (w + 1) bytes ∙ ap (λ n. drop n bytes) (let more = suc-mul i (w + 1) in let at : (w + 1) + i * (w + 1) ≡ suc i * (w + 1) = omega arith in at))
    ∙ cut (suc i) (omega arith)) in
    sym (take-append-drop (w + 1) bytes) ∙ (λ i. first i ++ others i)

-- ---- the frame

-- the fields of a frame
pub spelled-frame : (n : ℕ) (slot : Slot) (sender : ℕ) (bytes : List ℕ) (cells : List Cell) → IsFrame n slot sender bytes cells → IsSpelled n slot sender bytes cells
spelled-frame n slot sender bytes cells is = record {
  long = length-frame n slot sender bytes cells is;
  kind = ap (λ l. get_or l 0 0) is.spelled;
  cycle = ap (λ l. take 4 (drop 1 l)) is.spelled;
  sent_by = ap (λ l. get_or l 5 0) is.spelled;
  count = is.count;
  each_cell = λ i h.
      cell_shown (width_in slot.round) (cell_slice slot.round bytes i) (cell_at cells i)
      (slice (width_in slot.round) i bytes ∙ ap (λ l. take (width_in slot.round + 1) (drop (i * (width_in slot.round + 1)) (drop 6 l))) is.spelled
      ∙ cut-cells (width_in slot.round) i cells is.wide (omega (arith, is.count)));
}

-- the bytes of a cell of a frame are as many as a cell has
length-slice : (n : ℕ) (round : Round) (bytes : List ℕ) (i : ℕ) → length bytes ≡ frame_length n round → i < cells_in n round → length (cell_slice round bytes i) ≡ width_in round + 1
length-slice n round bytes i long h =
    let w : ℕ = width_in round in
    let here = room w i (cells_in n round) h in
    let left = length-drop (i * (w + 1)) (drop 6 bytes) in
    let body = length-drop 6 bytes in
    ap length (slice w i bytes) ∙ length-take-le (w + 1) (drop (i * (w + 1)) (drop 6 bytes)) (omega arith)

-- six bytes by their fields
head_by_fields : (bytes : List ℕ) (kind cycle sender : ℕ) → 6 ≤ length bytes → slice_index bytes 0 ≡ kind → take 4 (drop 1 bytes) ≡ four_bytes cycle → slice_index bytes 5 ≡ sender
    → take 6 bytes ≡ kind ∷ four_bytes cycle ++ sender ∷ []
head_by_fields [] kind cycle sender long k c s = let never : ⊥ = omega arith in absurd never
head_by_fields (k0 ∷ []) kind cycle sender long k c s = let never : ⊥ = omega arith in absurd never
head_by_fields (k0 ∷ c0 ∷ []) kind cycle sender long k c s = let never : ⊥ = omega arith in absurd never
head_by_fields (k0 ∷ c0 ∷ c1 ∷ []) kind cycle sender long k c s = let never : ⊥ = omega arith in absurd never
head_by_fields (k0 ∷ c0 ∷ c1 ∷ c2 ∷ []) kind cycle sender long k c s = let never : ⊥ = omega arith in absurd never
head_by_fields (k0 ∷ c0 ∷ c1 ∷ c2 ∷ c3 ∷ []) kind cycle sender long k c s = let never : ⊥ = omega arith in absurd never
head_by_fields (k0 ∷ c0 ∷ c1 ∷ c2 ∷ c3 ∷ s0 ∷ rest) kind cycle sender long k c s = λ i. k i ∷ c i ++ s i ∷ []

-- and the frame of the fields
pub frame-spelled : (n : ℕ) (slot : Slot) (sender : ℕ) (bytes : List ℕ) (cells : List Cell) → IsSpelled n slot sender bytes cells → IsFrame n slot sender bytes cells
frame-spelled n slot sender bytes cells is =
    let w : ℕ = width_in slot.round in
    let size : length bytes ≡ 6 + length cells * (w + 1) = is.long ∙ ap (λ k. 6 + k * (w + 1)) (sym is.count) in
    let body = length-drop 6 bytes in
    let head = head_by_fields bytes (kind_byte slot.round) slot.cycle sender (omega arith) is.kind is.cycle is.sent_by in
    let rest : drop 6 bytes ≡ flat_map (cell_bytes w) cells =
    joined w cells (drop 6 bytes) (omega arith) (λ i h.
    sym (slice w i bytes)
    ∙ shown_cell w (cell_slice slot.round bytes i) (cell_at cells i) (length-slice n slot.round bytes i is.long (omega (arith, is.count))) (is.each_cell i (omega (arith, is.count)))) in
    record {
      spelled = sym (take-append-drop 6 bytes) ∙ (λ i. head i ++ rest i);
      count = is.count;
      wide =
          recursion_from_All (IsWide w) cells (All-from_get_or (IsWide w) cells None (λ i h.
          shown_wide w (cell_slice slot.round bytes i) (cell_at cells i) (length-slice n slot.round bytes i is.long (omega (arith, is.count))) (is.each_cell i (omega (arith, is.count)))));
    }

-- ---- the laws

pub spelled_decoded : SpelledIsDecoded
spelled_decoded n slot sender bytes cells = (
  (λ d. spelled-frame n slot sender bytes cells (frame-decoded n slot sender bytes cells d)),
  (λ is. decoded-frame n slot sender bytes cells (frame-spelled n slot sender bytes cells is)),
)

-- what is spelled is in the grammar
in_grammar : (n : ℕ) (slot : Slot) (sender : ℕ) (bytes : List ℕ) (cells : List Cell) → IsSpelled n slot sender bytes cells → IsInGrammar n slot sender bytes
in_grammar n slot sender bytes cells is = record {
  long = is.long;
  kind = is.kind;
  cycle = is.cycle;
  sent_by = is.sent_by;
  bit = λ i h. bit_shown (width_in slot.round) (cell_slice slot.round bytes i) (cell_at cells i) (is.each_cell i h);
  zeros = λ i h e. zeros_shown (width_in slot.round) (cell_slice slot.round bytes i) (cell_at cells i) (is.each_cell i h) e;
}

-- the cells that are read of bytes, and the one of an index
number_made : (n : ℕ) (round : Round) (bytes : List ℕ) → length (cells_from n round bytes) ≡ cells_in n round
number_made n round bytes = length-map-range_with_len (λ i. cell_from (cell_slice round bytes i)) 0 (cells_in n round)

made_at : (n : ℕ) (round : Round) (bytes : List ℕ) (i : ℕ) → i < cells_in n round → cell_at (cells_from n round bytes) i ≡ cell_from (cell_slice round bytes i)
made_at n round bytes i h =
    let long = number_made n round bytes in
    get_or-map-range_with_len (λ i. cell_from (cell_slice round bytes i)) 0 (cells_in n round) i i None (omega arith) (omega arith)

-- and what is in the grammar spells the cells that are read of it
grammar_spells : (n : ℕ) (slot : Slot) (sender : ℕ) (bytes : List ℕ) → IsInGrammar n slot sender bytes → IsSpelled n slot sender bytes (cells_from n slot.round bytes)
grammar_spells n slot sender bytes is = record {
  long = is.long;
  kind = is.kind;
  cycle = is.cycle;
  sent_by = is.sent_by;
  count = number_made n slot.round bytes;
  each_cell = λ i h.
      subst (ShowsCell (width_in slot.round) (cell_slice slot.round bytes i)) (sym (made_at n slot.round bytes i h))
      (read_shown (width_in slot.round) (cell_slice slot.round bytes i) (is.bit i h) (is.zeros i h));
}

of_some : (n : ℕ) (slot : Slot) (sender : ℕ) (bytes : List ℕ) (r : Option (List Cell)) → decoded n slot sender bytes ≡ r → IsSome r → IsInGrammar n slot sender bytes
of_some n slot sender bytes None e some = cc
of_some n slot sender bytes (Some cells) e some = in_grammar n slot sender bytes cells ((spelled_decoded n slot sender bytes cells).0 e)

pub grammar_decoded : GrammarIsDecoded
grammar_decoded n slot sender bytes = (
  (λ some. of_some n slot sender bytes (decoded n slot sender bytes) refl some),
  (λ is. subst IsSome (sym ((spelled_decoded n slot sender bytes (cells_from n slot.round bytes)).1 (grammar_spells n slot sender bytes is))) refl),
)

-- what is answered is some exactly in the grammar: all cells, or the first of them
pub grammar_all : (n : ℕ) (slot : Slot) (sender : ℕ) (bytes : List ℕ) (r : Option (List Cell)) → r ≡ decoded n slot sender bytes → IsSome r ↔ IsInGrammar n slot sender bytes
grammar_all n slot sender bytes r e =
    (λ some. (grammar_decoded n slot sender bytes).0 (subst IsSome e some), λ is. subst IsSome (sym e) ((grammar_decoded n slot sender bytes).1 is))

some_first : (d : Option (List Cell)) → IsSome (option_map first_cell d) ↔ IsSome d
some_first None = (λ some. some, λ some. some)
some_first (Some cells) = (λ some. refl, λ some. refl)

pub grammar_one : (n : ℕ) (slot : Slot) (sender : ℕ) (bytes : List ℕ) (r : Option Cell) → r ≡ option_map first_cell (decoded n slot sender bytes) → IsSome r ↔ IsInGrammar n slot sender bytes
grammar_one n slot sender bytes r e = (
  (λ some. (grammar_decoded n slot sender bytes).0 ((some_first (decoded n slot sender bytes)).0 (subst IsSome e some))),
  (λ is. subst IsSome (sym e) ((some_first (decoded n slot sender bytes)).1 ((grammar_decoded n slot sender bytes).1 is))),
)

pub encoded_spelled : EncodedIsSpelled
encoded_spelled n slot sender cells count wide = spelled-frame n slot sender (frame_bytes slot sender cells) cells (record { spelled = refl; count = count; wide = wide })

pub one_spelling : OneSpelling
one_spelling n slot sender xs ys cells a b = (frame-spelled n slot sender xs cells a).spelled ∙ sym (frame-spelled n slot sender ys cells b).spelled

-- the kinds of the rounds differ
one_round : (r s : Round) → kind_byte r ≡ kind_byte s → r ≡ s
one_round A1 A1 e = refl
one_round A1 A2 e = let never : ⊥ = omega arith in absurd never
one_round A1 B1 e = let never : ⊥ = omega arith in absurd never
one_round A1 B2 e = let never : ⊥ = omega arith in absurd never
one_round A2 A1 e = let never : ⊥ = omega arith in absurd never
one_round A2 A2 e = refl
one_round A2 B1 e = let never : ⊥ = omega arith in absurd never
one_round A2 B2 e = let never : ⊥ = omega arith in absurd never
one_round B1 A1 e = let never : ⊥ = omega arith in absurd never
one_round B1 A2 e = let never : ⊥ = omega arith in absurd never
one_round B1 B1 e = refl
one_round B1 B2 e = let never : ⊥ = omega arith in absurd never
one_round B2 A1 e = let never : ⊥ = omega arith in absurd never
one_round B2 A2 e = let never : ⊥ = omega arith in absurd never
one_round B2 B1 e = let never : ⊥ = omega arith in absurd never
one_round B2 B2 e = refl

number-four : (k : ℕ) → k < 2 ^ 32 → number_from (four_bytes k) ≡ k
number-four k small = omega arith

pub one_meaning : OneMeaning
one_meaning n one other from by bytes cells others small fits a b =
    let round = one_round one.round other.round (sym a.kind ∙ b.kind) in
    record {
      round = round;
      cycle = sym (number-four one.cycle small) ∙ ap number_from (sym a.cycle ∙ b.cycle) ∙ number-four other.cycle fits;
      sender = sym a.sent_by ∙ b.sent_by;
      same_cells =
          sym (cells_from-frame n one from bytes cells (frame-spelled n one from bytes cells a))
          ∙ ap (λ r. cells_from n r bytes) round
          ∙ cells_from-frame n other by bytes others (frame-spelled n other by bytes others b);
    }
