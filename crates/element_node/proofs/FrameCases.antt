-- Which case of a frame it is.
use Rattle.std.proofs.Common.{◌≡◌, ℕ, ◌+◌, ◌-◌, ◌<◌, ◌≤◌, Bool, true, false, ◌==◌, nat_le, List, [], ◌∷◌, ◌++◌, length, take, refl, ap, sym, ◌∙◌, arith, eqb-true}
use Rattle.std.specs.Prelude.{slice_index_or, slice_set}
use Rattle.std.proofs.lemmas.List.{take_more, get_or-set_same, length-map, length-take-le, take_all}
use Rattle.std.proofs.lemmas.Bool.{le-leb, lt-leb}
use Rattle.arrayvec.specs.ArrayVec.{ArrayVec}
use Rattle.link_fabric.specs.Rows.{rows_of}
use Rattle.element_node.specs.Dialog.{and_then, ready, breaks, piece}
use Rattle.element_node.specs.Input.{length_in, read_frame_of, read_frame, read_frame_from, read_frames_from}

pub too_long : (n : ℕ) (bytes : List ℕ) → n ≡ length_in bytes → 331 < n → read_frame_of bytes ≡ breaks 5
unfolding read_frame_of
too_long n bytes same past =
    let e : nat_le (length_in bytes) 331 ≡ false = lt-leb _ _ (omega (arith, same)) in
    rw e refl

pub not_too_long : (n : ℕ) (bytes : List ℕ) → n ≡ length_in bytes → n ≤ 331 → read_frame_of bytes ≡ piece n
unfolding read_frame_of
not_too_long n bytes same few =
    let e : nat_le (length_in bytes) 331 ≡ true = le-leb _ _ (omega (arith, same)) in
    rw (e, same) refl

pub own_place : (me sender : ℕ) (b : Bool) → b ≡ (sender == me) → b ≡ true → read_frame_from me sender ≡ ready []
unfolding read_frame_from
own_place me sender b e h =
    let f : (sender == me) ≡ true = sym e ∙ h in
    rw f refl

pub other_place : (me sender : ℕ) (b : Bool) → b ≡ (sender == me) → b ≡ false → read_frame_from me sender ≡ read_frame
unfolding read_frame_from
other_place me sender b e h =
    let f : (sender == me) ≡ false = sym e ∙ h in
    rw f refl

-- the element's own row is empty
pub own_row : (me sender : ℕ) (b : Bool) (rows : List (List ℕ)) → b ≡ (sender == me) → b ≡ true → slice_index_or rows me [] ≡ [] → read_frame_from me sender ≡ ready (slice_index_or rows sender [])
own_row me sender b rows e h empty =
    let same : sender ≡ me = eqb-true sender me (sym e ∙ h) in
    own_place me sender b e h ∙ ap ready (sym (ap (λ s. slice_index_or rows s []) same ∙ empty))

-- there is a row for each sender
pub rows_wide : (frames : List (ArrayVec ℕ)) (n : ℕ) → length frames ≡ n → length (rows_of frames) ≡ n
rows_wide frames n e = length-map frames (λ (f : ArrayVec ℕ). f.items) ∙ e

pub as_many_before : (k : ℕ) (rows : List (List ℕ)) → k < length rows → length (take k rows) ≡ k
as_many_before k rows below = length-take-le k rows (omega (arith, below))

-- a row that was put there
pub put_row : (sender : ℕ) (old rows : List (List ℕ)) (frame : List ℕ) → sender < length old → rows ≡ slice_set old sender frame → slice_index_or rows sender [] ≡ frame
put_row sender old rows frame below e = rw e (get_or-set_same old sender frame [] below)

-- one sender more
pub frames_step : (me n m sender : ℕ) (before : List (List ℕ)) → n ≡ m + 1 → length before ≡ sender → read_frames_from me n before ≡ and_then (read_frame_from me sender) (λ frame. read_frames_from me m (before ++ frame ∷ []))
unfolding read_frames_from
frames_step me n m sender before e f =
    let g : n ≡ ℕ.suc m = omega arith in
    rw (g, sym f) refl

-- no sender more
pub frames_none : (me n : ℕ) (before : List (List ℕ)) → n ≡ 0 → read_frames_from me n before ≡ ready before
unfolding read_frames_from
frames_none me n before e = rw e refl

-- the frames before a sender, and its own
pub one_more : (k : ℕ) (rows old : List (List ℕ)) → k < length rows → take k rows ≡ take k old → take k old ++ slice_index_or rows k [] ∷ [] ≡ take (k + 1) rows
one_more k rows old below same = ap (λ t. t ++ slice_index_or rows k [] ∷ []) (sym same) ∙ sym (take_more rows k [] below)

-- the same sender, to the same element
pub same_sender : (me owner k sender : ℕ) → owner ≡ me → sender ≡ k → read_frame_from me k ≡ read_frame_from owner sender
same_sender me owner k sender e f = rw (e, f) refl

-- all rows
pub all_rows : (me n k : ℕ) (rows : List (List ℕ)) → length rows ≡ n → n ≤ k → read_frames_from me (n - k) (take k rows) ≡ ready rows
all_rows me n k rows wide past = frames_none me (n - k) (take k rows) (omega (arith, past)) ∙ ap ready (take_all k rows (omega (arith, wide, past)))
