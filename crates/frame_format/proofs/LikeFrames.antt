-- Frames of two senders that are equal behind their heads have the same cells.
use Rattle.std.proofs.Common.{◌≡◌, ℕ, List, ◌++◌, Option, Some, None, take, drop, sym, ◌∙◌, ap}
use Rattle.std.specs.Prelude.{unwrap_or, replicate}
use Rattle.std.proofs.lemmas.List.{take-append-drop}
use Rattle.ftpp_base.specs.declared.element.Slot.{Slot}
use Rattle.bit_vote.specs.Vote.{Cell}
use Rattle.frame_format.specs.Frames.{IsFrame, cells_in, decoded, frame_head, reads_as}
use Rattle.frame_format.proofs.Decoded.{decoded-frame, frame-decoded}

-- the bytes behind the head of a frame, behind another sender's head
like_frame : (n : ℕ) (slot : Slot) (one other : ℕ) (bytes before : List ℕ) (cells : List Cell) → take 6 bytes ≡ frame_head slot one → drop 6 bytes ≡ drop 6 before
    → IsFrame n slot other before cells → IsFrame n slot one bytes cells
like_frame n slot one other bytes before cells head rest is = record {
  spelled = sym (take-append-drop 6 bytes) ∙ (λ i. head i ++ rest i) ∙ ap (λ l. frame_head slot one ++ drop 6 l) is.spelled;
  count = is.count;
  wide = is.wide;
}

module _ (n : ℕ) (slot : Slot) (one other : ℕ) (bytes before : List ℕ) (head : take 6 bytes ≡ frame_head slot one) (head_before : take 6 before ≡ frame_head slot other) (rest : drop 6 bytes ≡ drop 6 before) where
  none_by : (r : Option (List Cell)) → decoded n slot one bytes ≡ r → decoded n slot other before ≡ None → r ≡ None
  none_by None e none = λ i. None
  none_by (Some cells) e none =
      let back : decoded n slot other before ≡ Some cells =
      decoded-frame n slot other before cells (like_frame n slot other one before bytes cells head_before (sym rest) (frame-decoded n slot one bytes cells e)) in
      cc

  some_by : (r : Option (List Cell)) → decoded n slot other before ≡ r → decoded n slot one bytes ≡ r
  some_by None e = none_by (decoded n slot one bytes) (λ i. decoded n slot one bytes) e
  some_by (Some cells) e = decoded-frame n slot one bytes cells (like_frame n slot one other bytes before cells head rest (frame-decoded n slot other before cells e))

  pub like_reads : reads_as n slot one bytes ≡ reads_as n slot other before
  like_reads =
      ap (λ r. unwrap_or r (replicate (cells_in n slot.round) None)) (some_by (decoded n slot other before) (λ i. decoded n slot other before))
