-- One call of a player.
use Rattle.std.proofs.Common.{◌≡◌, ◌≢◌, ℕ, ◌-◌, true, false, List, [], ◌∷◌, length, take, drop, refl, ap, sym, ◌∙◌, arith}
use Rattle.std.specs.Prelude.{◌==◌}
use Rattle.std.proofs.lemmas.Bool.{eqb-true}
use Rattle.std.proofs.lemmas.List.{take_rest}
use Rattle.ftpp_base.specs.declared.element.Round.{Round}
use Rattle.ftpp_base.specs.declared.element.Slot.{Slot}
use Rattle.fault_script.specs.declared.Edit.{Edit}
use Rattle.fault_script.specs.Edited.{edited_frame, all_before, never_fall}
use Rattle.fault_script.specs.Kept.{KeptFrames, kept_with, repeated}
use Rattle.fault_script.specs.Plays.{PlaysTold, kept_by_call}
use Rattle.fault_script.proofs.Walked.{edited_behind, rest_in_order}

-- without edits a frame is as it was, and none is kept
pub unplayed : (edits : List Edit) (kept : Round → KeptFrames) (at : Slot) (to : ℕ) (own got : List ℕ)
    → (length edits == 0) ≡ true → got ≡ own → PlaysTold (record { edits = edits; kept = kept }) at to own got (record { edits = edits; kept = kept })
unfolding edited_frame
unplayed [] kept at to own got e same = record { edits = refl; kept = refl; others = λ round h. refl; frame = same }
unplayed (edit ∷ edits) kept at to own got e same = let none : length (edit ∷ edits) ≡ 0 = eqb-true (length (edit ∷ edits)) 0 e in let no : ⊥ = omega arith in absurd no

kept_by_some : (edits : List Edit) (kept : KeptFrames) (cycle : ℕ) (own : List ℕ) → (length edits == 0) ≡ false → kept_by_call edits kept cycle own ≡ kept_with kept cycle own
kept_by_some [] kept cycle own e = let no : true ≡ false = e in absurd cc
kept_by_some (edit ∷ edits) kept cycle own e = refl

-- the edits from a place on, as the code cuts them off
pub rest_cut : (edits : List Edit) (first : ℕ) → take (length edits - first) (drop first edits) ≡ drop first edits
rest_cut edits first = take_rest edits first

pub played : (edits seen : List Edit) (kept after : Round → KeptFrames) (at : Slot) (to first : ℕ) (own got earlier : List ℕ)
    → (length edits == 0) ≡ false → seen ≡ edits
    → after at.round ≡ kept_with (kept at.round) at.cycle own → ((other : Round) → other ≢ at.round → after other ≡ kept other)
    → earlier ≡ repeated (after at.round) at.cycle own
    → all_before at.cycle (take first seen) ≡ true
    → got ≡ edited_frame (take (length seen - first) (drop first seen)) at to earlier own
    → PlaysTold (record { edits = edits; kept = kept }) at to own got (record { edits = seen; kept = after })
played edits seen kept after at to first own got earlier some same now others repeats behind made = record {
  edits = same;
  kept = now ∙ sym (kept_by_some edits (kept at.round) at.cycle own some);
  others = others;
  frame =
      made ∙ ap (λ xs. edited_frame xs at to earlier own) (rest_cut seen first) ∙ sym (edited_behind seen first at to earlier own behind)
      ∙ ap (λ xs. edited_frame xs at to earlier own) same ∙ ap (λ bytes. edited_frame edits at to bytes own) repeats;
}

-- the edits from a place on do not fall
pub cut_in_order : (edits : List Edit) (first : ℕ) → never_fall 0 edits ≡ true → never_fall 0 (take (length edits - first) (drop first edits)) ≡ true
cut_in_order edits first h = ap (never_fall 0) (rest_cut edits first) ∙ rest_in_order edits first h
