-- Which edits are of a frame, where the cycles of edits do not fall.
use Rattle.std.proofs.Common.{◌≡◌, ℕ, zero, suc, ◌+◌, ◌<◌, ◌≤◌, Bool, true, false, cond, List, [], ◌∷◌, ◌++◌, length, take, drop, get_or, slice_set, refl, ap, sym, ◌∙◌, arith}
use Rattle.std.specs.Prelude.{◌&&◌, ◌==◌, nat_le, nat_lt, filter, IsTrue}
use Rattle.std.specs.List.{fold, list_all}
use Rattle.std.proofs.lemmas.Bool.{and_parts, ne_eqb, ltb-true, leb-true, le-leb, lt-ltb}
use Rattle.std.proofs.Math.Seq.{set_out}
use Rattle.std.proofs.lemmas.List.{take-append-drop, drop_more, take_more}
use Rattle.std.proofs.lemmas.List.Elements.{filter-append}
use Rattle.ftpp_base.specs.declared.element.Slot.{Slot}
use Rattle.fault_script.specs.declared.Edit.{Edit}
use Rattle.fault_script.specs.Edited.{is_of, edited_more, edited_frame, never_fall, all_before, names_round, names_receiver}

false_and : (a b : Bool) → a ≡ false → (a && b) ≡ false
false_and true b e = absurd cc
false_and false b e = refl

-- past the end of a frame nothing is changed
pub set_past : (frame : List ℕ) (i b : ℕ) → length frame ≤ i → slice_set frame i b ≡ frame
set_past frame i b l = set_out frame i b l

-- what the edits of the rest of a list make, one edit on
pub edited_on : (at : Slot) (to : ℕ) (earlier frame : List ℕ) (edits : List Edit) (i : ℕ) (d : Edit) → i < length edits
    → fold (edited_more earlier) frame (filter (is_of at to) (drop i edits)) ≡ fold (edited_more earlier) frame (cond (is_of at to (get_or edits i d)) (get_or edits i d ∷ filter (is_of at to) (drop (i + 1) edits)) (filter (is_of at to) (drop (i + 1) edits)))
edited_on at to earlier frame edits i d l = ap (λ xs. fold (edited_more earlier) frame (filter (is_of at to) xs)) (drop_more edits i d l)

-- an edit of another cycle is of no frame of this one
other_cycle : (at : Slot) (to : ℕ) (edit : Edit) → (edit.cycle ≡ at.cycle → ⊥) → is_of at to edit ≡ false
unfolding is_of
other_cycle at to edit h =
    false_and (edit.cycle == at.cycle && names_round edit.round at.round) (names_receiver edit.to to)
    (false_and (edit.cycle == at.cycle) (names_round edit.round at.round) (ne_eqb edit.cycle at.cycle h))

kept_out : {A : Type 0} (b : Bool) (x : A) (xs : List A) → b ≡ false → cond b (x ∷ xs) xs ≡ xs
kept_out true x xs e = absurd cc
kept_out false x xs e = refl

-- edits of later cycles are of no frame of this one
later_none : (at : Slot) (to from : ℕ) (edits : List Edit) → never_fall from edits ≡ true → at.cycle < from → filter (is_of at to) edits ≡ []
later_none at to from [] h l = refl
later_none at to from (edit ∷ edits) h l =
    let parts = and_parts (nat_le from edit.cycle) (never_fall edit.cycle edits) h in
    let later : from ≤ edit.cycle = leb-true from edit.cycle parts.0 in
    kept_out (is_of at to edit) edit (filter (is_of at to) edits) (other_cycle at to edit (λ e. let no : ⊥ = omega arith in no))
    ∙ later_none at to edit.cycle edits parts.1 (omega arith)

-- edits of earlier cycles are of no frame of this one
before_none : (at : Slot) (to : ℕ) (edits : List Edit) → all_before at.cycle edits ≡ true → filter (is_of at to) edits ≡ []
before_none at to [] h = refl
before_none at to (edit ∷ edits) h =
    let parts = and_parts (nat_lt edit.cycle at.cycle) (all_before at.cycle edits) h in
    let earlier : edit.cycle < at.cycle = ltb-true edit.cycle at.cycle parts.0 in
    kept_out (is_of at to edit) edit (filter (is_of at to) edits) (other_cycle at to edit (λ e. let no : ⊥ = omega arith in no))
    ∙ before_none at to edits parts.1

both : (a b : Bool) → a ≡ true → b ≡ true → (a && b) ≡ true
both true b e f = f
both false b e f = absurd cc

-- edits that do not fall from a cycle on do not from the first cycle on
from_first : (from : ℕ) (edits : List Edit) → never_fall from edits ≡ true → never_fall 0 edits ≡ true
from_first from [] h = refl
from_first from (edit ∷ edits) h =
    both (nat_le 0 edit.cycle) (never_fall edit.cycle edits) (le-leb 0 edit.cycle (omega arith)) (and_parts (nat_le from edit.cycle) (never_fall edit.cycle edits) h).1

-- nor do those behind some of them
pub rest_in_order : (edits : List Edit) (i : ℕ) → never_fall 0 edits ≡ true → never_fall 0 (drop i edits) ≡ true
rest_in_order edits zero h = h
rest_in_order [] (suc i) h = refl
rest_in_order (edit ∷ edits) (suc i) h = rest_in_order edits i (from_first edit.cycle edits (and_parts (nat_le 0 edit.cycle) (never_fall edit.cycle edits) h).1)

-- the edits of a frame stand behind those of the cycles before it
pub edited_behind : (edits : List Edit) (i : ℕ) (at : Slot) (to : ℕ) (earlier own : List ℕ) → all_before at.cycle (take i edits) ≡ true
    → edited_frame edits at to earlier own ≡ edited_frame (drop i edits) at to earlier own
unfolding edited_frame
edited_behind edits i at to earlier own h =
    let split : filter (is_of at to) edits ≡ filter (is_of at to) (drop i edits) =
    ap (filter (is_of at to)) (sym (take-append-drop i edits)) ∙ filter-append (is_of at to) (take i edits) (drop i edits) ∙ ap (λ l. l ++ filter (is_of at to) (drop i edits)) (before_none at to (take i edits) h) in
    ap (fold (edited_more earlier) own) split

-- where an edit of a later cycle stands, no edit from there on is of the frame
pub rest_later : (at : Slot) (to : ℕ) (earlier frame : List ℕ) (edits : List Edit) (i : ℕ) (d : Edit) → i < length edits → never_fall 0 edits ≡ true
    → at.cycle < (get_or edits i d).cycle → fold (edited_more earlier) frame (filter (is_of at to) (drop i edits)) ≡ frame
rest_later at to earlier frame edits i d l h later =
    let sorted : never_fall 0 (get_or edits i d ∷ drop (i + 1) edits) ≡ true = ap (never_fall 0) (sym (drop_more edits i d l)) ∙ rest_in_order edits i h in
    let from_it : never_fall (get_or edits i d).cycle (get_or edits i d ∷ drop (i + 1) edits) ≡ true =
    both (nat_le (get_or edits i d).cycle (get_or edits i d).cycle) (never_fall (get_or edits i d).cycle (drop (i + 1) edits)) (le-leb _ _ (omega arith)) (and_parts (nat_le 0 (get_or edits i d).cycle) (never_fall (get_or edits i d).cycle (drop (i + 1) edits)) sorted).1 in
    ap (λ xs. fold (edited_more earlier) frame (filter (is_of at to) xs)) (drop_more edits i d l)
    ∙ ap (fold (edited_more earlier) frame) (later_none at to (get_or edits i d).cycle (get_or edits i d ∷ drop (i + 1) edits) from_it later)

-- edits of the cycles before one are of the cycles before a later one
pub before_later : (cycle later : ℕ) (edits : List Edit) → all_before cycle edits ≡ true → cycle ≤ later → all_before later edits ≡ true
before_later cycle later [] h l = refl
before_later cycle later (edit ∷ edits) h l =
    let parts = and_parts (nat_lt edit.cycle cycle) (all_before cycle edits) h in
    let earlier : edit.cycle < cycle = ltb-true edit.cycle cycle parts.0 in
    both (nat_lt edit.cycle later) (all_before later edits) (lt-ltb edit.cycle later (omega arith)) (before_later cycle later edits parts.1 l)

before_both : (cycle : ℕ) (xs : List Edit) (edit : Edit) → all_before cycle xs ≡ true → edit.cycle < cycle → all_before cycle (xs ++ edit ∷ []) ≡ true
before_both cycle [] edit h l = both (nat_lt edit.cycle cycle) true (lt-ltb edit.cycle cycle l) refl
before_both cycle (x ∷ xs) edit h l =
    let parts = and_parts (nat_lt x.cycle cycle) (all_before cycle xs) h in
    both (nat_lt x.cycle cycle) (all_before cycle (xs ++ edit ∷ [])) parts.0 (before_both cycle xs edit parts.1 l)

-- one edit more
pub before_more : (cycle : ℕ) (edits : List Edit) (i : ℕ) (d : Edit) → i < length edits → all_before cycle (take i edits) ≡ true → (get_or edits i d).cycle < cycle
    → all_before cycle (take (i + 1) edits) ≡ true
before_more cycle edits i d l h earlier = ap (all_before cycle) (take_more edits i d l) ∙ before_both cycle (take i edits) (get_or edits i d) h earlier
