-- The frame that an adversary repeats is the one that the script means.
use Rattle.std.proofs.Common.{◌≡◌, ℕ, zero, suc, ◌+◌, ◌<◌, Bool, true, false, List, [], ◌∷◌, refl, ap, sym, subst, ◌∙◌, arith}
use Rattle.std.specs.Prelude.{Option, Some, None, ◌==◌, slice_get, if◌then◌else◌}
use Rattle.std.proofs.lemmas.Bool.{eq-eqb, ne_eqb}
use Rattle.std.proofs.lemmas.Option.{none-some}
use Rattle.ftpp_base.specs.Lists.{is_this}
use Rattle.ftpp_base.specs.declared.element.Round.{Round}
use Rattle.ftpp_base.specs.declared.element.Slot.{Slot}
use Rattle.bit_vote.specs.Vote.{Cell}
use Rattle.frame_format.specs.Frames.{frame_bytes}
use Rattle.fault_script.specs.declared.Edit.{Edit}
use Rattle.fault_script.specs.Edited.{edited_frame}
use Rattle.fault_script.specs.Kept.{KeptFrame, KeptFrames, before_with, kept_with, same_sender, same_byte, repeated, repeated_from}
use Rattle.fault_script.specs.Plays.{Told, kept_by_call}
use Rattle.script_text.specs.Reading.{Plan}
use Rattle.element_core.specs.Cycle.{Shown}
use Rattle.element_core.specs.Sent.{cells_sent, frame_sent}
use Rattle.element_core.proofs.Calm.{step-cycle}
use Rattle.report_text.specs.PlayedCycle.{Standing, slot_of, faulty_in, earlier_frame, frame_played, own_frames, input_played, cycle_played, standing_after}
use Rattle.report_text.specs.Laws.{HasEdits, IsKept, PlaysScript, made_of, KeepsOn, PlaysOn, PlaysFirst}

-- ---- the sender in a frame

sender_byte : (slot : Slot) (ne : ℕ) (cells : List Cell) → slice_get (frame_bytes slot ne cells) 5 ≡ Some ne
sender_byte slot ne cells = refl

same_by_sender : (one other : Slot) (ne me : ℕ) (cells more : List Cell) → same_sender (frame_bytes one ne cells) (frame_bytes other me more) ≡ (ne == me)
same_by_sender one other ne me cells more = λ i. same_byte (sender_byte one ne cells i) (sender_byte other me more i)

-- ---- one kept frame

-- that of the cycle just before, of the same element
repeated_last : (cycle ne me : ℕ) (one other : Slot) (cells more : List Cell)
    → repeated_from (Some (record { cycle = cycle; bytes = frame_bytes one ne cells })) (suc cycle) (frame_bytes other me more) ≡ (if ne == me then frame_bytes one ne cells else [])
repeated_last cycle ne me one other cells more =
    let next : cycle + 1 ≡ suc cycle = omega arith in
    let same : (cycle + 1 == suc cycle) ≡ true = eq-eqb (cycle + 1) (suc cycle) next in
    rw (same, same_by_sender one other ne me cells more) refl

-- none of an earlier one
repeated_old : (one : KeptFrame) (cycle : ℕ) (own : List ℕ) → one.cycle + 1 < cycle → repeated_from (Some one) cycle own ≡ []
repeated_old one cycle own l =
    let other : (one.cycle + 1 == cycle) ≡ false = ne_eqb (one.cycle + 1) cycle (λ e. let no : ⊥ = omega arith in no) in
    rw other refl

-- the frame that moves back at a call is the one that stood there
moved_back : (kept : KeptFrames) (cycle : ℕ) (now : Option KeptFrame) → kept.now ≡ now → (kept.now ≡ None → kept.before ≡ None) → ((one : KeptFrame) → now ≡ Some one → one.cycle < cycle) → before_with kept cycle now ≡ now
moved_back kept cycle None is blank earlier = blank is
moved_back kept cycle (Some one) is blank earlier =
    let l = earlier one refl in
    let other : (one.cycle == cycle) ≡ false = ne_eqb one.cycle cycle (λ e. let no : ⊥ = omega arith in no) in
    rw other refl

empty_either : (b : Bool) (bytes : List ℕ) → bytes ≡ [] → [] ≡ (if b then bytes else [])
empty_either true bytes e = sym e
empty_either false bytes e = refl

-- what the kept frame gives is what the script means
repeats_by : (before : Standing) (round : Round) (kept : KeptFrames) (ne : ℕ) (own : List ℕ) (f : Option ℕ) (c : ℕ) (now : Option KeptFrame)
    → before.faulty ≡ f → before.state.cycle ≡ c → kept.now ≡ now → IsKept before round kept → slice_get own 5 ≡ Some ne
    → repeated_from now c own ≡ (if is_this f ne then before.own round else [])
repeats_by before round kept ne own None c None ef ec en h name = refl
repeats_by before round kept ne own None c (Some one) ef ec en h name = let l = h.none ef one en in repeated_old one c own (omega (arith, l, ec))
repeats_by before round kept ne own (Some m) zero None ef ec en h name = empty_either (m == ne) (before.own round) (h.first ec)
repeats_by before round kept ne own (Some m) zero (Some one) ef ec en h name = let l = h.earlier one en in let no : ⊥ = omega (arith, l, ec) in absurd no
repeats_by before round kept ne own (Some m) (suc c) now ef ec en h name =
    let last : now ≡ Some (record { cycle = c; bytes = before.own round }) = sym en ∙ h.last m c ef ec in
    let sender : same_sender (before.own round) own ≡ (m == ne) = λ i. same_byte (h.sender m c ef ec i) (name i) in
    let next : c + 1 ≡ suc c = omega arith in
    let same : (c + 1 == suc c) ≡ true = eq-eqb (c + 1) (suc c) next in
    rw (last, same, sender) refl

repeats_script : (before : Standing) (round : Round) (kept : KeptFrames) (ne : ℕ) (own : List ℕ) → IsKept before round kept → slice_get own 5 ≡ Some ne
    → repeated (kept_with kept before.state.cycle own) before.state.cycle own ≡ earlier_frame before ne round
repeats_script before round kept ne own h name =
    ap (λ now. repeated_from now before.state.cycle own) (moved_back kept before.state.cycle kept.now refl h.blank (λ one e. h.earlier one e))
    ∙ repeats_by before round kept ne own before.faulty before.state.cycle kept.now refl refl refl h name

-- ---- what the adversary makes of a frame

made_by : (plan : Plan) (before : Standing) (kept : Round → KeptFrames) (edits : List Edit) (round : Round) (ne : ℕ) (own : List ℕ) (to : ℕ)
    → (HasEdits edits → IsKept before round (kept round)) → slice_get own 5 ≡ Some ne
    → edited_frame edits (slot_of before round) to (repeated (kept_by_call edits (kept round) before.state.cycle own) before.state.cycle own) own
    ≡ edited_frame edits (slot_of before round) to (earlier_frame before ne round) own
unfolding edited_frame
made_by plan before kept [] round ne own to h name = refl
made_by plan before kept (edit ∷ edits) round ne own to h name =
    ap (λ earlier. edited_frame (edit ∷ edits) (slot_of before round) to earlier own) (repeats_script before round (kept round) ne own (h tt) name)

pub made_is : (plan : Plan) (before : Standing) (told : Told) (round : Round) (ne : ℕ) (shown : Shown) (to : ℕ) → PlaysScript plan before told
    → made_of told (slot_of before round) (frame_sent shown round ne) to ≡ frame_played plan before ne round (frame_sent shown round ne) to
made_is plan before told round ne shown to h =
    let own = frame_sent shown round ne in
    ap (λ edits. edited_frame edits (slot_of before round) to (repeated (kept_by_call edits (told.kept round) before.state.cycle own) before.state.cycle own) own) h.edits
    ∙ made_by plan before told.kept plan.edits round ne own to (λ some. h.kept some round) (sender_byte (record { cycle = shown.cycle; round = round }) ne (cells_sent shown round ne))

-- ---- from cycle to cycle

pub cycle_after : (plan : Plan) (before : Standing) → (standing_after plan before).state.cycle ≡ before.state.cycle + 1
unfolding cycle_played
cycle_after plan before = step-cycle before.state (input_played plan before)

now_by_call : (edits : List Edit) (kept : KeptFrames) (cycle : ℕ) (own : List ℕ) → HasEdits edits → (kept_by_call edits kept cycle own).now ≡ Some (record { cycle = cycle; bytes = own })
now_by_call [] kept cycle own h = absurd h
now_by_call (edit ∷ edits) kept cycle own h = refl

pub some_is : {A : Type 0} (one other : A) → Some one ≡ Some other → one ≡ other
some_is one other e = ap (from one) e where
  from : {A : Type 0} → A → Option A → A
  from x None = x
  from x (Some y) = y

-- the frames that are kept then, where no element is faulty, and where one is
kept_none : (plan : Plan) (before : Standing) (round : Round) (old new : KeptFrames) → faulty_in plan before ≡ None → new ≡ old → IsKept before round old → IsKept (standing_after plan before) round new
kept_none plan before round old new e same h =
    let next = cycle_after plan before in
    record {
      first = λ z. let no : ⊥ = omega (arith, next, z) in absurd no;
      sender = λ ne c f z. absurd (none-some _ (sym e ∙ f));
      earlier = λ one n. let l = h.earlier one (sym (ap (λ k. k.now) same) ∙ n) in omega (arith, l, next);
      blank = λ n. ap (λ k. k.before) same ∙ h.blank (sym (ap (λ k. k.now) same) ∙ n);
      last = λ ne c f z. absurd (none-some _ (sym e ∙ f));
      none = λ f one n. let l = h.earlier one (sym (ap (λ k. k.now) same) ∙ n) in omega (arith, l, next);
    }

kept_some : (plan : Plan) (before : Standing) (round : Round) (ne : ℕ) (new : KeptFrames) → faulty_in plan before ≡ Some ne
    → new.now ≡ Some (record { cycle = before.state.cycle; bytes = frame_sent (cycle_played plan before).shown round ne }) → IsKept (standing_after plan before) round new
kept_some plan before round ne new e now =
    let next = cycle_after plan before in
    let shown = (cycle_played plan before).shown in
    let last : KeptFrame = record { cycle = before.state.cycle; bytes = frame_sent shown round ne } in
    let own : own_frames shown (faulty_in plan before) round ≡ frame_sent shown round ne = ap (λ f. own_frames shown f round) e in
    record {
      first = λ z. let no : ⊥ = omega (arith, next, z) in absurd no;
      sender = λ me c f z. ap (λ g. slice_get (own_frames shown g round) 5) f ∙ sender_byte (record { cycle = shown.cycle; round = round }) me (cells_sent shown round me);
      earlier = λ one n. let same = some_is one last (sym n ∙ now) in let c : one.cycle ≡ before.state.cycle = ap (λ k. k.cycle) same in omega (arith, c, next);
      blank = λ n. absurd (none-some _ (sym n ∙ now));
      last = λ me c f z. let same : before.state.cycle ≡ c = omega (arith, next, z) in now ∙ (λ i. Some (record { cycle = same i; bytes = sym own i }));
      none = λ f one n. absurd (none-some _ (sym f ∙ e));
    }

kept_on : (plan : Plan) (before : Standing) (old new : Told) (round : Round) (f : Option ℕ) → faulty_in plan before ≡ f → HasEdits plan.edits
    → PlaysScript plan before old → KeepsOn plan before old new → IsKept (standing_after plan before) round (new.kept round)
kept_on plan before old new round None e some h k = kept_none plan before round (old.kept round) (new.kept round) e (k.none e round) (h.kept some round)
kept_on plan before old new round (Some ne) e some h k =
    let own = frame_sent (cycle_played plan before).shown round ne in
    let now : (kept_by_call old.edits (old.kept round) before.state.cycle own).now ≡ Some (record { cycle = before.state.cycle; bytes = own }) =
    now_by_call old.edits (old.kept round) before.state.cycle own (subst HasEdits (sym h.edits) some) in
    kept_some plan before round ne (new.kept round) e (ap (λ x. x.now) (k.some ne e round) ∙ now)

pub plays_on : PlaysOn
plays_on plan before old new h k = record {
  edits = k.edits ∙ h.edits;
  kept = λ some round. kept_on plan before old new round (faulty_in plan before) refl some h k;
}

pub plays_first : PlaysFirst
plays_first table plan told edits blank = record {
  edits = edits;
  kept = λ some round.
      let now : (told.kept round).now ≡ None = ap (λ k. k.now) (blank round) in
      record {
        first = λ z. refl;
        sender = λ ne c f z. let no : ⊥ = omega (arith, z) in absurd no;
        earlier = λ one n. absurd (none-some _ (sym now ∙ n));
        blank = λ n. ap (λ k. k.before) (blank round);
        last = λ ne c f z. let no : ⊥ = omega (arith, z) in absurd no;
        none = λ f one n. absurd (none-some _ (sym now ∙ n));
      };
}
