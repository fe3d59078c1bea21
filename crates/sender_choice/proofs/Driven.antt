-- Calls that are made one after the other, and answered one after the other.
use Rattle.std.proofs.Common.{◌≡◌, ℕ, suc, ◌+◌, ◌<◌, List, [], ◌∷◌, ◌++◌, length, take, drop, set, length-set, get_or, refl, arith, sym, ◌∙◌, ap, subst}
use Rattle.std.specs.Prelude.{Option}
use Rattle.std.proofs.Math.Seq.{take-suc, drop-cons, take-suc-set}
use Rattle.sender_choice.specs.declared.calls.ChoiceCall.{ChoiceCall}
use Rattle.sender_choice.specs.Sinces.{Sinces}
use Rattle.sender_choice.specs.Calls.{held_after, held_after_all, MayCall, MayCallAll, IsAnswer, AreAnswers}

-- what is held after one call more
held_more : (held : Sinces) (calls : List ChoiceCall) (call : ChoiceCall) → held_after_all held (calls ++ call ∷ []) ≡ held_after (held_after_all held calls) call
held_more held [] call = refl
held_more held (c ∷ cs) call = held_more (held_after held c) cs call

-- one answer more
answers_more : (held : Sinces) (calls : List ChoiceCall) (answers : List (Option (ℕ × ℕ))) (call : ChoiceCall) (answer : Option (ℕ × ℕ))
    → AreAnswers held calls answers → IsAnswer (held_after_all held calls) call answer → AreAnswers held (calls ++ call ∷ []) (answers ++ answer ∷ [])
answers_more held [] [] call answer h a = (a, tt)
answers_more held [] (o ∷ os) call answer h a = absurd h
answers_more held (c ∷ cs) [] call answer h a = absurd h
answers_more held (c ∷ cs) (o ∷ os) call answer h a = (h.0, answers_more (held_after held c) cs os call answer h.1 a)

-- The first k calls are made and answered, and the others may be made.
pub record HasMade (before : Sinces) (calls : List ChoiceCall) (answers : List (Option (ℕ × ℕ))) (k : ℕ) (held : Sinces) : Type 0 where
  pub holds : held ≡ held_after_all before (take k calls)
  pub width : length answers ≡ length calls
  pub others : MayCallAll held (drop k calls)
  pub answered : AreAnswers before (take k calls) (take k answers)

-- the next call may be made
pub next_may : (before : Sinces) (calls : List ChoiceCall) (answers : List (Option (ℕ × ℕ))) (k : ℕ) (held : Sinces) (call : ChoiceCall)
    → HasMade before calls answers k held → k < length calls → get_or calls k call ≡ call → MayCall held call
next_may before calls answers k held call h l at =
    let here : drop k calls ≡ call ∷ drop (suc k) calls = drop-cons calls k call l ∙ ap (λ c. c ∷ drop (suc k) calls) at in
    (subst (MayCallAll held) here h.others).0

-- one call more
pub one_more : (before : Sinces) (calls : List ChoiceCall) (answers : List (Option (ℕ × ℕ))) (k : ℕ) (held after : Sinces) (call : ChoiceCall) (answer : Option (ℕ × ℕ))
    → HasMade before calls answers k held → k < length calls → get_or calls k call ≡ call
    → after ≡ held_after held call → IsAnswer held call answer → HasMade before calls (set answers k answer) (k + 1) after
one_more before calls answers k held after call answer h l at next a =
    let here : drop k calls ≡ call ∷ drop (suc k) calls = drop-cons calls k call l ∙ ap (λ c. c ∷ drop (suc k) calls) at in
    let front : take (suc k) calls ≡ take k calls ++ call ∷ [] = take-suc calls k call l ∙ ap (λ c. take k calls ++ c ∷ []) at in
    let rest = subst (MayCallAll held) here h.others in
    let Made : ℕ → Type 0 = λ n. HasMade before calls (set answers k answer) n after in
    let Others : Sinces → Type 0 = λ s. MayCallAll s (drop (suc k) calls) in
    let Answer : Sinces → Type 0 = λ s. IsAnswer s call answer in
    let Calls : List ChoiceCall → Type 0 = λ cs. AreAnswers before cs (take (suc k) (set answers k answer)) in
    let Answers : List (Option (ℕ × ℕ)) → Type 0 = λ os. AreAnswers before (take k calls ++ call ∷ []) os in
    let width = h.width in
    let there : suc k ≡ k + 1 = omega arith in
    subst Made there (record {
      holds = next ∙ ap (λ s. held_after s call) h.holds ∙ sym (held_more before (take k calls) call) ∙ sym (ap (held_after_all before) front);
      width = length-set answers k answer ∙ h.width;
      others = subst Others (sym next) rest.1;
      answered =
          subst Calls (sym front) (subst Answers (sym (take-suc-set answers k answer (omega arith)))
          (answers_more before (take k calls) (take k answers) call answer h.answered (subst Answer h.holds a)));
    })
