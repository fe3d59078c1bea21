-- What a row of calls to a chooser answers, by the map that it is.
use Rattle.std.specs.Prelude.{◌≡◌, ℕ, List, [], ◌∷◌, Option, None}
use Rattle.sender_choice.specs.declared.calls.ChoiceCall.{ChoiceCall}
use Rattle.sender_choice.specs.declared.calls.ChoiceCall.TheVariants.{Set, Clear, Oldest}
use Rattle.sender_choice.specs.Sinces.{Sinces, with_since, without_since, HasRoomFor, IsChoice}

-- what is held after a call
abbrev pub held_after : Sinces → ChoiceCall → Sinces
held_after held (Set vid since) = with_since held vid since
held_after held (Clear vid) = without_since held vid
held_after held (Oldest eligible) = held

-- what is held after several
abbrev pub held_after_all : Sinces → List ChoiceCall → Sinces
held_after_all held [] = held
held_after_all held (call ∷ calls) = held_after_all (held_after held call) calls

-- whether a call may be made: there is room for a group that is set
abbrev pub MayCall : Sinces → ChoiceCall → Type 0
MayCall held (Set vid since) = HasRoomFor held vid
MayCall held (Clear vid) = Unit {0}
MayCall held (Oldest eligible) = Unit {0}

-- whether calls may be made one after the other
abbrev pub MayCallAll : Sinces → List ChoiceCall → Type 0
MayCallAll held [] = Unit {0}
MayCallAll held (call ∷ calls) = MayCall held call × MayCallAll (held_after held call) calls

-- what a call answers: only `Oldest` gives a group
abbrev pub IsAnswer : Sinces → ChoiceCall → Option (ℕ × ℕ) → Type 0
IsAnswer held (Set vid since) answer = answer ≡ None
IsAnswer held (Clear vid) answer = answer ≡ None
IsAnswer held (Oldest eligible) answer = IsChoice held eligible answer

-- one answer for each call
abbrev pub AreAnswers : Sinces → List ChoiceCall → List (Option (ℕ × ℕ)) → Type 0
AreAnswers held [] [] = Unit {0}
AreAnswers held [] (answer ∷ answers) = ⊥
AreAnswers held (call ∷ calls) [] = ⊥
AreAnswers held (call ∷ calls) (answer ∷ answers) = IsAnswer held call answer × AreAnswers (held_after held call) calls answers
