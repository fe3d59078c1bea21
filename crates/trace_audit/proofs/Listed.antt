-- The frames of a cycle, listed in the order of a trace, are each at its place.
use Rattle.std.proofs.Common.{◌≡◌, ◌≢◌, ℕ, zero, suc, ◌+◌, ◌-◌, ◌*◌, ◌<◌, ◌≤◌, Bool, true, false, cond, List, [], ◌∷◌, ◌++◌, length, get_or, drop, refl, sym, ◌∙◌, ap, arith, length-append}
use Rattle.std.specs.Prelude.{nat_lt}
use Rattle.std.specs.List.{flat_map, range_with_len, AllByRecursion}
use Rattle.std.proofs.lemmas.Bool.{ltb-true, ltb-false}
use Rattle.std.proofs.lemmas.List.{get_or_append_left, length-map, get_or-map}
use Rattle.std.proofs.lemmas.List.Edits.{length-remove, get_or-remove_above, get_or-remove_below}
use Rattle.std.proofs.lemmas.List.FromFn.{length-range_with_len, get_or-range_with_len}
use Rattle.std.proofs.Math.Nat.{suc-mul, zero-mul, mul-le-mul_right}
use Rattle.ftpp_base.specs.Lists.{below, others}
use Rattle.ftpp_base.specs.declared.element.Round.{Round}
use Rattle.ftpp_base.specs.declared.element.Round.TheVariants.{A1, A2, B1, B2}
use Rattle.trace_audit.specs.Known.{Frames}
use Rattle.trace_audit.specs.Trace.{all_rounds, round_number, frames_by, frames_of_round, listed, per_cycle, receiver_place, place_of, frames_in}

-- ---- one list after another

-- what stands behind a list
behind : {A : Type 0} (xs ys : List A) (m k : ℕ) (d : A) → m ≡ length xs + k → get_or (xs ++ ys) m d ≡ get_or ys k d
behind [] ys m k d e = let same : m ≡ k = omega arith in ap (λ j. get_or ys j d) same
behind (x ∷ xs) ys zero k d e = let never : ⊥ = omega arith in absurd never
behind (x ∷ xs) ys (suc m) k d e = behind xs ys m k d (omega arith)

pub drop_behind : {A : Type 0} (xs ys : List A) (m : ℕ) → m ≡ length xs → drop m (xs ++ ys) ≡ ys
drop_behind [] ys m e = ap (λ j. drop j ys) e
drop_behind (x ∷ xs) ys zero e = let never : ⊥ = omega arith in absurd never
drop_behind (x ∷ xs) ys (suc m) e = drop_behind xs ys m (omega arith)

-- lists of one length, one after another, have that length so many times
pub flat_length : {A B : Type 0} (f : A → List B) (w : ℕ) (xs : List A) → AllByRecursion (λ x. length (f x) ≡ w) xs → length (flat_map f xs) ≡ length xs * w
flat_length f w [] a = sym (zero-mul w)
flat_length f w (x ∷ xs) a =
    let rest = flat_length f w xs a.1 in
    let both = length-append (f x) (flat_map f xs) in
    let more = suc-mul (length xs) w in
    let one = a.0 in
    omega arith

-- and each entry is at its place
flat_at : {A B : Type 0} (f : A → List B) (w : ℕ) (xs : List A) (i j m : ℕ) (x : A) (d : B) → AllByRecursion (λ y. length (f y) ≡ w) xs → i < length xs → get_or xs i x ≡ x → j < w → m ≡ i * w + j
    → get_or (flat_map f xs) m d ≡ get_or (f x) j d
flat_at f w [] i j m x d a l e k at = let never : ⊥ = omega arith in absurd never
flat_at f w (y ∷ ys) zero j m x d a l e k at =
    let none = zero-mul w in
    let one = a.0 in
    let same : m ≡ j = omega arith in
    ap (λ p. get_or (f y ++ flat_map f ys) p d) same ∙ get_or_append_left (f y) (flat_map f ys) d j (omega arith) ∙ ap (λ z. get_or (f z) j d) e
flat_at f w (y ∷ ys) (suc i) j m x d a l e k at =
    let more = suc-mul i w in
    let one = a.0 in
    behind (f y) (flat_map f ys) m (i * w + j) d (omega arith) ∙ flat_at f w ys i j (i * w + j) x d a.1 (omega arith) e k refl

-- what is so of each number below n
all_from : (P : ℕ → Type 0) (a n : ℕ) → ((k : ℕ) → k < a + n → P k) → AllByRecursion P (range_with_len a n)
all_from P a zero h = tt
all_from P a (suc n) h = (h a (omega arith), all_from P (a + 1) n (λ k l. h k (omega arith)))

-- ---- the frames of one element

-- an element sends to all others
one_length : (n : ℕ) (frames : Frames) (round : Round) (sender : ℕ) → sender < n → length (frames_by n frames round sender) ≡ n - 1
one_length n frames round sender l =
    let long = length-range_with_len 0 n in
    let less = length-remove (below n) sender (omega arith) in
    let same = length-map (others n sender) (frames round sender) in
    omega arith

receiver_by : (n : ℕ) (frames : Frames) (round : Round) (s r : ℕ) (b : Bool) → nat_lt r s ≡ b → s < n → r < n → s ≢ r
    → get_or (others n s) (cond b r (r - 1)) r ≡ r
receiver_by n frames round s r true e l m away =
    let long = length-range_with_len 0 n in
    let less = ltb-true r s e in
    get_or-remove_below (below n) s r r less (omega arith) ∙ (let at = get_or-range_with_len 0 n r r m in omega arith)
receiver_by n frames round s r false e l m away =
    let long = length-range_with_len 0 n in
    let most = ltb-false r s e in
    let more : s < r = grind arith in
    let at = get_or-range_with_len 0 n (r - 1 + 1) r (omega arith) in
    get_or-remove_above (below n) s r (r - 1) (omega arith) (omega arith) ∙ omega arith

-- the place of a receiver is among the others
place_by : (n s r : ℕ) (b : Bool) → nat_lt r s ≡ b → s < n → r < n → s ≢ r → cond b r (r - 1) < n - 1
place_by n s r true e l m away = let less = ltb-true r s e in omega arith
place_by n s r false e l m away = let most = ltb-false r s e in let more : s < r = grind arith in omega arith

pub place_less : (n s r : ℕ) → s < n → r < n → s ≢ r → receiver_place s r < n - 1
place_less n s r l m away = place_by n s r (nat_lt r s) refl l m away

others_length : (n s : ℕ) → s < n → length (others n s) ≡ n - 1
others_length n s l =
    let long = length-range_with_len 0 n in
    let less = length-remove (below n) s (omega arith) in
    omega arith

receiver_at : (n : ℕ) (frames : Frames) (round : Round) (s r : ℕ) → s < n → r < n → s ≢ r → get_or (frames_by n frames round s) (receiver_place s r) [] ≡ frames round s r
receiver_at n frames round s r l m away =
    let less = place_less n s r l m away in
    let long = others_length n s l in
    get_or-map (frames round s) (others n s) (receiver_place s r) r [] (omega arith)
    ∙ ap (frames round s) (receiver_by n frames round s r (nat_lt r s) refl l m away)

-- ---- the frames of a round

round_all : (n : ℕ) (frames : Frames) (round : Round) → AllByRecursion (λ s. length (frames_by n frames round s) ≡ n - 1) (below n)
round_all n frames round = all_from (λ s. length (frames_by n frames round s) ≡ n - 1) 0 n (λ s l. one_length n frames round s (omega arith))

round_length : (n : ℕ) (frames : Frames) (round : Round) → length (frames_of_round n frames round) ≡ n * (n - 1)
round_length n frames round = flat_length (frames_by n frames round) (n - 1) (below n) (round_all n frames round) ∙ ap (λ k. k * (n - 1)) (length-range_with_len 0 n)

round_at : (n : ℕ) (frames : Frames) (round : Round) (s r : ℕ) → s < n → r < n → s ≢ r
    → get_or (frames_of_round n frames round) (s * (n - 1) + receiver_place s r) [] ≡ frames round s r
round_at n frames round s r l m away =
    let long = length-range_with_len 0 n in
    flat_at (frames_by n frames round) (n - 1) (below n) s (receiver_place s r) (s * (n - 1) + receiver_place s r) s [] (round_all n frames round) (omega arith)
    (let at = get_or-range_with_len 0 n s s l in omega arith) (place_less n s r l m away) refl
    ∙ receiver_at n frames round s r l m away

-- ---- the frames of a cycle

all_lengths : (n : ℕ) (frames : Frames) → AllByRecursion (λ round. length (frames_of_round n frames round) ≡ n * (n - 1)) all_rounds
all_lengths n frames = (round_length n frames A1, (round_length n frames A2, (round_length n frames B1, (round_length n frames B2, tt))))

-- as many as a cycle has
pub listed_length : (n : ℕ) (frames : Frames) → length (listed n frames) ≡ per_cycle n
listed_length n frames = flat_length (frames_of_round n frames) (n * (n - 1)) all_rounds (all_lengths n frames)

round_there : (round : Round) → (round_number round < length all_rounds) × (get_or all_rounds (round_number round) round ≡ round)
round_there A1 = (omega arith, refl)
round_there A2 = (omega arith, refl)
round_there B1 = (omega arith, refl)
round_there B2 = (omega arith, refl)

-- the place of a sender and a receiver is in the round
pub in_round : (n s r : ℕ) → s < n → r < n → s ≢ r → s * (n - 1) + receiver_place s r < n * (n - 1)
in_round n s r l m away =
    let less = place_less n s r l m away in
    let most : suc s * (n - 1) ≤ n * (n - 1) = mul-le-mul_right (n - 1) (omega arith) in
    let more = suc-mul s (n - 1) in
    omega arith

listed_at : (n : ℕ) (frames : Frames) (round : Round) (s r : ℕ) → s < n → r < n → s ≢ r → get_or (listed n frames) (place_of n round s r) [] ≡ frames round s r
listed_at n frames round s r l m away =
    let there = round_there round in
    flat_at (frames_of_round n frames) (n * (n - 1)) all_rounds (round_number round) (s * (n - 1) + receiver_place s r) (place_of n round s r) round []
    (all_lengths n frames) there.0 there.1 (in_round n s r l m away) refl
    ∙ round_at n frames round s r l m away

-- its place is in the cycle
pub in_cycle : (n : ℕ) (round : Round) (s r : ℕ) → s < n → r < n → s ≢ r → place_of n round s r < per_cycle n
in_cycle n A1 s r l m away = let inside = in_round n s r l m away in omega arith
in_cycle n A2 s r l m away = let inside = in_round n s r l m away in omega arith
in_cycle n B1 s r l m away = let inside = in_round n s r l m away in omega arith
in_cycle n B2 s r l m away = let inside = in_round n s r l m away in omega arith

-- Of a list that begins with the frames of a cycle, these are the frames of its first cycle.
pub frames_in_listed : (n : ℕ) (frames : Frames) (more : List (List ℕ)) (round : Round) (s r : ℕ) → s < n → r < n → s ≢ r → frames_in n (listed n frames ++ more) round s r ≡ frames round s r
frames_in_listed n frames more round s r l m away =
    let long = listed_length n frames in
    let inside = in_cycle n round s r l m away in
    get_or_append_left (listed n frames) more [] (place_of n round s r) (omega arith) ∙ listed_at n frames round s r l m away
