-- Contents that may be told, step by step.
use Rattle.std.proofs.Common.{◌≡◌, ℕ, ◌+◌, ◌≤◌, List, [], ◌++◌, take, drop, length, Option, Some, None, refl, ap, sym, ◌∙◌, append_assoc, append-nil, arith}
use Rattle.std.proofs.Common.{◌-◌, length-drop}
use Rattle.std.proofs.lemmas.List.{take_rest, take_at, take-append-drop, drop-drop, length-take-le}
use Rattle.ftpp_outside.specs.Told.{Gives, Adds}

pub gives_none : (s : Option (List ℕ)) → Gives s [] s
gives_none None = tt
gives_none (Some xs) = refl

pub gives_both : (s t u : Option (List ℕ)) (xs ys zs : List ℕ) → Gives s xs t → Gives t ys u → zs ≡ xs ++ ys → Gives s zs u
gives_both None t u xs ys zs h k e = tt
gives_both (Some a) None u xs ys zs h k e = absurd h
gives_both (Some a) (Some b) None xs ys zs h k e = absurd k
gives_both (Some a) (Some b) (Some c) xs ys zs h k e = h ∙ (ap (λ us. xs ++ us) k ∙ (sym (append_assoc xs ys c) ∙ ap (λ us. us ++ c) (sym e)))

pub adds_none : (s : Option (List ℕ)) → Adds s [] s
adds_none None = tt
adds_none (Some xs) = sym (append-nil xs)

pub adds_both : (s t u : Option (List ℕ)) (xs ys zs : List ℕ) → Adds s xs t → Adds t ys u → zs ≡ xs ++ ys → Adds s zs u
adds_both None t u xs ys zs h k e = tt
adds_both (Some a) None u xs ys zs h k e = absurd h
adds_both (Some a) (Some b) None xs ys zs h k e = absurd k
adds_both (Some a) (Some b) (Some c) xs ys zs h k e = k ∙ (ap (λ us. us ++ ys) h ∙ (append_assoc a xs ys ∙ ap (λ us. a ++ us) (sym e)))

-- the next bytes, where they are copied to the front of a buffer
pub next_bytes : (xs into copied : List ℕ) (at n : ℕ) → copied ≡ take n (take (length xs - at) (drop at xs)) → n ≤ length xs - at
    → drop at xs ≡ take n (copied ++ drop n into) ++ drop (at + n) xs
next_bytes xs into copied at n e l =
    let whole : take (length xs - at) (drop at xs) ≡ drop at xs = take_rest xs at in
    let f : copied ≡ take n (drop at xs) = e ∙ ap (λ ys. take n ys) whole in
    let wide : length copied ≡ n = ap length f ∙ length-take-le n (drop at xs) (omega (arith, length-drop at xs)) in
    sym (ap (λ ys. ys ++ drop (at + n) xs) (take_at copied (drop n into) n wide ∙ f) ∙ (ap (λ ys. take n (drop at xs) ++ ys) (sym (drop-drop n at xs)) ∙ take-append-drop n (drop at xs)))
