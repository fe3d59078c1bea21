-- The best of the groups below a number, one number at a time.
use Rattle.std.proofs.Common.{◌≡◌, ℕ, ◌+◌, ◌<◌, ◌≤◌, true, false, List, Bool, cond, refl, arith, sym, ◌∙◌, ap, inl, inr, length, replicate, zero, suc}
use Rattle.std.specs.Prelude.{Option, Some, None, nat_lt, nat_le}
use Rattle.std.proofs.lemmas.Bool.{lt-ltb, le-ltb, leb-true, leb-false, cond-true, cond-false, cases_lt, cases_eq}
use Rattle.std.proofs.lemmas.List.{get_or_past}
use Rattle.ftpp_base.specs.Vids.{has_vid}
use Rattle.sender_choice.specs.Sinces.{Sinces, IsOldest, IsChoice}
use Rattle.sender_choice.specs.Scan.{scanned, older_with}
use Rattle.sender_choice.proofs.Choices.{choice_alike}

-- what is held of the groups below a number
abbrev pub held_below : ℕ → Sinces → Sinces
held_below k held vid = cond (nat_lt vid k) (held vid) None

-- below the number it is held
below_it : (k vid : ℕ) (held : Sinces) → vid < k → held_below k held vid ≡ held vid
below_it k vid held l = cond-true (nat_lt vid k) (held vid) None (lt-ltb vid k l)

-- from the number on nothing is
past_it : (k vid : ℕ) (held : Sinces) → k ≤ vid → held_below k held vid ≡ None
past_it k vid held l = cond-false (nat_lt vid k) (held vid) None (le-ltb vid k l)

-- a group that is held below a number is below it
is_below : (k vid since : ℕ) (held : Sinces) → held_below k held vid ≡ Some since → vid < k
is_below k vid since held e = elim (cases_lt vid k) [ inl l ↦ l | inr l ↦ let gone = past_it k vid held l in cc ]

-- a number more makes a difference at that number only
unless_it : (k vid : ℕ) (held : Sinces) → (vid ≡ k → ⊥) → held_below (k + 1) held vid ≡ held_below k held vid
unless_it k vid held ne = elim (cases_lt vid k) [
  | inl l ↦ below_it (k + 1) vid held (omega arith) ∙ sym (below_it k vid held l)
  | inr l ↦ past_it (k + 1) vid held (omega arith) ∙ sym (past_it k vid held l)
]

-- at the number itself
at_it : (k : ℕ) (held : Sinces) → held_below (k + 1) held k ≡ held k
at_it k held = below_it (k + 1) k held (omega arith)

-- a group that is not eligible makes no difference
pub choice_skips : (k : ℕ) (held : Sinces) (eligible : List Bool) (best : Option (ℕ × ℕ)) → has_vid eligible k ≡ false
    → IsChoice (held_below k held) eligible best → IsChoice (held_below (k + 1) held) eligible best
choice_skips k held eligible best out c =
    choice_alike (held_below k held) (held_below (k + 1) held) eligible best (λ vid h. unless_it k vid held (λ e. let wrong = ap (has_vid eligible) e in cc)) c

-- a group that is not held makes none, either
skips_none : (k : ℕ) (held : Sinces) (eligible : List Bool) (best : Option (ℕ × ℕ)) → held k ≡ None
    → IsChoice (held_below k held) eligible best → IsChoice (held_below (k + 1) held) eligible best
skips_none k held eligible best gone c = choice_alike (held_below k held) (held_below (k + 1) held) eligible best (λ vid h. same vid) c where
  same : (vid : ℕ) → held_below (k + 1) held vid ≡ held_below k held vid
  same vid = elim (cases_eq vid k) [
    | inl e ↦ ap (held_below (k + 1) held) e ∙ at_it k held ∙ gone ∙ sym (ap (held_below k held) e ∙ past_it k k held (omega arith))
    | inr ne ↦ unless_it k vid held ne
  ]

-- the first group that is held and eligible
first_one : (k since : ℕ) (held : Sinces) (eligible : List Bool) → has_vid eligible k ≡ true → held k ≡ Some since
    → IsChoice (held_below k held) eligible None → IsOldest (held_below (k + 1) held) eligible k since
first_one k since held eligible fits here c = record {
  held_since = at_it k held ∙ here;
  may_be_chosen = fits;
  least = λ vid later e h. elim (cases_eq vid k) [
    | inl same ↦ let x = ap (held_below (k + 1) held) same in let y = at_it k held in let s : Some since ≡ Some later = cc in
        let t : since ≡ later = cc in inr (t, omega arith)
    | inr ne ↦ let x = unless_it k vid held ne in let y = c vid h in cc
  ];
}

-- the best so far stays the best
stays_best : (k since : ℕ) (held : Sinces) (eligible : List Bool) (best : ℕ × ℕ) → held k ≡ Some since → best.1 ≤ since
    → IsOldest (held_below k held) eligible best.0 best.1 → IsOldest (held_below (k + 1) held) eligible best.0 best.1
stays_best k since held eligible best here l c =
    let low = is_below k best.0 best.1 held c.held_since in record {
      held_since = unless_it k best.0 held (λ e. omega arith) ∙ c.held_since;
      may_be_chosen = c.may_be_chosen;
      least = λ vid later e h. elim (cases_eq vid k) [
        | inl same ↦ let x = ap (held_below (k + 1) held) same in let y = at_it k held in let s : Some since ≡ Some later = cc in
            let t : since ≡ later = cc in elim (cases_lt best.1 later) [ inl less ↦ inl less | inr more ↦ inr ((omega arith), (omega arith)) ]
        | inr ne ↦ c.least vid later (sym (unless_it k vid held ne) ∙ e) h
      ];
    }

-- a group that waits longer is the best from then on
new_best : (k since : ℕ) (held : Sinces) (eligible : List Bool) (best : ℕ × ℕ) → has_vid eligible k ≡ true → held k ≡ Some since → since < best.1
    → IsOldest (held_below k held) eligible best.0 best.1 → IsOldest (held_below (k + 1) held) eligible k since
new_best k since held eligible best fits here l c = record {
  held_since = at_it k held ∙ here;
  may_be_chosen = fits;
  least = λ vid later e h. elim (cases_eq vid k) [
    | inl same ↦ let x = ap (held_below (k + 1) held) same in let y = at_it k held in let s : Some since ≡ Some later = cc in
        let t : since ≡ later = cc in inr (t, omega arith)
    | inr ne ↦ elim (c.least vid later (sym (unless_it k vid held ne) ∙ e) h) [ inl less ↦ inl (omega arith) | inr more ↦ let m = more.0 in inl (omega arith) ]
  ];
}

-- by whether the best so far waits longer
best_by : (b : Bool) (k since : ℕ) (held : Sinces) (eligible : List Bool) (best : ℕ × ℕ) → nat_le best.1 since ≡ b → has_vid eligible k ≡ true → held k ≡ Some since
    → IsOldest (held_below k held) eligible best.0 best.1 → IsChoice (held_below (k + 1) held) eligible (cond b (Some best) (Some (k, since)))
best_by true k since held eligible best e fits here c = stays_best k since held eligible best here (leb-true best.1 since e) c
best_by false k since held eligible best e fits here c = new_best k since held eligible best fits here (leb-false best.1 since e) c

-- by what is held at the number
choice_by : (o : Option ℕ) (k : ℕ) (held : Sinces) (eligible : List Bool) (best : Option (ℕ × ℕ)) → held k ≡ o → has_vid eligible k ≡ true
    → IsChoice (held_below k held) eligible best → IsChoice (held_below (k + 1) held) eligible (older_with best k o)
choice_by None k held eligible best here fits c = skips_none k held eligible best here c
choice_by (Some since) k held eligible None here fits c = first_one k since held eligible fits here c
choice_by (Some since) k held eligible (Some best) here fits c = best_by (nat_le best.1 since) k since held eligible best refl fits here c

-- an eligible group is looked at
pub choice_looks : (k : ℕ) (held : Sinces) (eligible : List Bool) (best : Option (ℕ × ℕ)) → has_vid eligible k ≡ true
    → IsChoice (held_below k held) eligible best → IsChoice (held_below (k + 1) held) eligible (older_with best k (held k))
choice_looks k held eligible best fits c = choice_by (held k) k held eligible best refl fits c

-- before the first number nothing is held
pub choice_begins : (held : Sinces) (eligible : List Bool) → IsChoice (held_below 0 held) eligible None
choice_begins held eligible vid h = past_it 0 vid held (omega arith)

-- there is no place past the end
past_end : (places : List (Option ℕ)) (vid : ℕ) → length places ≤ vid → scanned places vid ≡ None
past_end places vid l = get_or_past places vid None l

-- after the last number all are looked at
pub choice_ends : (places : List (Option ℕ)) (eligible : List Bool) (best : Option (ℕ × ℕ)) (n : ℕ) → length places ≡ n
    → IsChoice (held_below n (scanned places)) eligible best → IsChoice (scanned places) eligible best
choice_ends places eligible best n width c =
    choice_alike (held_below n (scanned places)) (scanned places) eligible best (λ vid h. elim (cases_lt vid n) [
      | inl l ↦ sym (below_it n vid (scanned places) l)
      | inr l ↦ past_end places vid (omega arith) ∙ sym (past_it n vid (scanned places) l)
    ]) c

-- places that are all empty hold nothing
pub empty_places : (n vid : ℕ) → scanned (replicate n None) vid ≡ None
empty_places zero vid = refl
empty_places (suc n) zero = refl
empty_places (suc n) (suc vid) = empty_places n vid
