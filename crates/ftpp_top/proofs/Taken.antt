-- The acts of a cycle, taken from those that are left.
use Rattle.std.proofs.Common.{◌≡◌, ℕ, ◌+◌, ◌*◌, ◌<◌, ◌≤◌, Bool, true, false, cond, eqb, List, [], ◌∷◌, ◌++◌, length, refl, ap, sym, subst, ◌∙◌, arith, append_assoc, append-nil, length-append, eq-eqb}
use Rattle.std.specs.Prelude.{Option, ◌-◌}
use Rattle.std.proofs.lemmas.Bool.{eqb-true, false≢true}
use Rattle.script_text.specs.Printing.{Within}
use Rattle.script_text.specs.Playable.{Ascend}
use Rattle.report_text.specs.PlayedCycle.{is_of_cycle}
use Rattle.packet_format.specs.declared.acts.Act.{Act}
use Rattle.ftpp_top.specs.Due.{acts_in, IsOrdered, IsApart}
use Rattle.ftpp_top.specs.Playing.{IsTaken}

-- ---- one entry more

entry_at : (acts : List (ℕ × Act)) (e : ℕ × Act) (c : ℕ) (b : Bool) → is_of_cycle c e ≡ b → acts_in (e ∷ acts) c ≡ cond b (e.1 ∷ acts_in acts c) (acts_in acts c)
entry_at acts e c true h = rw h refl
entry_at acts e c false h = rw h refl

pub entry_here : (acts : List (ℕ × Act)) (e : ℕ × Act) (c : ℕ) → e.0 ≡ c → acts_in (e ∷ acts) c ≡ e.1 ∷ acts_in acts c
entry_here acts e c same = entry_at acts e c true (eq-eqb e.0 c same)

apart : (a c : ℕ) (b : Bool) → eqb a c ≡ b → (a ≡ c → ⊥) → b ≡ false
apart a c true h ne = absurd (ne (eqb-true a c h))
apart a c false h ne = refl

pub entry_other : (acts : List (ℕ × Act)) (e : ℕ × Act) (c : ℕ) → (e.0 ≡ c → ⊥) → acts_in (e ∷ acts) c ≡ acts_in acts c
entry_other acts e c ne = entry_at acts e c false (apart e.0 c (eqb e.0 c) refl ne)

pub length-more : {A : Type 0} (xs : List A) (x : A) → length (xs ++ x ∷ []) ≡ length xs + 1
length-more [] x = refl
length-more (y ∷ xs) x = let ih = length-more xs x in omega (arith, ih)

-- ---- what is known between two acts
pub record IsDue (c : ℕ) (acts : List (ℕ × Act)) (row : List Act) (rest : List (ℕ × Act)) : Type 0 where
  pub ordered : IsOrdered c rest
  pub same : row ++ acts_in rest c ≡ acts_in acts c
  pub later : (k : ℕ) → c < k → acts_in rest k ≡ acts_in acts k
  pub count : length row + length rest ≡ length acts

pub due_starts : (c : ℕ) (acts : List (ℕ × Act)) → IsOrdered c acts → IsDue c acts [] acts
due_starts c acts h = record { ordered = h; same = refl; later = λ k l. refl; count = omega arith }

-- before the first cycle nothing is due
none_before : (acts : List (ℕ × Act)) (low k : ℕ) → IsOrdered low acts → k < low → acts_in acts k ≡ []
none_before [] low k h l = refl
none_before (entry ∷ acts) low k h l =
    let first : low ≤ entry.0 = h.0 in
    let past : k < entry.0 = omega arith in
    entry_other acts entry k (λ e. omega arith) ∙ none_before acts entry.0 k h.1 past

pub due_room : (c : ℕ) (acts : List (ℕ × Act)) (row : List Act) (entry : ℕ × Act) (more : List (ℕ × Act)) → IsDue c acts row (entry ∷ more) → entry.0 ≡ c → length (acts_in acts c) ≤ 80 → length row < 80
due_room c acts row entry more d e few =
    let same : row ++ (entry.1 ∷ acts_in more c) ≡ acts_in acts c = rw (← entry_here more entry c e) d.same in
    omega (arith, ap length same, length-append row (entry.1 ∷ acts_in more c), few)

pub due_more : (c : ℕ) (acts : List (ℕ × Act)) (row row' : List Act) (entry : ℕ × Act) (more : List (ℕ × Act)) → IsDue c acts row (entry ∷ more) → entry.0 ≡ c → row' ≡ row ++ entry.1 ∷ [] → IsDue c acts row' more
due_more c acts row row' entry more d e f =
    rw f (record {
      ordered = subst (λ (low : ℕ). IsOrdered low more) e d.ordered.1;
      same = append_assoc row (entry.1 ∷ []) (acts_in more c) ∙ (ap (λ (xs : List Act). row ++ xs) (sym (entry_here more entry c e)) ∙ d.same);
      later = λ k l. sym (entry_other more entry k (λ g. omega (arith, e))) ∙ d.later k l;
      count = omega (arith, length-more row entry.1, d.count);
    })

-- ---- what is due, where the next act is of a later cycle, and where none is left

pub due_stops : (c : ℕ) (acts : List (ℕ × Act)) (row : List Act) (entry : ℕ × Act) (more : List (ℕ × Act)) → IsDue c acts row (entry ∷ more) → (entry.0 ≡ c → ⊥) → IsTaken c acts row (entry ∷ more)
due_stops c acts row entry more d ne =
    let low : c ≤ entry.0 = d.ordered.0 in
    let past : c < entry.0 = omega arith in
    let none : acts_in (entry ∷ more) c ≡ [] = entry_other more entry c ne ∙ none_before more entry.0 c d.ordered.1 past in
    record {
      due = sym (append-nil row) ∙ (ap (λ (xs : List Act). row ++ xs) (sym none) ∙ d.same);
      ordered = (omega arith, d.ordered.1);
      later = d.later;
      count = d.count;
    }

pub due_ends : (c : ℕ) (acts : List (ℕ × Act)) (row : List Act) (rest : List (ℕ × Act)) → IsDue c acts row rest → rest ≡ [] → IsTaken c acts row rest
due_ends c acts row rest d e =
    let at_end : IsDue c acts row [] = subst (λ (xs : List (ℕ × Act)). IsDue c acts row xs) e d in
    rw e (record {
      due = sym (append-nil row) ∙ at_end.same;
      ordered = tt;
      later = at_end.later;
      count = at_end.count;
    })

-- the first of some, where there is one, is not below a number
abbrev pub FirstFrom : ℕ → List (ℕ × Option ℕ) → Type 0
FirstFrom low [] = Unit {0}
FirstFrom low (r ∷ rejoins) = low ≤ r.0

pub first_within : (low cycles : ℕ) (rejoins : List (ℕ × Option ℕ)) → Within (λ x. x.0) low cycles rejoins → FirstFrom low rejoins
first_within low cycles [] w = tt
first_within low cycles (r ∷ rejoins) w = w.0

after_false : (a b : ℕ) → eqb a b ≡ false → b ≤ a → b < a
after_false a b h l = let ne : (a ≡ b → ⊥) = λ e. absurd (false≢true (sym h ∙ eq-eqb a b e)) in omega (arith, ne, l)

-- ---- how many acts there are in all: at most 80 in each cycle

-- behind some acts of a cycle, that were counted already
abbrev pub IsCounted : List (ℕ × Act) → ℕ → Type 0
IsCounted acts cycles = (low seen : ℕ) → Within (λ x. x.0) low cycles acts → low < cycles → ((c : ℕ) → low < c → length (acts_in acts c) ≤ 80)
    → seen + length (acts_in acts low) ≤ 80 → seen + length acts ≤ 80 * (cycles - low)

one_counted : (e : ℕ × Act) (acts : List (ℕ × Act)) (cycles : ℕ) → IsCounted acts cycles → (low seen : ℕ) (b : Bool) → eqb e.0 low ≡ b → Within (λ x. x.0) low cycles (e ∷ acts) → low < cycles
    → ((c : ℕ) → low < c → length (acts_in (e ∷ acts) c) ≤ 80) → seen + length (acts_in (e ∷ acts) low) ≤ 80 → seen + length (e ∷ acts) ≤ 80 * (cycles - low)
one_counted e acts cycles all low seen true h w l few here =
    let same : e.0 ≡ low = eqb-true e.0 low h in
    let more : seen + length (e.1 ∷ acts_in acts low) ≤ 80 = subst (λ (xs : List Act). seen + length xs ≤ 80) (entry_here acts e low same) here in
    let rest = all low (seen + 1) (subst (λ (k : ℕ). Within (λ x. x.0) k cycles acts) same w.2) l
    (λ c m. subst (λ (xs : List Act). length xs ≤ 80) (entry_other acts e c (λ g. omega (arith, same, g, m))) (few c m)) (omega (arith, more)) in
    omega (arith, rest)
one_counted e acts cycles all low seen false h w l few here =
    let other : low < e.0 = after_false e.0 low h w.0 in
    let first : length (e.1 ∷ acts_in acts e.0) ≤ 80 = subst (λ (xs : List Act). length xs ≤ 80) (entry_here acts e e.0 refl) (few e.0 other) in
    let rest = all e.0 1 w.2 w.1
    (λ c m. subst (λ (xs : List Act). length xs ≤ 80) (entry_other acts e c (λ g. omega (arith, g, m))) (few c (omega (arith, other, m)))) (omega (arith, first)) in
    omega (arith, rest, other, here, w.1)

pub all_few : (acts : List (ℕ × Act)) (cycles : ℕ) → IsCounted acts cycles
all_few [] cycles low seen w l few here = omega arith
all_few (e ∷ acts) cycles low seen w l few here = one_counted e acts cycles (all_few acts cycles) low seen (eqb e.0 low) refl w l few here

-- ---- what a script keeps to

pub ordered_within : (low cycles : ℕ) (acts : List (ℕ × Act)) → Within (λ x. x.0) low cycles acts → IsOrdered low acts
ordered_within low cycles [] w = tt
ordered_within low cycles (e ∷ acts) w = (w.0, ordered_within e.0 cycles acts w.2)

pub apart_within : (low : ℕ) (rejoins : List (ℕ × Option ℕ)) (first : FirstFrom low rejoins) → Ascend rejoins → IsApart low rejoins
apart_within low [] first a = tt
apart_within low (r ∷ []) first a = (first, tt)
apart_within low (r ∷ s ∷ rejoins) first a = (first, apart_within (r.0 + 1) (s ∷ rejoins) (omega (arith, a.0.0)) a.1)
