-- What the frames of a first round tell stays, whatever frames come after them.
use Rattle.std.proofs.Common.{◌≡◌, ℕ, zero, ◌+◌, ◌-◌, ◌*◌, ◌<◌, ◌≤◌, suc, Bool, true, false, cond, List, [], ◌∷◌, ◌++◌, length, length-append, ◌/◌, refl, sym, ◌∙◌, ap, arith, subst, inl, inr}
use Rattle.std.specs.Prelude.{Option, Some, None, nat_lt, ◌==◌}
use Rattle.std.proofs.lemmas.Bool.{ltb-true}
use Rattle.std.proofs.lemmas.List.{get_or_append_left}
use Rattle.std.proofs.Math.Nat.{suc-mul, mul-le-mul_right}
use Rattle.ftpp_base.specs.Lists.{each_below}
use Rattle.ftpp_base.specs.declared.element.Round.{Round}
use Rattle.ftpp_base.specs.declared.element.Round.TheVariants.{A1, B1}
use Rattle.two_round.proofs.Others.{IsSize}
use Rattle.frame_format.specs.Frames.{first_cell, reads_as}
use Rattle.flag_vote.specs.Flags.{Pattern, voted_flags}
use Rattle.scoreboard.specs.Choice.{scoreboard_decision, scoreboard_after}
use Rattle.element_core.specs.Cycle.{agreed_pattern}
use Rattle.trace_audit.specs.declared.told.Told.{Told}
use Rattle.trace_audit.specs.Known.{Known, Frames, slot_of, least_receiver, own_told, heard_told, round_told, pattern_told, decision_told}
use Rattle.trace_audit.specs.Trace.{frames_in, place_of, receiver_place}
use Rattle.trace_audit.specs.Links.{per_round, link_at, round_of_number}
use Rattle.trace_audit.specs.Told.{HoldsPatterns, HoldsPackets, HoldsTold, HoldsBefore, HoldsFor}
use Rattle.trace_audit.proofs.Rounds.{each_same}
use Rattle.trace_audit.proofs.CycleLaw.{least_by, two_there}

-- ---- places of a round

seat_by : (n s r : ℕ) (b : Bool) → nat_lt r s ≡ b → 1 < n → s < n → r < n → cond b r (r - 1) < n - 1
seat_by n s r true e some l m = let less = ltb-true r s e in omega arith
seat_by n s r false e some l m = omega arith

-- the place of any receiver in a round, also of one that is the sender
pub any_place : (n s r : ℕ) → IsSize n → s < n → r < n → s * (n - 1) + receiver_place s r < per_round n
any_place n s r size l m =
    let some = two_there n size in
    let seat = seat_by n s r (nat_lt r s) refl some l m in
    let most : suc s * (n - 1) ≤ n * (n - 1) = mul-le-mul_right (n - 1) (omega arith) in
    let more = suc-mul s (n - 1) in
    omega arith

-- it is before those of later rounds
pub in_first : (n s r : ℕ) → IsSize n → s < n → r < n → place_of n A1 s r < per_round n
in_first n s r size l m = let inside = any_place n s r size l m in omega arith

pub in_third : (n s r : ℕ) → IsSize n → s < n → r < n → place_of n B1 s r < 3 * per_round n
in_third n s r size l m = let inside = any_place n s r size l m in omega arith

-- ---- frames that are the same in a round

abbrev pub SameAt : ℕ → Frames → Frames → Round → Type 0
SameAt n one other round = (s r : ℕ) → s < n → r < n → one round s r ≡ other round s r

pub first_stays : (n : ℕ) (so_far more : List (List ℕ)) → IsSize n → per_round n ≤ length so_far → SameAt n (frames_in n (so_far ++ more)) (frames_in n so_far) A1
first_stays n so_far more size l s r a b = get_or_append_left so_far more [] (place_of n A1 s r) (let inside = in_first n s r size a b in omega arith)

pub third_stays : (n : ℕ) (so_far more : List (List ℕ)) → IsSize n → 3 * per_round n ≤ length so_far → SameAt n (frames_in n (so_far ++ more)) (frames_in n so_far) B1
third_stays n so_far more size l s r a b = get_or_append_left so_far more [] (place_of n B1 s r) (let inside = in_third n s r size a b in omega arith)

module _ (known : Known) (named : Option ℕ) (one other : Frames) (size : IsSize known.table.n) (there : (ne : ℕ) → named ≡ Some ne → ne < known.table.n) where
  abbrev n : ℕ
  n = known.table.n

  heard_by : (round : Round) (who : Option ℕ) → ((ne : ℕ) → who ≡ Some ne → ne < n) → SameAt n one other round → each_below n (heard_told known who one round) ≡ each_below n (heard_told known who other round)
  heard_by round None inside same = each_same n (heard_told known None one round) (heard_told known None other round) (λ i l. refl)
  heard_by round (Some f) inside same =
      each_same n (heard_told known (Some f) one round) (heard_told known (Some f) other round)
      (λ r l. ap (λ (bytes : List ℕ). first_cell (reads_as n (slot_of known round) f bytes)) (same f r (inside f refl) l))

  own_same : (round : Round) → SameAt n one other round → each_below n (own_told known one round) ≡ each_below n (own_told known other round)
  own_same round same =
      each_same n (own_told known one round) (own_told known other round)
      (λ s l. ap (λ (bytes : List ℕ). first_cell (reads_as n (slot_of known round) s bytes)) (same s (least_receiver s) l (least_by n s (s == 0) refl (two_there n size)).0))

  pub round_stays : (round : Round) → SameAt n one other round → round_told known named one round ≡ round_told known named other round
  unfolding round_told
  round_stays round same = λ i. record { faulty = named; own = own_same round same i; heard = heard_by round named there same i }

  pub pattern_stays : SameAt n one other A1 → pattern_told known named one ≡ pattern_told known named other
  unfolding pattern_told
  pattern_stays same = ap (agreed_pattern known.table) (round_stays A1 same)

  pub decision_stays : SameAt n one other A1 → decision_told known named one ≡ decision_told known named other
  unfolding decision_told
  decision_stays same = ap (λ (pattern : Pattern). scoreboard_decision known.table known.cycle (voted_flags known.table pattern) known.scoreboard) (pattern_stays same)

-- ---- what is kept of them

pub patterns_held : (n : ℕ) (known : Known) (named : Option ℕ) (one other : Frames) (told : Told n) → IsSize n → known.table.n ≡ n → ((ne : ℕ) → named ≡ Some ne → ne < n)
    → SameAt n other one A1 → HoldsPatterns n known named one told → HoldsPatterns n known named other told
patterns_held n known named one other told size elements there same h =
    let big : IsSize known.table.n = subst IsSize (sym elements) size in
    let inside : (ne : ℕ) → named ≡ Some ne → ne < known.table.n = subst (λ (k : ℕ). (ne : ℕ) → named ≡ Some ne → ne < k) (sym elements) there in
    let here : SameAt known.table.n other one A1 = subst (λ (k : ℕ). SameAt k other one A1) (sym elements) same in
    let pattern = pattern_stays known named other one big inside here in
    record {
      round = h.round ∙ sym (round_stays known named other one big inside A1 here);
      pattern = h.pattern ∙ sym pattern;
      decision = h.decision ∙ sym (decision_stays known named other one big inside here);
      after = h.after ∙ ap (λ (p : Pattern). scoreboard_after known.table known.cycle (voted_flags known.table p) known.scoreboard) (sym pattern);
      lines = h.lines;
      earlier = h.earlier;
    }

pub packets_held : (n : ℕ) (known : Known) (named : Option ℕ) (one other : Frames) (told : Told n) → IsSize n → known.table.n ≡ n → ((ne : ℕ) → named ≡ Some ne → ne < n)
    → SameAt n other one B1 → HoldsPackets n known named one told → HoldsPackets n known named other told
packets_held n known named one other told size elements there same h =
    let big : IsSize known.table.n = subst IsSize (sym elements) size in
    let inside : (ne : ℕ) → named ≡ Some ne → ne < known.table.n = subst (λ (k : ℕ). (ne : ℕ) → named ≡ Some ne → ne < k) (sym elements) there in
    let here : SameAt known.table.n other one B1 = subst (λ (k : ℕ). SameAt k other one B1) (sym elements) same in
    record { round = h.round ∙ sym (round_stays known named other one big inside B1 here) }

-- what was held before a frame is held with it
pub told_held : (n : ℕ) (known : Known) (named : Option ℕ) (so_far : List (List ℕ)) (frame : List ℕ) (told : Told n) → IsSize n → known.table.n ≡ n → ((ne : ℕ) → named ≡ Some ne → ne < n)
    → HoldsTold n known named so_far told → HoldsBefore n known named (so_far ++ frame ∷ []) told
told_held n known named so_far frame told size elements there h =
    let long = length-append so_far (frame ∷ []) in
    record {
      patterns = λ l.
          let m : per_round n ≤ length so_far = omega arith in
          patterns_held n known named (frames_in n so_far) (frames_in n (so_far ++ frame ∷ [])) told size elements there (first_stays n so_far (frame ∷ []) size m) (h.patterns m);
      packets = λ l.
          let m : 3 * per_round n ≤ length so_far = omega arith in
          packets_held n known named (frames_in n so_far) (frames_in n (so_far ++ frame ∷ [])) told size elements there (third_stays n so_far (frame ∷ []) size m) (h.packets m);
    }

-- what is held of an expected frame's round
pub held_for : (n place : ℕ) (known : Known) (named : Option ℕ) (frames : List (List ℕ)) (told : Told n) → IsSize n → length frames ≡ place + 1 → HoldsBefore n known named frames told
    → HoldsFor n (link_at n place).round known named (frames_in n frames) told
unfolding link_at
held_for n place known named frames told size long h = by (place / per_round n) refl where
  some : 0 < per_round n
  some = elim size as (λ _. 0 < per_round n) [ inl e ↦ subst (λ k. 0 < per_round k) (sym e) (omega arith) | inr e ↦ subst (λ k. 0 < per_round k) (sym e) (omega arith) ]

  -- so many rounds are whole
  rounds : (number : ℕ) → place / per_round n ≡ number → number * per_round n ≤ place
  rounds number e = elim size as (λ _. number * per_round n ≤ place) [
    | inl four ↦ subst (λ k. place / per_round k ≡ number → number * per_round k ≤ place) (sym four) (λ f. omega arith) e
    | inr five ↦ subst (λ k. place / per_round k ≡ number → number * per_round k ≤ place) (sym five) (λ f. omega arith) e
  ]

  at_least : (number : ℕ) → place / per_round n ≡ suc (suc (suc number)) → 3 * per_round n < length frames
  at_least number e =
      let all = rounds (suc (suc (suc number))) e in
      let most : 3 * per_round n ≤ suc (suc (suc number)) * per_round n = mul-le-mul_right (per_round n) (omega arith) in
      omega arith

  whole_one : (number : ℕ) → place / per_round n ≡ suc number → per_round n < length frames
  whole_one number e =
      let all = rounds (suc number) e in
      let more = suc-mul number (per_round n) in
      omega arith

  by : (number : ℕ) → place / per_round n ≡ number → HoldsFor n (round_of_number number) known named (frames_in n frames) told
  by zero e = tt
  by (suc zero) e = h.patterns (whole_one 0 e)
  by (suc (suc zero)) e = h.patterns (whole_one 1 e)
  by (suc (suc (suc number))) e = (h.patterns (whole_one (suc (suc number)) e), h.packets (at_least number e))
