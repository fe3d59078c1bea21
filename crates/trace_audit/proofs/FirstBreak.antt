-- Frame after frame: a trace of whole cycles has no frame that is not awaited exactly where it follows, and the first one is
-- where it breaks.
use Rattle.std.proofs.Common.{◌≡◌, ◌≢◌, ℕ, zero, suc, ◌+◌, ◌-◌, ◌*◌, ◌/◌, ◌%◌, ◌<◌, ◌≤◌, Bool, true, false, cond, List, [], ◌∷◌, ◌++◌, length, take, drop, get_or, refl, sym, ◌∙◌, ap, arith, subst, ◌⊎◌, inl, inr, length-drop}
use Rattle.std.specs.Prelude.{Option, Some, None, ◌||◌, ◌==◌}
use Rattle.std.proofs.lemmas.Bool.{cases_lt, or_parts, eq-eqb, ne_eqb}
use Rattle.std.proofs.lemmas.List.{get_or-take, take_more, drop_more, length-take-le}
use Rattle.std.proofs.Math.Nat.{suc-mul, zero-mul, mul-le-mul_right}
use Rattle.ftpp_base.specs.Lists.{is_this}
use Rattle.ftpp_base.specs.declared.element.Round.{Round}
use Rattle.two_round.proofs.Others.{IsSize}
use Rattle.config_table.specs.Table.{TableValue}
use Rattle.config_table.proofs.ValidTable.{size-valid}
use Rattle.table_update.specs.declared.Update.{Update}
use Rattle.table_update.specs.declared.Applied.{Applied}
use Rattle.table_update.specs.declared.Applied.TheVariants as applied_variant
use Rattle.table_update.specs.Updates.{applied}
use Rattle.element_core.proofs.Sound.{size-table_after}
use Rattle.trace_audit.specs.declared.links.Link.{Link}
use Rattle.trace_audit.specs.Known.{Known, Frames, known_first, known_by, known_with, known_after, known_served, update_told, is_expected, AreExpected}
use Rattle.trace_audit.specs.Trace.{per_cycle, place_of, frames_in, Follows, FollowsFrom, Breaks, BreaksFrom, IsFirstUnexpected}
use Rattle.trace_audit.specs.Links.{link_at}
use Rattle.trace_audit.specs.Progress.{Progress, progress_first, passes_at, is_awaited, progress_after, progress_with, first_break}
use Rattle.trace_audit.specs.Laws.{AlwaysOne}
use Rattle.trace_audit.proofs.Listed.{in_cycle}
use Rattle.trace_audit.proofs.Earlier.{looks_back, alike_known}
use Rattle.trace_audit.proofs.Places.{IsLink, link_there, link_back}

-- ---- one cycle

-- The element that is named, if one is, is there.
abbrev pub IsThere : ℕ → Option ℕ → Type 0
IsThere n named = (ne : ℕ) → named ≡ Some ne → ne < n

module _ (known : Known) (named : Option ℕ) (trace : List (List ℕ)) (size : IsSize known.table.n) (there : IsThere known.table.n named) (whole : per_cycle known.table.n ≤ length trace) where
  abbrev n : ℕ
  n = known.table.n

  abbrev frames : Frames
  frames = frames_in n trace

  -- whether the frame at a place passes
  abbrev passes : ℕ → Bool
  passes place = passes_at known named frames (link_at n place)

  -- the frames up to a place, and one more
  abbrev up_to : ℕ → Frames
  up_to place = frames_in n (take (place + 1) trace)

  alike : (place : ℕ) (round : Round) (s r : ℕ) → place_of n round s r ≤ place → up_to place round s r ≡ frames round s r
  alike place round s r l = get_or-take (place + 1) trace (place_of n round s r) [] (omega arith)

  passes_by : (place : ℕ) (link : Link) (b : Bool) → IsLink n place link → is_this named link.from ≡ b → passes_at known named (up_to place) link ≡ passes_at known named frames link
  passes_by place link true is e = ap (λ (c : Bool). c || is_expected known named (up_to place) link.round link.from link.to) e ∙ sym (ap (λ (c : Bool). c || is_expected known named frames link.round link.from link.to) e)
  passes_by place link false is e =
      ap (λ (c : Bool). is_this named link.from || c)
      (looks_back known named (up_to place) frames link.round link.from link.to size there is.from is.to is.another e
      (λ round s r l m away before. alike place round s r (let at = is.place in omega arith)))

  passes_here : (place : ℕ) → place < per_cycle n → passes_at known named (up_to place) (link_at n place) ≡ passes place
  passes_here place l = let is = link_there n place size l in passes_by place (link_at n place) (is_this named (link_at n place).from) is refl

  -- after the frames before a place
  abbrev before : ℕ → Progress
  before place = record { known = known; named = named; so_far = take place trace }

  abbrev left_from : ℕ → ℕ → Option ℕ
  left_from base place = first_break (before place) (base + place) (drop place trace)

  abbrev frame_of : ℕ → List ℕ
  frame_of place = get_or trace place []

  taken : (place : ℕ) → place < per_cycle n → take place trace ++ frame_of place ∷ [] ≡ take (place + 1) trace
  taken place l = sym (take_more trace place [] (omega arith))

  awaited_is : (place : ℕ) → place < per_cycle n → is_awaited (before place) (frame_of place) ≡ passes place
  unfolding is_awaited
  awaited_is place l =
      (λ i. passes_at known named (frames_in n (taken place l i)) (link_at n (length-take-le place trace (omega arith) i)))
      ∙ passes_here place l

  -- what is known after the cycle
  abbrev pub next_cycle : Progress
  next_cycle = record { known = known_after known named frames; named = named; so_far = [] }

  after_is : (place : ℕ) → place < per_cycle n → progress_after (before place) (frame_of place) ≡ progress_with known named (take (place + 1) trace)
  unfolding progress_after
  after_is place l = ap (progress_with known named) (taken place l)

  -- inside the cycle
  goes_on : (place : ℕ) → place + 1 < per_cycle n → progress_after (before place) (frame_of place) ≡ before (place + 1)
  goes_on place l =
      let long : length (take (place + 1) trace) ≡ place + 1 = length-take-le (place + 1) trace (omega arith) in
      let short : (length (take (place + 1) trace) == per_cycle n) ≡ false = ne_eqb (length (take (place + 1) trace)) (per_cycle n) (λ e. let never : ⊥ = omega arith in never) in
      let all : List (List ℕ) = take (place + 1) trace in
      let done : Progress = record { known = known_after known named (frames_in n all); named = named; so_far = [] } in
      after_is place (omega arith) ∙ ap (λ (b : Bool). cond b done (before (place + 1))) short

  -- and at its end
  ends : (place : ℕ) → place + 1 ≡ per_cycle n → progress_after (before place) (frame_of place) ≡ next_cycle
  ends place e =
      let all : List (List ℕ) = take (place + 1) trace in
      let long : length (take (place + 1) trace) ≡ place + 1 = length-take-le (place + 1) trace (omega arith) in
      let full : (length (take (place + 1) trace) == per_cycle n) ≡ true = eq-eqb (length (take (place + 1) trace)) (per_cycle n) (omega arith) in
      let done : Progress = record { known = known_after known named (frames_in n all); named = named; so_far = [] } in
      let same = alike_known known named (frames_in n all) frames size there
      (λ round s r l m away. alike place round s r (let inside = in_cycle n round s r l m away in omega arith)) in
      after_is place (omega arith) ∙ ap (λ (b : Bool). cond b done (record { known = known; named = named; so_far = all })) full
      ∙ ap (λ (k : Known). let p : Progress = record { known = k; named = named; so_far = [] } in p) same

  -- one frame
  abbrev later : ℕ → ℕ → Option ℕ
  later base place = first_break (progress_after (before place) (frame_of place)) (base + place + 1) (drop (place + 1) trace)

  step_is : (base place : ℕ) → place < per_cycle n → left_from base place ≡ cond (passes place) (later base place) (Some (base + place))
  step_is base place l =
      ap (first_break (before place) (base + place)) (drop_more trace place [] (omega arith))
      ∙ ap (λ (b : Bool). cond b (later base place) (Some (base + place))) (awaited_is place l)

  -- All frames of the cycle pass.
  pub record PassesAll (base : ℕ) (found : Option ℕ) : Type 0 where
    pub all : (place : ℕ) → place < per_cycle n → passes place ≡ true
    pub rest : found ≡ first_break next_cycle (base + per_cycle n) (drop (per_cycle n) trace)

  -- One is the first that does not.
  pub record FailsAt (base : ℕ) (found : Option ℕ) : Type 0 where
    pub place : ℕ
    pub inside : place < per_cycle n
    pub fails : passes place ≡ false
    pub earlier : (k : ℕ) → k < place → passes k ≡ true
    pub here : found ≡ Some (base + place)

  abbrev pub Outcome : ℕ → Option ℕ → Type 0
  Outcome base found = PassesAll base found ⊎ FailsAt base found

  more_pass : (place : ℕ) → ((k : ℕ) → k < place → passes k ≡ true) → passes place ≡ true → (k : ℕ) → k < place + 1 → passes k ≡ true
  more_pass place earlier here k l = by (cases_lt k place) where
    by : (k < place) ⊎ (place ≤ k) → passes k ≡ true
    by (inl m) = earlier k m
    by (inr m) = let same : k ≡ place = omega arith in ap passes same ∙ here

  found_at : (base place : ℕ) → place < per_cycle n → passes place ≡ false → ((k : ℕ) → k < place → passes k ≡ true) → Outcome base (left_from base place)
  found_at base place l e earlier = inr (record {
    place = place;
    inside = l;
    fails = e;
    earlier = earlier;
    here = step_is base place l ∙ ap (λ (b : Bool). cond b (later base place) (Some (base + place))) e;
  })

  passed : (base place : ℕ) → place < per_cycle n → passes place ≡ true → left_from base place ≡ later base place
  passed base place l e = step_is base place l ∙ ap (λ (b : Bool). cond b (later base place) (Some (base + place))) e

  last_passed : (base place : ℕ) → place + 1 ≡ per_cycle n → passes place ≡ true → ((k : ℕ) → k < place → passes k ≡ true) → Outcome base (left_from base place)
  last_passed base place at e earlier =
      let number : base + place + 1 ≡ base + per_cycle n = omega arith in
      inl (record {
        all = λ k l. more_pass place earlier e k (omega arith);
        rest = passed base place (omega arith) e
            ∙ (λ i. first_break (ends place at i) (number i) (drop (at i) trace));
      })

  next_passed : (base place : ℕ) → place + 1 < per_cycle n → passes place ≡ true → left_from base place ≡ left_from base (place + 1)
  next_passed base place l e =
      let number : base + place + 1 ≡ base + (place + 1) = omega arith in
      passed base place (omega arith) e ∙ (λ i. first_break (goes_on place l i) (number i) (drop (place + 1) trace))

  go_by : (place base : ℕ) (b : Bool) → passes place ≡ b → place + 1 < per_cycle n → ((k : ℕ) → k < place → passes k ≡ true)
      → (((k : ℕ) → k < place + 1 → passes k ≡ true) → Outcome base (left_from base (place + 1))) → Outcome base (left_from base place)
  go_by place base true e l earlier more = subst (Outcome base) (sym (next_passed base place l e)) (more (more_pass place earlier e))
  go_by place base false e l earlier more = found_at base place (omega arith) e earlier

  end_by : (place base : ℕ) (b : Bool) → passes place ≡ b → place + 1 ≡ per_cycle n → ((k : ℕ) → k < place → passes k ≡ true) → Outcome base (left_from base place)
  end_by place base true e at earlier = last_passed base place at e earlier
  end_by place base false e at earlier = found_at base place (omega arith) e earlier

  cycle_from : (left place base : ℕ) → place + suc left ≡ per_cycle n → ((k : ℕ) → k < place → passes k ≡ true) → Outcome base (left_from base place)
  cycle_from zero place base at earlier = end_by place base (passes place) refl (omega arith) earlier
  cycle_from (suc left) place base at earlier =
      go_by place base (passes place) refl (omega arith) earlier (λ more. cycle_from left (place + 1) base (omega arith) more)

  -- the frames of a cycle, from the first on
  pub cycle_outcome : (base : ℕ) → 0 < per_cycle n → Outcome base (first_break (record { known = known; named = named; so_far = [] }) base trace)
  cycle_outcome base some =
      let number : base + 0 ≡ base = omega arith in
      subst (λ (k : ℕ). Outcome base (first_break (record { known = known; named = named; so_far = [] }) k trace)) number
      (cycle_from (per_cycle n - 1) 0 base (omega arith) (λ k l. let never : ⊥ = omega arith in absurd never))

  -- ---- what that says of the frames

  or_false : (b c : Bool) → b ≡ false → (b || c) ≡ c
  or_false true c e = cc
  or_false false c e = refl

  pass_at : (round : Round) (s r : ℕ) → s < n → r < n → s ≢ r → is_this named s ≡ false → passes (place_of n round s r) ≡ is_expected known named frames round s r
  pass_at round s r l m away good =
      ap (passes_at known named frames) (link_back n round s r size l m away) ∙ or_false (is_this named s) (is_expected known named frames round s r) good

  pub all_expected : ((place : ℕ) → place < per_cycle n → passes place ≡ true) → AreExpected known named frames
  all_expected all round s r l m away good =
      sym (pass_at round s r l m away good) ∙ all (place_of n round s r) (in_cycle n round s r l m away)

  abbrev link_on : ℕ → Link
  link_on place = link_at n place

  pub first_unexpected : (base : ℕ) (found : Option ℕ) → (f : FailsAt base found) → IsFirstUnexpected known named frames (link_on f.place).round (link_on f.place).from (link_on f.place).to
  first_unexpected base found f =
      let link = link_on f.place in
      let is = link_there n f.place size f.inside in
      let parts = or_parts (is_this named link.from) (is_expected known named frames link.round link.from link.to) f.fails in
      record {
        here = record { sender_there = is.from; receiver_there = is.to; another = is.another; not_named = parts.0; unexpected = parts.1 };
        first = λ other from to u l.
            let yes = f.earlier (place_of n other from to) (let at = is.place in omega arith) in
            let same = pass_at other from to u.sender_there u.receiver_there u.another u.not_named in
            let no = u.unexpected in cc;
      }

-- ---- the cycles

-- the number of elements stays
size_by : (a : Applied) (update : Update) (known : Known) → (known_by a update known).table.n ≡ known.table.n
size_by (applied_variant.Done procs) update known = size-table_after known.table update
size_by (applied_variant.Refused error) update known = refl
size_by applied_variant.Absent update known = refl

size_with : (u : Option Update) (known : Known) → (known_with u known).table.n ≡ known.table.n
size_with None known = refl
size_with (Some update) known = size_by (applied known.table update) update known

pub size_after : (known : Known) (named : Option ℕ) (frames : Frames) → (known_after known named frames).table.n ≡ known.table.n
unfolding known_after known_served
size_after known named frames = size_with (update_told known named frames) (known_served known named frames)

abbrev pub begins : Known → Option ℕ → Progress
begins known named = record { known = known; named = named; so_far = [] }

-- So many cycles follow, and each frame is awaited.
pub record FollowsSo (n cycles base : ℕ) (known : Known) (named : Option ℕ) (trace : List (List ℕ)) : Type 0 where
  pub found : first_break (begins known named) base trace ≡ None
  pub follows : FollowsFrom cycles known named trace

-- One of them breaks, where the first frame is that is not awaited.
pub record BreaksSo (n cycles base : ℕ) (known : Known) (named : Option ℕ) (trace : List (List ℕ)) : Type 0 where
  pub cycle : ℕ
  pub before : cycle < cycles
  pub place : ℕ
  pub inside : place < per_cycle n
  pub found : first_break (begins known named) base trace ≡ Some (base + (cycle * per_cycle n + place))
  pub breaks : BreaksFrom cycle known named trace (link_at n place).round (link_at n place).from (link_at n place).to

abbrev pub EndsSo : ℕ → ℕ → ℕ → Known → Option ℕ → List (List ℕ) → Type 0
EndsSo n cycles base known named trace = FollowsSo n cycles base known named trace ⊎ BreaksSo n cycles base known named trace

no_items : (trace : List (List ℕ)) → length trace ≡ 0 → trace ≡ []
no_items [] e = refl
no_items (x ∷ xs) e = let never : ⊥ = omega arith in absurd never

-- there are frames in a cycle
pub some_frames : (n : ℕ) → IsSize n → 0 < per_cycle n
some_frames n (inl e) = subst (λ k. 0 < per_cycle k) (sym e) (omega arith)
some_frames n (inr e) = subst (λ k. 0 < per_cycle k) (sym e) (omega arith)

module _ (cycles base : ℕ) (known : Known) (named : Option ℕ) (trace : List (List ℕ)) where
  abbrev m : ℕ
  m = known.table.n

  abbrev p : ℕ
  p = per_cycle m

  abbrev these : Frames
  these = frames_in m trace

  abbrev after : Known
  after = known_after known named these

  -- a cycle that passes, and then the others
  joined : (size : IsSize m) (there : IsThere m named) (whole : p ≤ length trace) → PassesAll known named trace size there whole base (first_break (begins known named) base trace)
      → EndsSo m cycles (base + p) after named (drop p trace) → EndsSo m (suc cycles) base known named trace
  joined size there whole h (inl f) = inl (record { found = h.rest ∙ f.found; follows = (all_expected known named trace size there whole h.all, f.follows) })
  joined size there whole h (inr b) =
      let more = suc-mul b.cycle p in
      let number : base + p + (b.cycle * p + b.place) ≡ base + (suc b.cycle * p + b.place) = omega arith in
      inr (record {
        cycle = suc b.cycle;
        before = let l = b.before in omega arith;
        place = b.place;
        inside = b.inside;
        found = h.rest ∙ b.found ∙ ap (λ (k : ℕ). let o : Option ℕ = Some k in o) number;
        breaks = (all_expected known named trace size there whole h.all, b.breaks);
      })

  by_cycle : (size : IsSize m) (there : IsThere m named) (whole : p ≤ length trace) → Outcome known named trace size there whole base (first_break (begins known named) base trace)
      → EndsSo m cycles (base + p) after named (drop p trace) → EndsSo m (suc cycles) base known named trace
  by_cycle size there whole (inl h) later = joined size there whole h later
  by_cycle size there whole (inr f) later =
      let none = zero-mul p in
      let number : base + f.place ≡ base + (0 * p + f.place) = omega arith in
      inr (record {
        cycle = 0;
        before = omega arith;
        place = f.place;
        inside = f.inside;
        found = f.here ∙ ap (λ (k : ℕ). let o : Option ℕ = Some k in o) number;
        breaks = first_unexpected known named trace size there whole base (first_break (begins known named) base trace) f;
      })

-- the cycles of a trace
ends_so : (cycles base : ℕ) (known : Known) (named : Option ℕ) (trace : List (List ℕ)) → IsSize known.table.n → IsThere known.table.n named
    → length trace ≡ cycles * per_cycle known.table.n → EndsSo known.table.n cycles base known named trace
ends_so zero base known named trace size there e =
    let none = no_items trace (e ∙ zero-mul (per_cycle known.table.n)) in
    inl (record { found = ap (first_break (begins known named) base) none; follows = none })
ends_so (suc cycles) base known named trace size there e =
    let more = suc-mul cycles (per_cycle known.table.n) in
    let less = length-drop (per_cycle known.table.n) trace in
    let whole : per_cycle known.table.n ≤ length trace = omega arith in
    let left : length (drop (per_cycle known.table.n) trace) ≡ cycles * per_cycle known.table.n = omega arith in
    let same : (known_after known named (frames_in known.table.n trace)).table.n ≡ known.table.n = size_after known named (frames_in known.table.n trace) in
    let later = ends_so cycles (base + per_cycle known.table.n) (known_after known named (frames_in known.table.n trace)) named (drop (per_cycle known.table.n) trace)
    (subst IsSize (sym same) size) (subst (λ (k : ℕ). IsThere k named) (sym same) there) (left ∙ ap (λ (k : ℕ). cycles * per_cycle k) (sym same)) in
    by_cycle cycles base known named trace size there whole (cycle_outcome known named trace size there whole base (some_frames known.table.n size))
    (subst (λ (k : ℕ). EndsSo k cycles (base + per_cycle known.table.n) (known_after known named (frames_in known.table.n trace)) named (drop (per_cycle known.table.n) trace)) same later)

-- ---- the whole trace

-- a place is its cycle and its place in it
split_four : (cycle place : ℕ) → place < 48 → ((cycle * 48 + place) / 48 ≡ cycle) × ((cycle * 48 + place) % 48 ≡ place)
split_four cycle place l = (omega arith, omega arith)

split_five : (cycle place : ℕ) → place < 80 → ((cycle * 80 + place) / 80 ≡ cycle) × ((cycle * 80 + place) % 80 ≡ place)
split_five cycle place l = (omega arith, omega arith)

pub split : (n cycle place : ℕ) → IsSize n → place < per_cycle n → ((cycle * per_cycle n + place) / per_cycle n ≡ cycle) × ((cycle * per_cycle n + place) % per_cycle n ≡ place)
split n cycle place (inl e) =
    subst (λ k. place < per_cycle k → ((cycle * per_cycle k + place) / per_cycle k ≡ cycle) × ((cycle * per_cycle k + place) % per_cycle k ≡ place)) (sym e) (split_four cycle place)
split n cycle place (inr e) =
    subst (λ k. place < per_cycle k → ((cycle * per_cycle k + place) / per_cycle k ≡ cycle) × ((cycle * per_cycle k + place) % per_cycle k ≡ place)) (sym e) (split_five cycle place)

-- The trace breaks at a place.
abbrev pub BreaksAt : TableValue → Option ℕ → List (List ℕ) → ℕ → Type 0
BreaksAt table named trace place =
    let link = link_at table.n (place % per_cycle table.n) in
    Breaks table named trace (place / per_cycle table.n) link.round link.from link.to

is_inside : (cycle cycles p k : ℕ) → cycle < cycles → 0 < p → k ≡ cycles * p → cycle * p < k
is_inside cycle cycles p k l some e =
    let most : suc cycle * p ≤ cycles * p = mul-le-mul_right p l in
    let more = suc-mul cycle p in
    omega arith

-- where the first frame is that is not awaited, it breaks, and without one it follows
abbrev pub Judged : TableValue → Option ℕ → List (List ℕ) → Option ℕ → Type 0
Judged table named trace None = Follows table named trace
Judged table named trace (Some place) = BreaksAt table named trace place

pub judged : (table : TableValue) (named : Option ℕ) (trace : List (List ℕ)) (cycles : ℕ) → IsSize table.n → IsThere table.n named → length trace ≡ cycles * per_cycle table.n
    → Judged table named trace (first_break (progress_first table named) 0 trace)
judged table named trace cycles size there whole = by (ends_so cycles 0 (known_first table) named trace size there whole) where
  by : EndsSo table.n cycles 0 (known_first table) named trace → Judged table named trace (first_break (progress_first table named) 0 trace)
  by (inl f) = subst (Judged table named trace) (sym f.found) (record { cycles = cycles; whole = whole; expected = f.follows })
  by (inr b) =
      let parts = split table.n b.cycle b.place size b.inside in
      let number : 0 + (b.cycle * per_cycle table.n + b.place) ≡ b.cycle * per_cycle table.n + b.place = omega arith in
      let here : Breaks table named trace b.cycle (link_at table.n b.place).round (link_at table.n b.place).from (link_at table.n b.place).to =
      record { inside = is_inside b.cycle cycles (per_cycle table.n) (length trace) b.before (some_frames table.n size) whole; first = b.breaks } in
      subst (Judged table named trace) (sym (b.found ∙ ap (λ (k : ℕ). let o : Option ℕ = Some k in o) number))
      (subst (λ (k : ℕ). Breaks table named trace k (link_at table.n ((b.cycle * per_cycle table.n + b.place) % per_cycle table.n)).round (link_at table.n ((b.cycle * per_cycle table.n + b.place) % per_cycle table.n)).from
      (link_at table.n ((b.cycle * per_cycle table.n + b.place) % per_cycle table.n)).to) (sym parts.0)
      (subst (λ (k : ℕ). Breaks table named trace b.cycle (link_at table.n k).round (link_at table.n k).from (link_at table.n k).to) (sym parts.1) here))

-- A trace of whole cycles follows, or breaks somewhere.
pub always_one : AlwaysOne
always_one table named trace cycles valid there whole = by (first_break (progress_first table named) 0 trace) (judged table named trace cycles (size-valid table valid) there whole) where
  by : (found : Option ℕ) → Judged table named trace found
      → Follows table named trace ⊎ ((cycle : ℕ) × (round : Round) × (sender : ℕ) × (receiver : ℕ) × Breaks table named trace cycle round sender receiver)
  by None f = inl f
  by (Some place) b =
      let link = link_at table.n (place % per_cycle table.n) in inr (place / per_cycle table.n, link.round, link.from, link.to, b)
