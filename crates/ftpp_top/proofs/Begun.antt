-- A script before its first cycle, and the rejoin before a cycle.
use Rattle.std.proofs.Common.{◌≡◌, ℕ, ◌+◌, ◌<◌, ◌≤◌, Bool, true, false, eqb, List, [], ◌∷◌, length, refl, ap, sym, subst, ◌∙◌, arith, eq-eqb}
use Rattle.std.specs.Prelude.{Option, Some, None, IsSome, is_some, filter, count_by}
use Rattle.std.proofs.lemmas.Bool.{eqb-true}
use Rattle.std.proofs.lemmas.List.{length-map}
use Rattle.std.proofs.lemmas.List.Sums.{length-filter}
use Rattle.packet_format.specs.declared.acts.Act.{Act}
use Rattle.config_table.specs.Table.{TableValue}
use Rattle.fault_script.specs.Plays.{Told}
use Rattle.script_text.specs.Reading.{Plan}
use Rattle.script_text.specs.Printing.{IsOther}
use Rattle.script_text.specs.Playable.{IsPlayable, AreOthers, IsThere}
use Rattle.element_core.specs.declared.Rejoined.{Rejoined}
use Rattle.element_core.specs.declared.Rejoined.TheVariants.{Taken, Refused}
use Rattle.cluster.specs.ClusterValue.{ClusterValue, new_cluster}
use Rattle.cluster.specs.Follows.{Follows}
use Rattle.cluster.specs.Rejoins.{Rejoins, RejoinsAt}
use Rattle.report_text.specs.PlayedCycle.{is_of_cycle, acts_at, next_at, rejoined_by, taken_by}
use Rattle.report_text.specs.PlayedRun.{standing_at}
use Rattle.ftpp_top.specs.Due.{next_in, IsApart}
use Rattle.ftpp_top.specs.Playing.{IsReady, IsBegun, IsRejoinOf}
use Rattle.ftpp_top.proofs.Taken.{all_few, ordered_within, apart_within, first_within}
use Rattle.ftpp_top.proofs.CycleOfScript.{standing_cycle, follows_as_it_stands, follows_rejoined}

-- ---- before the first cycle

pub few_at : (n : ℕ) (plan : Plan) (c : ℕ) → IsPlayable n plan → length (acts_at plan c) ≤ 80
few_at n plan c h =
    let counted : length (acts_at plan c) ≡ count_by (is_of_cycle c) plan.acts = length-map (filter (is_of_cycle c) plan.acts) (λ (entry : ℕ × Act). entry.1) ∙ length-filter (is_of_cycle c) plan.acts in
    subst (λ (k : ℕ). k ≤ 80) (sym counted) (h.few_acts c)

pub few_in_all : (n : ℕ) (plan : Plan) → IsPlayable n plan → length plan.acts ≤ 8000000
few_in_all n plan h =
    let first = few_at n plan 0 h in
    let all = all_few plan.acts plan.cycles 0 0 h.acts_order h.long (λ c l. few_at n plan c h) (omega (arith, first)) in
    omega (arith, all, h.short)

there_below : (n : ℕ) (e : Option ℕ) → IsThere n e → (ne : ℕ) → e ≡ Some ne → ne < n
there_below n None h ne e = absurd cc
there_below n (Some m) h ne e = subst (λ (k : ℕ). k < n) (some_same e) h where
  some_same : {a b : ℕ} → Some a ≡ Some b → a ≡ b
  some_same e = cc

pub first_below : (n : ℕ) (plan : Plan) → IsPlayable n plan → (ne : ℕ) → plan.faulty ≡ Some ne → ne < n
first_below n plan h = there_below n plan.faulty h.first

pub ready_first : (n : ℕ) (plan : Plan) (table : TableValue) (c : ClusterValue) → IsPlayable n plan → table.n ≡ n → c ≡ new_cluster table plan.faulty plan.cycles (length plan.acts) → IsReady n plan c plan.acts plan.rejoins
ready_first n plan table c h e same =
    rw same (record {
      playable = h;
      elements = e;
      cycles = omega arith;
      left = omega arith;
      ordered = ordered_within 0 plan.cycles plan.acts h.acts_order;
      later = λ k l. refl;
      apart = apart_within 0 plan.rejoins (first_within 0 plan.cycles plan.rejoins h.rejoins_order) h.rejoins_apart;
      ahead = λ k l. refl;
      faulty = plan.faulty;
      others = h.rejoins;
      there = λ s. s;
      below = first_below n plan h;
      rested = refl;
    })

-- ---- which rejoin is due

pub next_here : (rejoins : List (ℕ × Option ℕ)) (e : ℕ × Option ℕ) (k : ℕ) → e.0 ≡ k → next_in (e ∷ rejoins) k ≡ Some e.1
next_here rejoins e k same = rw (eq-eqb e.0 k same) refl

pub next_other : (rejoins : List (ℕ × Option ℕ)) (e : ℕ × Option ℕ) (k : ℕ) → (e.0 ≡ k → ⊥) → next_in (e ∷ rejoins) k ≡ next_in rejoins k
next_other rejoins e k ne = by (eqb e.0 k) refl where
  by : (b : Bool) → eqb e.0 k ≡ b → next_in (e ∷ rejoins) k ≡ next_in rejoins k
  by true h = absurd (ne (eqb-true e.0 k h))
  by false h = rw h refl

pub none_due : (rejoins : List (ℕ × Option ℕ)) (low k : ℕ) → IsApart low rejoins → k < low → next_in rejoins k ≡ None
none_due [] low k a l = refl
none_due (e ∷ rejoins) low k a l =
    let first : low ≤ e.0 = a.0 in
    next_other rejoins e k (λ same. omega (arith, same, first, l)) ∙ none_due rejoins (e.0 + 1) k a.1 (omega arith)

pub nil_by : {A : Type 0} (xs : List A) → length xs ≡ 0 → xs ≡ []
nil_by [] e = refl
nil_by (x ∷ xs) e = let bad : ⊥ = omega (arith, e) in absurd bad

-- ---- no rejoin

module _ (n : ℕ) (plan : Plan) (c : ClusterValue) (acts : List (ℕ × Act)) (rejoins : List (ℕ × Option ℕ)) (h : IsReady n plan c acts rejoins) where
  -- none is due
  pub begun_calm : 1 ≤ c.remaining → IsApart (length c.journal + 1) rejoins → IsBegun n plan c acts rejoins
  begun_calm m a = record {
    playable = h.playable;
    elements = h.elements;
    cycles = h.cycles;
    more = m;
    left = h.left;
    ordered = h.ordered;
    later = h.later;
    apart = a;
    ahead = λ k l. h.ahead k (omega arith);
    faulty = h.faulty;
    others = h.others;
    there = h.there;
    below = h.below;
  }

  pub run_calm : (table : TableValue) (told : Told) → IsApart (length c.journal + 1) rejoins → IsRejoinOf table plan c told None c
  run_calm table told a s =
      let k : ℕ = length c.journal in
      let none : next_at plan k ≡ None = sym (h.ahead k (omega arith)) ∙ none_due rejoins (k + 1) k a (omega arith) in
      let before = standing_at table plan k in
      (follows_as_it_stands table plan k c told none s, sym (ap (λ next. taken_by (rejoined_by before.faulty next)) (ap (next_at plan) (standing_cycle table plan k) ∙ none)))

-- the next one is of a later cycle
pub apart_later : (low : ℕ) (e : ℕ × Option ℕ) (later : List (ℕ × Option ℕ)) → IsApart low (e ∷ later) → (e.0 ≡ low → ⊥) → IsApart (low + 1) (e ∷ later)
apart_later low e later a ne = let first : low ≤ e.0 = a.0 in (omega (arith, ne, first), a.1)

-- ---- a rejoin

pub somebody : (n : ℕ) (plan : Plan) (c : ClusterValue) (acts : List (ℕ × Act)) (e : ℕ × Option ℕ) (later : List (ℕ × Option ℕ)) → IsReady n plan c acts (e ∷ later) → c.faulty ≡ None → ⊥
somebody n plan c acts e later h f = by h.faulty h.others (λ s. subst (IsSome {T = ℕ}) f (h.there s)) where
  by : (faulty : Option ℕ) → AreOthers n faulty (e ∷ later) → (IsSome faulty → IsSome {T = ℕ} None) → ⊥
  by None others there = others.0
  by (Some f) others there = let bad : is_some {T = ℕ} None ≡ true = there refl in absurd cc

next_is : (n : ℕ) (faulty next : Option ℕ) → IsOther n faulty next → (ne : ℕ) → next ≡ Some ne → ne < n
next_is n None next o ne same = absurd o
next_is n (Some f) None o ne same = absurd cc
next_is n (Some f) (Some m) o ne same = subst (λ (k : ℕ). k < n) (some_same same) o.0 where
  some_same : {a b : ℕ} → Some a ≡ Some b → a ≡ b
  some_same e = cc

pub next_below : (n : ℕ) (plan : Plan) (c : ClusterValue) (acts : List (ℕ × Act)) (e : ℕ × Option ℕ) (later : List (ℕ × Option ℕ)) → IsReady n plan c acts (e ∷ later) → (ne : ℕ) → e.1 ≡ Some ne → ne < n
next_below n plan c acts e later h = next_is n h.faulty e.1 h.others.0

pub rejoins_as : (old new : ClusterValue) (ne : ℕ) (asked next : Option ℕ) (answer : Rejoined) → old.faulty ≡ Some ne → asked ≡ next → Rejoins old asked answer new → RejoinsAt old ne next answer new
rejoins_as old new ne asked next answer f e h = subst (λ (x : Option ℕ). RejoinsAt old ne x answer new) e (h ne f)

pub same_first : (old new : ClusterValue) (ne : ℕ) (next : Option ℕ) (answer : Rejoined) → RejoinsAt old ne next answer new → new.first ≡ old.first
same_first old new ne next Taken (element, is, same) = ap (λ c. c.first) same
same_first old new ne next Refused (is, same) = ap (λ c. c.first) same

pub same_journal : (old new : ClusterValue) (ne : ℕ) (next : Option ℕ) (answer : Rejoined) → RejoinsAt old ne next answer new → new.journal ≡ old.journal
same_journal old new ne next Taken (element, is, same) = ap (λ c. c.journal) same
same_journal old new ne next Refused (is, same) = ap (λ c. c.journal) same

some_there : (x : Option ℕ) (ne : ℕ) → x ≡ Some ne → IsSome x
some_there x ne e = rw e refl

pub begun_rejoined : (n : ℕ) (plan : Plan) (old new : ClusterValue) (acts : List (ℕ × Act)) (e : ℕ × Option ℕ) (later : List (ℕ × Option ℕ)) (ne : ℕ) (answer : Rejoined) → IsReady n plan old acts (e ∷ later) → 1 ≤ old.remaining
    → e.0 ≡ length old.journal → old.faulty ≡ Some ne → RejoinsAt old ne e.1 answer new → IsBegun n plan new acts later
begun_rejoined n plan old new acts e later ne Taken h m due f (element, is, same) =
    rw same (record {
      playable = h.playable;
      elements = h.elements;
      cycles = h.cycles;
      more = m;
      left = h.left;
      ordered = h.ordered;
      later = h.later;
      apart = subst (λ (k : ℕ). IsApart (k + 1) later) due h.apart.1;
      ahead = λ k l. sym (next_other later e k (λ g. omega (arith, g, due, l))) ∙ h.ahead k (omega arith);
      faulty = e.1;
      others = h.others.1;
      there = λ s. s;
      below = next_below n plan old acts e later h;
    })
begun_rejoined n plan old new acts e later ne Refused h m due f (is, same) =
    rw same (record {
      playable = h.playable;
      elements = h.elements;
      cycles = h.cycles;
      more = m;
      left = h.left;
      ordered = h.ordered;
      later = h.later;
      apart = subst (λ (k : ℕ). IsApart (k + 1) later) due h.apart.1;
      ahead = λ k l. sym (next_other later e k (λ g. omega (arith, g, due, l))) ∙ h.ahead k (omega arith);
      faulty = e.1;
      others = h.others.1;
      there = λ s. some_there old.faulty ne f;
      below = h.below;
    })

pub run_rejoined : (n : ℕ) (plan : Plan) (old new : ClusterValue) (acts : List (ℕ × Act)) (e : ℕ × Option ℕ) (later : List (ℕ × Option ℕ)) (ne : ℕ) (answer : Rejoined) (table : TableValue) (told : Told)
    → IsReady n plan old acts (e ∷ later) → e.0 ≡ length old.journal → old.faulty ≡ Some ne → RejoinsAt old ne e.1 answer new → (Follows old → answer ≡ Taken) → (Follows old → Follows new)
    → IsRejoinOf table plan old told (Some (ne, answer)) new
run_rejoined n plan old new acts e later ne answer table told h due f rejoins taken follows s =
    let k : ℕ = length old.journal in
    let here : next_at plan k ≡ Some e.1 = sym (h.ahead k (omega arith)) ∙ next_here later e k due in
    let before = standing_at table plan k in
    let is_taken : answer ≡ Taken = taken s.follows in
    let below : (m : ℕ) → e.1 ≡ Some m → m < old.first.n = λ m g. subst (λ (x : ℕ). m < x) (sym h.elements) (next_below n plan old acts e later h m g) in (
      follows_rejoined table plan k ne e.1 old new told here s f (subst (λ (a : Rejoined). RejoinsAt old ne e.1 a new) is_taken rejoins) (follows s.follows) below,
      ap (λ (a : Rejoined). Some (ne, a)) is_taken
          ∙ sym (ap (λ next. taken_by (rejoined_by before.faulty next)) (ap (next_at plan) (standing_cycle table plan k) ∙ here) ∙ ap taken_by (sym s.faulty_then ∙ f)),
    )
