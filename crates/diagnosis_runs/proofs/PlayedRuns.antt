-- The run of a script that can be played: its faulty element changes only where it rejoins, and its tables are valid.
use Rattle.std.proofs.Common.{◌≡◌, ℕ, zero, suc, ◌+◌, ◌<◌, ◌≤◌, Bool, true, false, eqb, List, [], ◌∷◌, map, refl, ap, arith, sym, ◌∙◌, subst}
use Rattle.std.specs.Prelude.{Option, Some, None}
use Rattle.std.specs.List.{range_with_len}
use Rattle.std.proofs.lemmas.Bool.{eqb-true, eqb-false}
use Rattle.config_table.specs.Table.{TableValue, IsValid}
use Rattle.table_update.specs.declared.Update.{Update}
use Rattle.table_update.specs.declared.Applied.{Applied}
use Rattle.table_update.specs.declared.Applied.TheVariants.{Done, Refused, Absent}
use Rattle.table_update.specs.Updates.{applied}
use Rattle.script_text.specs.Reading.{Plan}
use Rattle.script_text.specs.Printing.{IsOther}
use Rattle.script_text.specs.Playable.{IsPlayable, AreOthers}
use Rattle.element_core.specs.Cycle.{State, Input, after_rejoin, step, served, with_update, changed_by, update_in, update_packet, shown_by}
use Rattle.element_core.specs.Run.{Follows, IsJournal}
use Rattle.element_core.proofs.Sound.{IsValid-table_after}
use Rattle.report_text.specs.PlayedCycle.{Standing, next_at, faulty_after, rejoined_by, faulty_in, rejoined_in, input_played, cycle_played}
use Rattle.report_text.specs.PlayedRun.{standing_at, journal_of}
use Rattle.diagnosis.proofs.Settled.{each_proposal_done, only_needed_left}
use Rattle.command_steps.specs.Loading.{Run}
use Rattle.ftpp_top.specs.Due.{next_in, IsApart}
use Rattle.ftpp_top.specs.Diagnosing.{said_played, faulty_last, table_last}
use Rattle.ftpp_top.proofs.Taken.{apart_within, first_within}
use Rattle.ftpp_top.proofs.Begun.{first_below, next_here, next_other, none_due, apart_later}
use Rattle.ftpp_top.proofs.CycleOfScript.{standing_cycle}
use Rattle.ftpp_top.proofs.Diagnosed.{last_table, last_faulty_is, rejoined_is, faulty_is}
use Rattle.diagnosis_runs.specs.Played.{IsRightDiagnosis, DiagnosesRight, PlaysJournal}
use Rattle.diagnosis_runs.proofs.NotedInRuns.{faulty_is_suspect, only_one_is_faulty, all_left_without_fault}

-- ---- the rejoins

-- Before a cycle: the rejoins of the cycles from it on come while an element is faulty, and the faulty one is below n.
record IsAhead (n : ℕ) (plan : Plan) (k : ℕ) (faulty : Option ℕ) : Type 0 where
  rejoins : List (ℕ × Option ℕ)
  apart : IsApart k rejoins
  ahead : (m : ℕ) → k ≤ m → next_in rejoins m ≡ next_at plan m
  others : AreOthers n faulty rejoins
  below : (ne : ℕ) → faulty ≡ Some ne → ne < n

ahead_first : (n : ℕ) (plan : Plan) → IsPlayable n plan → IsAhead n plan 0 plan.faulty
ahead_first n plan h = record {
  rejoins = plan.rejoins;
  apart = apart_within 0 plan.rejoins (first_within 0 plan.cycles plan.rejoins h.rejoins_order) h.rejoins_apart;
  ahead = λ m l. refl;
  others = h.rejoins;
  below = first_below n plan h;
}

some_same : {a b : ℕ} → Some a ≡ Some b → a ≡ b
some_same e = cc

other_below : (n : ℕ) (faulty next : Option ℕ) → IsOther n faulty next → (ne : ℕ) → next ≡ Some ne → ne < n
other_below n None next o ne same = absurd o
other_below n (Some f) None o ne same = absurd cc
other_below n (Some f) (Some m) o ne same = subst (λ (k : ℕ). k < n) (some_same same) o.0

-- what is known over one cycle: how the faulty element changes, and what is ahead then
record OverCycle (n : ℕ) (plan : Plan) (k : ℕ) (faulty : Option ℕ) (next : Option (Option ℕ)) : Type 0 where
  follows : Follows faulty (rejoined_by faulty next) (faulty_after faulty next)
  ahead : IsAhead n plan (suc k) (faulty_after faulty next)

over_calm : (n : ℕ) (plan : Plan) (k : ℕ) (faulty : Option ℕ) (rejoins : List (ℕ × Option ℕ)) → IsApart (k + 1) rejoins → ((m : ℕ) → k ≤ m → next_in rejoins m ≡ next_at plan m) → AreOthers n faulty rejoins
    → ((ne : ℕ) → faulty ≡ Some ne → ne < n) → OverCycle n plan k faulty (next_at plan k)
over_calm n plan k faulty rejoins apart ahead others below =
    let none : next_at plan k ≡ None = sym (ahead k (omega arith)) ∙ none_due rejoins (k + 1) k apart (omega arith) in
    let one : k + 1 ≡ suc k = omega arith in
    rw none (record {
      follows = refl;
      ahead = record { rejoins = rejoins; apart = subst (λ (m : ℕ). IsApart m rejoins) one apart; ahead = λ m l. ahead m (omega arith); others = others; below = below };
    })

follows_other : (n : ℕ) (faulty next : Option ℕ) → IsOther n faulty next → Follows faulty faulty next
follows_other n None next o = absurd o
follows_other n (Some f) next o = refl

over_rejoin : (n : ℕ) (plan : Plan) (k : ℕ) (faulty : Option ℕ) (e : ℕ × Option ℕ) (later : List (ℕ × Option ℕ)) → e.0 ≡ k → IsApart k (e ∷ later) → ((m : ℕ) → k ≤ m → next_in (e ∷ later) m ≡ next_at plan m)
    → AreOthers n faulty (e ∷ later) → OverCycle n plan k faulty (next_at plan k)
over_rejoin n plan k faulty e later due apart ahead others =
    let here : next_at plan k ≡ Some e.1 = sym (ahead k (omega arith)) ∙ next_here later e k due in
    let one : e.0 + 1 ≡ suc k = omega (arith, due) in
    rw here (record {
      follows = follows_other n faulty e.1 others.0;
      ahead = record {
        rejoins = later;
        apart = subst (λ (m : ℕ). IsApart m later) one apart.1;
        ahead = λ m l. sym (next_other later e m (λ g. omega (arith, g, due, l))) ∙ ahead m (omega arith);
        others = others.1;
        below = other_below n faulty e.1 others.0;
      };
    })

over_cycle : (n : ℕ) (plan : Plan) (k : ℕ) (faulty : Option ℕ) → IsAhead n plan k faulty → OverCycle n plan k faulty (next_at plan k)
over_cycle n plan k faulty h = by h.rejoins h.apart h.ahead h.others where
  by : (rejoins : List (ℕ × Option ℕ)) → IsApart k rejoins → ((m : ℕ) → k ≤ m → next_in rejoins m ≡ next_at plan m) → AreOthers n faulty rejoins → OverCycle n plan k faulty (next_at plan k)
  by [] apart ahead others = over_calm n plan k faulty [] tt ahead others h.below
  by (e ∷ later) apart ahead others = due (eqb e.0 k) refl where
    due : (b : Bool) → eqb e.0 k ≡ b → OverCycle n plan k faulty (next_at plan k)
    due true is = over_rejoin n plan k faulty e later (eqb-true e.0 k is) apart ahead others
    due false is = over_calm n plan k faulty (e ∷ later) (apart_later k e later apart (eqb-false e.0 k is)) ahead others h.below

-- ---- the journal

-- inputs, one a cycle, that follow one another
journal_from : (f : ℕ → Input) (faulty : ℕ → Option ℕ) → ((k : ℕ) → Follows (faulty k) (f k).rejoined (f k).faulty) → ((k : ℕ) → (f k).faulty ≡ faulty (suc k)) → (n a : ℕ) → IsJournal (faulty a) (map f (range_with_len a n))
journal_from f faulty follows next zero a = tt
journal_from f faulty follows next (suc n) a =
    let one : a + 1 ≡ suc a = omega arith in
    (follows a, subst (λ (o : Option ℕ). IsJournal o (map f (range_with_len (a + 1) n))) (ap faulty one ∙ sym (next a)) (journal_from f faulty follows next n (a + 1)))

module _ (r : Run) (playable : IsPlayable r.table.n r.plan) where
  abbrev before : ℕ → Standing
  before k = standing_at r.table r.plan k

  over_at : (k : ℕ) → IsAhead r.table.n r.plan k (before k).faulty → OverCycle r.table.n r.plan k (before k).faulty (next_at r.plan (before k).state.cycle)
  over_at k ahead = subst (λ (m : ℕ). OverCycle r.table.n r.plan k (before k).faulty (next_at r.plan m)) (sym (standing_cycle r.table r.plan k)) (over_cycle r.table.n r.plan k (before k).faulty ahead)

  ahead_at : (k : ℕ) → IsAhead r.table.n r.plan k (before k).faulty
  ahead_at zero = ahead_first r.table.n r.plan playable
  ahead_at (suc k) = (over_at k (ahead_at k)).ahead

  follows_at : (k : ℕ) → Follows (before k).faulty (input_played r.plan (before k)).rejoined (input_played r.plan (before k)).faulty
  follows_at k =
      subst (λ (o : Option ℕ). Follows (before k).faulty (input_played r.plan (before k)).rejoined o) (sym (faulty_is r.plan (before k)))
      (subst (λ (o : Option ℕ). Follows (before k).faulty o (faulty_in r.plan (before k))) (sym (rejoined_is r.plan (before k))) (over_at k (ahead_at k)).follows)

  is_journal : IsJournal r.plan.faulty (journal_of r.table r.plan)
  unfolding journal_of
  is_journal = journal_from (λ cycle. input_played r.plan (standing_at r.table r.plan cycle)) (λ k. (standing_at r.table r.plan k).faulty) follows_at (λ k. faulty_is r.plan (before k)) r.plan.cycles 0

  last_below : (faulty : ℕ) → faulty_last r ≡ Some faulty → faulty < r.table.n
  last_below faulty e = (ahead_at r.plan.cycles).below faulty (sym (last_faulty_is r) ∙ e)

pub plays_journal : PlaysJournal
plays_journal r playable = is_journal r playable

-- ---- the tables

changed_valid : (a : Applied) (update : Update) (s : State) → IsValid s.table → IsValid (changed_by a update s).table
changed_valid (Done ports) update s valid = IsValid-table_after s.table update valid
changed_valid (Refused error) update s valid = valid
changed_valid Absent update s valid = valid

update_valid : (update : Option Update) (s : State) → IsValid s.table → IsValid (with_update update s).table
update_valid None s valid = valid
update_valid (Some update) s valid = changed_valid (applied s.table update) update s valid

-- a cycle leaves a valid table
step_valid : (s : State) (input : Input) → IsValid s.table → IsValid (step s input).state.table
unfolding step served
step_valid s input valid =
    let after = after_rejoin s input.rejoined in
    let shown = shown_by after input in
    update_valid (update_in (update_packet s.table shown.decision shown.packets)) (served after shown) valid

valid_at : (table : TableValue) (plan : Plan) (k : ℕ) → IsValid table → IsValid (standing_at table plan k).state.table
unfolding cycle_played
valid_at table plan zero valid = valid
valid_at table plan (suc k) valid = step_valid (standing_at table plan k).state (input_played plan (standing_at table plan k)) (valid_at table plan k valid)

last_valid : (r : Run) → IsValid r.table → IsValid (table_last r)
last_valid r valid = subst IsValid (sym (last_table r)) (valid_at r.table r.plan r.plan.cycles valid)

-- ---- what is written

pub diagnoses_right : DiagnosesRight
diagnoses_right r valid playable =
    let journal = journal_of r.table r.plan in
    let is = plays_journal r playable in
    record {
      suspect = λ faulty me e away. faulty_is_suspect r.table r.plan.faulty journal (said_played r me) me faulty is e (last_below r playable faulty e) away;
      only = λ faulty me ne e away one. only_one_is_faulty r.table r.plan.faulty journal (said_played r me) me faulty ne is e (last_below r playable faulty e) away one;
      calm = λ me e. all_left_without_fault r.table r.plan.faulty journal (said_played r me) me is e;
      done = λ ne. each_proposal_done (table_last r) ne;
      left = λ ne g index p there live at here. only_needed_left (table_last r) ne g index p (last_valid r valid) there live at here;
    }
