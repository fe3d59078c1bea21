-- An element that rejoins: the cluster rests again, and follows the run where it did before.
use Rattle.std.proofs.Common.{◌≡◌, ◌≢◌, ℕ, true, false, ◌<◌, ◌⊎◌, List, [], ◌∷◌, ◌++◌, length, refl, ap, sym, ◌∙◌, subst, inl, inr, get_or}
use Rattle.std.specs.Prelude.{Option, Some, None, ◌==◌, if◌then◌else◌}
use Rattle.std.proofs.lemmas.Bool.{cases_eq, eq-eqb, ne_eqb}
use Rattle.std.proofs.lemmas.Option.{same_Some}
use Rattle.ftpp_base.specs.Lists.{cell_at}
use Rattle.ftpp_base.proofs.Changed.{change_at-same, change_at-other, change_at-either, length-change_at}
use Rattle.bit_vote.specs.Vote.{Cell, IsCell}
use Rattle.config_table.specs.Table.{TableValue, IsValid}
use Rattle.config_table.proofs.ValidTable.{size-valid}
use Rattle.two_round.proofs.Agreement.{at_place}
use Rattle.syndrome_log.specs.Log.{last_kept}
use Rattle.element_core.specs.Processors.{empty_ports}
use Rattle.element_core.specs.Cycle.{Input, after_rejoin}
use Rattle.element_core.specs.Run.{Journal, AgreedState, IsJournal, agreed_state, Follows as Succeeds}
use Rattle.element_core.specs.Element.{Kept}
use Rattle.element_core.specs.Alone.{part_of}
use Rattle.element_core.proofs.AloneRunLaws.{rejoin_gives_part}
use Rattle.element_core.specs.declared.Rejoined.{Rejoined}
use Rattle.element_core.specs.declared.Rejoined.TheVariants.{Taken}
use Rattle.element_core.specs.ElementValue.{ElementValue, fresh, rejoined_with, state_of}
use Rattle.element_core.specs.Rejoins.{IsRejoined, IsVotedState}
use Rattle.element_core.proofs.CommonStates.{common_state, voted_taken}
use Rattle.cluster.specs.ClusterValue.{ClusterValue, element_in, element_at}
use Rattle.cluster.specs.Follows.{IsAtRest, Follows, HasNoted, HasRun, coming_input, noted_in, noted_till, state_now}
use Rattle.cluster.specs.Rejoins.{MayRejoin, RejoinedRests, RejoinedFollows, bytes_told, state_told, states_told, replaced_at, after_rejoining}
use Rattle.cluster.proofs.StepOfRun.{sound_now}
use Rattle.cluster.proofs.VotedCycle.{voted_cycle}

-- whatever the element held, it stands as one that was reset
pub taken_anew : (n ne : ℕ) (first : TableValue) (before e : ElementValue) (states : List Cell) → before.kept.me ≡ ne → IsRejoined n before states Taken e → IsRejoined n (fresh ne first) states Taken e
taken_anew n ne first before e states same h =
    let P : ℕ → Type 0 = λ m. (state : AgreedState) × IsVotedState n m states state × (e ≡ rejoined_with m state) in
    subst P same h

-- the journal up to the coming cycle, where the faulty element rejoined
coming_rejoined : (before : Option ℕ) (journal : Journal) (old new : Input) (ne : ℕ) → old.rejoined ≡ None → old.faulty ≡ Some ne → new.rejoined ≡ Some ne
    → IsJournal before (journal ++ old ∷ []) → IsJournal before (journal ++ new ∷ [])
coming_rejoined before [] old new ne none faulty some h =
    let same : old.faulty ≡ before = subst (λ (r : Option ℕ). Succeeds before r old.faulty) none h.0 in
    (subst (λ (r : Option ℕ). Succeeds before r new.faulty) (sym some) (sym same ∙ faulty), tt)
coming_rejoined before (x ∷ journal) old new ne none faulty some h = (h.0, coming_rejoined x.faulty journal old new ne none faulty some h.1)

module _ (c : ClusterValue) (ne : ℕ) (may : MayRejoin c ne) where
  below : ne < c.first.n
  below = may.rest.faulty ne may.faulty

  -- **The cluster rests again, whatever was voted.**
  rests : (e : ElementValue) (next : Option ℕ) → ((k : ℕ) → next ≡ Some k → k < c.first.n) → IsRejoined c.first.n (fresh ne c.first) (states_told c.first.n c.elements) Taken e → IsAtRest (after_rejoining c ne e next)
  rests e next there h =
      let rest = may.rest in
      let is = h.2 in
      let now = voted_cycle c.first.n ne (length c.journal) c.elements h.0 (size-valid c.first rest.valid) below rest.cycle may.tell h.1 in
      let none : ℕ → ElementValue = λ k. fresh k (record { n = 0; manager = 0; groups = [] }) in
      record {
        valid = rest.valid;
        count = length-change_at (λ before. e) c.elements ne ∙ rest.count;
        me = λ k l. change_at-either (λ (x : ElementValue). x.kept.me ≡ k) (λ before. e) c.elements ne k (none k) (λ same. ap (λ (x : ElementValue). x.kept.me) is ∙ same) (rest.me k l);
        cycle = λ k l. change_at-either (λ (x : ElementValue). x.kept.cycle ≡ length c.journal) (λ before. e) c.elements ne k (none k) (λ same. ap (λ (x : ElementValue). x.kept.cycle) is ∙ now) (rest.cycle k l);
        size = λ k l. change_at-either (λ (x : ElementValue). x.kept.table.n ≡ c.first.n) (λ before. e) c.elements ne k (none k) (λ same. ap (λ (x : ElementValue). x.kept.table.n) is ∙ h.1.size) (rest.size k l);
        due = λ k l. change_at-either (λ (x : ElementValue). x.due ≡ (fresh ne c.first).due) (λ before. e) c.elements ne k (none k) (λ same. ap (λ (x : ElementValue). x.due) is) (rest.due k l);
        tables = λ k l. change_at-either (λ (x : ElementValue). IsValid x.kept.table) (λ before. e) c.elements ne k (none k)
            (λ same. subst (λ (x : ElementValue). IsValid x.kept.table) (sym is) h.1.is_state.in_range.valid) (rest.tables k l);
        inputs = rest.inputs;
        faulty = there;
        rejoined = λ k same. subst (λ (j : ℕ). j < c.first.n) (same_Some ne k same) below;
        changes = record {
          first = rest.changes.first;
          journal = coming_rejoined rest.changes.first c.journal (coming_input c) (coming_input (after_rejoining c ne e next)) ne may.first may.faulty refl rest.changes.journal;
        };
        cycles = rest.cycles;
      }

  -- the one that rejoined, and the others
  here : (e : ElementValue) (me : ℕ) → ne ≡ me → element_in (replaced_at c.elements ne e) me ≡ e
  here e me same =
      let none = fresh me (record { n = 0; manager = 0; groups = [] }) in
      ap (λ k. get_or (replaced_at c.elements ne e) k none) (sym same)
      ∙ change_at-same (λ before. e) c.elements ne none (subst (λ (n : ℕ). ne < n) (sym may.rest.count) below)

  there : (e : ElementValue) (me : ℕ) → ne ≢ me → element_in (replaced_at c.elements ne e) me ≡ element_in c.elements me
  there e me away = change_at-other (λ before. e) c.elements ne me (fresh me (record { n = 0; manager = 0; groups = [] })) away

  -- ---- where the cluster follows the run

  module _ (follows : Follows c) where
    -- what each element keeps is its part of the state
    part : (me : ℕ) → me < c.first.n → (element_at c me).kept ≡ part_of (after_rejoin (state_now c) None) me
    part me l = follows.kept me l ∙ ap (λ r. part_of (after_rejoin (state_now c) r) me) may.first

    -- so all tell the agreed state
    told_state : (me : ℕ) → me < c.first.n → state_of (element_at c me) ≡ agreed_state (state_now c)
    told_state me l = ap (λ (k : Kept). record { cycle = k.cycle; table = k.table; scoreboard = k.scoreboard }) (part me l)

    told_cell : (me : ℕ) → me < c.first.n → cell_at (states_told c.first.n c.elements) me ≡ Some (bytes_told (element_at c ne))
    told_cell me l =
        let spelled : AgreedState → List ℕ = λ s. bytes_told (rejoined_with 0 s) in
        at_place c.first.n (state_told c.elements) me None l
        ∙ ap (λ s. Some (spelled s)) (told_state me l ∙ sym (told_state ne below))

    -- and it is the voted one
    agreed_is_voted : IsVotedState c.first.n ne (states_told c.first.n c.elements) (agreed_state (state_now c))
    agreed_is_voted =
        let n = c.first.n in
        let t = may.tell ne below in
        let size : (element_at c ne).kept.table.n ≡ n = may.rest.size ne below in
        let P : AgreedState → Type 0 = λ s. IsVotedState n ne (states_told n c.elements) s in
        subst P (told_state ne below)
        (common_state n ne ne (bytes_told (element_at c ne)) (states_told n c.elements) (state_of (element_at c ne)) (size-valid c.first may.rest.valid) below t.row
        (subst (IsCell 1887) (sym (told_cell ne below)) t.row)
        (λ k l away odd. told_cell k l) t.state size)

    -- so it is taken
    is_taken : (answer : Rejoined) (e : ElementValue) → IsRejoined c.first.n (element_at c ne) (states_told c.first.n c.elements) answer e
        → (answer ≡ Taken) × (e ≡ rejoined_with ne (agreed_state (state_now c)))
    is_taken answer e h =
        let me = may.rest.me ne below in
        let s = agreed_state (state_now c) in
        let P : ℕ → Type 0 = λ m. IsVotedState c.first.n m (states_told c.first.n c.elements) s in
        let t = voted_taken c.first.n (element_at c ne) e (states_told c.first.n c.elements) answer s (subst P (sym me) agreed_is_voted) h in
        (t.0, t.1 ∙ ap (λ m. rejoined_with m s) me)

    -- the part of an element that stays
    other_part : (me : ℕ) → ne ≢ me → part_of (after_rejoin (state_now c) None) me ≡ part_of (after_rejoin (state_now c) (Some ne)) me
    other_part me away =
        let s = state_now c in
        let ports = sym (change_at-other (λ before. empty_ports) s.queues ne me [] away) in
        λ i. record { me = me; cycle = s.cycle; table = s.table; scoreboard = s.scoreboard; ports = ports i }

    -- what each keeps then
    kept_of : (e : ElementValue) (me : ℕ) → e ≡ rejoined_with ne (agreed_state (state_now c)) → me < c.first.n → (ne ≡ me) ⊎ (ne ≢ me)
        → (element_in (replaced_at c.elements ne e) me).kept ≡ part_of (after_rejoin (state_now c) (Some ne)) me
    kept_of e me is l (inl same) =
        let s = state_now c in
        let sound = sound_now c may.rest in
        ap (λ (x : ElementValue). x.kept) (here e me same ∙ is)
        ∙ rejoin_gives_part s ne sound.0 (subst (λ (n : ℕ). ne < n) (sym sound.1) below)
        ∙ ap (λ k. part_of (after_rejoin s (Some ne)) k) same
    kept_of e me is l (inr away) = ap (λ (x : ElementValue). x.kept) (there e me away) ∙ part me l ∙ other_part me away

    -- and has noted
    noted_of : (e : ElementValue) (next : Option ℕ) (me : ℕ) → e ≡ rejoined_with ne (agreed_state (state_now c)) → me < c.first.n → (ne ≡ me) ⊎ (ne ≢ me) → HasNoted (after_rejoining c ne e next) me
    noted_of e next me is l (inl same) =
        let yes : (ne == me) ≡ true = eq-eqb ne me same in
        let had = follows.noted me l in
        let noted = noted_in c.first c.journal had.said me (length c.journal) in
        let none : last_kept (if ne == me then [] else noted) ≡ [] = λ i. last_kept (if yes i then [] else noted) in
        record { said = had.said; log = ap (λ (x : ElementValue). x.log) (here e me same ∙ is) ∙ sym none }
    noted_of e next me is l (inr away) =
        let no : (ne == me) ≡ false = ne_eqb ne me away in
        let had = follows.noted me l in
        let noted = noted_in c.first c.journal had.said me (length c.journal) in
        let all : last_kept (if ne == me then [] else noted) ≡ last_kept noted = λ i. last_kept (if no i then [] else noted) in
        record { said = had.said; log = ap (λ (x : ElementValue). x.log) (there e me away) ∙ had.log ∙ ap (λ r. last_kept (noted_till r me noted)) may.first ∙ sym all }

    -- **The cluster follows the run still.**
    still_follows : (e : ElementValue) (next : Option ℕ) → e ≡ rejoined_with ne (agreed_state (state_now c)) → Follows (after_rejoining c ne e next)
    still_follows e next is = record {
      kept = λ me l. kept_of e me is l (cases_eq ne me);
      noted = λ me l. noted_of e next me is l (cases_eq ne me);
    }

pub rejoined_rests : RejoinedRests
rejoined_rests c ne e next may there h = rests c ne may e next there h

pub rejoined_follows : RejoinedFollows
rejoined_follows c ne answer e next may follows h =
    let t = is_taken c ne may follows answer e h in
    (t.0, still_follows c ne may follows e next t.1)

-- ---- the journal as that of a run

-- the first cycles of a journal in shape
shape_before : (before : Option ℕ) (journal more : Journal) → IsJournal before (journal ++ more) → IsJournal before journal
shape_before before [] more h = tt
shape_before before (x ∷ journal) more h = (h.0, shape_before x.faulty journal more h.1)

pub has_run : (c : ClusterValue) → IsAtRest c → HasRun c
has_run c rest = record {
  valid = rest.valid;
  inputs = rest.inputs;
  faulty = rest.changes.first;
  journal = shape_before rest.changes.first c.journal (coming_input c ∷ []) rest.changes.journal;
}
