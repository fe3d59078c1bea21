-- A cycle of a script that is played.
use Rattle.std.proofs.Common.{◌≡◌, ℕ, suc, ◌+◌, ◌-◌, ◌<◌, ◌≤◌, ◌⊎◌, inl, inr, Bool, true, false, eqb, List, [], ◌∷◌, length, refl, ap, sym, subst, ◌∙◌, arith, length-append}
use Rattle.std.specs.Prelude.{Option, Some, None, IsSome}
use Rattle.std.specs.List.{AllByRecursion}
use Rattle.std.proofs.lemmas.List.{length-map}
use Rattle.std.proofs.lemmas.List.FromFn.{length-map-range_with_len}
use Rattle.packet_format.specs.declared.acts.Act.{Act}
use Rattle.packet_format.specs.declared.acts.Act.TheVariants.{Post, Read}
use Rattle.packet_format.specs.declared.acts.ActAnswer.{ActAnswer}
use Rattle.config_table.specs.Table.{TableValue}
use Rattle.fault_script.specs.Plays.{Told}
use Rattle.link_fabric.specs.declared.fabrics.Carried.{Carried}
use Rattle.script_text.specs.Reading.{Plan}
use Rattle.script_text.specs.Playable.{ActIsThere}
use Rattle.element_core.specs.declared.Rejoined.{Rejoined}
use Rattle.element_core.specs.declared.records.CycleRecord.{CycleRecord}
use Rattle.element_core.specs.declared.records.CycleReport.{CycleReport}
use Rattle.element_core.specs.ElementValue.{ElementValue}
use Rattle.element_core.specs.Told.{told_of}
use Rattle.cluster.specs.Delivered.{Delivered, frame_at}
use Rattle.cluster.specs.ClusterValue.{ClusterValue, after_frames, all_acted, ended_at}
use Rattle.cluster.specs.Clusters.{PlaysOf}
use Rattle.cluster.specs.Follows.{Follows, IsStepOfRun, IsActAmong}
use Rattle.cluster.specs.Reports.{Reports, AreAnswers}
use Rattle.cluster.specs.Carrying.{TellsMore, cycle_entries, round_entries}
use Rattle.report_text.specs.Report.{report_told, cycle_lines}
use Rattle.report_text.specs.Trace.{cycle_frames}
use Rattle.report_text.specs.PlayedCycle.{acts_at}
use Rattle.ftpp_top.specs.Due.{acts_in, IsOrdered, IsApart}
use Rattle.ftpp_top.specs.FollowsScript.{FollowsScript, RunsCycle}
use Rattle.ftpp_top.specs.Playing.{IsReady, IsBegun, IsTaken, IsShown, IsRejoinOf, IsCycleOf}
use Rattle.ftpp_top.proofs.CycleOfScript.{cycles_of_script}

-- ---- the acts are among those of n elements

act_among : (n : ℕ) (entry : ℕ × Act) → ActIsThere n entry → IsActAmong n entry.1
act_among n (c, Read p) h = record { there = h.0; port = h.1 }
act_among n (c, Post p d x) h = record { there = h.0; port = h.1 }

all_among : (n : ℕ) (acts : List (ℕ × Act)) (c : ℕ) → AllByRecursion (ActIsThere n) acts → AllByRecursion (IsActAmong n) (acts_in acts c)
all_among n [] c h = tt
all_among n (entry ∷ acts) c h = by (eqb entry.0 c) refl (all_among n acts c h.1) where
  by : (b : Bool) → eqb entry.0 c ≡ b → AllByRecursion (IsActAmong n) (acts_in acts c) → AllByRecursion (IsActAmong n) (acts_in (entry ∷ acts) c)
  by true e rest = rw e (act_among n entry h.0, rest)
  by false e rest = rw e rest

-- what was taken in the cycle of this number
pub taken_at : (k c : ℕ) (acts : List (ℕ × Act)) (row : List Act) (rest : List (ℕ × Act)) → c ≡ k → row ≡ acts_in acts c → IsOrdered (c + 1) rest → ((j : ℕ) → c < j → acts_in rest j ≡ acts_in acts j) → length row + length rest ≡ length acts
    → IsTaken k acts row rest
taken_at k c acts row rest e due ordered later count = subst (λ (m : ℕ). IsTaken m acts row rest) e (record { due = due; ordered = ordered; later = later; count = count })

module _ (n : ℕ) (plan : Plan) (c : ClusterValue) (acts rest : List (ℕ × Act)) (row : List Act) (rejoins : List (ℕ × Option ℕ)) (h : IsBegun n plan c acts rejoins) (t : IsTaken (length c.journal) acts row rest) where
  pub its_acts : row ≡ acts_at plan (length c.journal)
  its_acts = t.due ∙ h.later (length c.journal) (omega arith)

  pub row_among : AllByRecursion (IsActAmong n) row
  row_among = subst (AllByRecursion (IsActAmong n)) (sym its_acts) (all_among n plan.acts (length c.journal) h.playable.acts)

  pub row_fits : length row ≤ c.acts_left
  row_fits = let all = t.count in let room = h.left in omega (arith, all, room)

  -- ---- after the cycle

  pub ready_again : (new : ClusterValue) → new ≡ after_frames c row new.delivered → IsReady n plan new rest rejoins
  ready_again new e =
      let all = t.count in
      let room = h.left in
      let some = h.more in
      let whole = h.cycles in
      let first : new.first ≡ c.first = ap (λ x. x.first) e in
      let faulty : new.faulty ≡ c.faulty = ap (λ x. x.faulty) e in
      let remaining : new.remaining ≡ c.remaining - 1 = ap (λ x. x.remaining) e in
      let left : new.acts_left ≡ c.acts_left - length row = ap (λ x. x.acts_left) e in
      let long : length new.journal ≡ length c.journal + 1 = ap (λ x. length x.journal) e ∙ length-append c.journal _ in
      record {
        playable = h.playable;
        elements = ap (λ t. t.n) first ∙ h.elements;
        cycles = omega (arith, long, remaining, whole, some);
        left = omega (arith, left, all, room);
        ordered = subst (λ (k : ℕ). IsOrdered k rest) (sym long) t.ordered;
        later = λ k l. t.later k (omega (arith, long, l)) ∙ h.later k (omega (arith, long, l));
        apart = subst (λ (k : ℕ). IsApart k rejoins) (sym long) h.apart;
        ahead = λ k l. h.ahead k (omega (arith, long, l));
        faulty = h.faulty;
        others = h.others;
        there = λ s. subst (IsSome {T = ℕ}) (sym faulty) (h.there s);
        below = λ ne f. h.below ne (sym faulty ∙ f);
        rested = ap (λ x. x.rejoined) e;
      }

pub longer : (c new : ClusterValue) (row : List Act) → new ≡ after_frames c row new.delivered → length new.journal ≡ length c.journal + 1
longer c new row e = ap (λ x. length x.journal) e ∙ length-append c.journal _

-- ---- the report

answers_alike : (acts : List Act) (answers : List ActAnswer) → AreAnswers acts answers → length acts ≡ length answers
answers_alike [] [] h = refl
answers_alike [] (a ∷ answers) h = absurd h
answers_alike (act ∷ acts) [] h = absurd h
answers_alike (act ∷ acts) (a ∷ answers) h = ap suc (answers_alike acts answers h.1)

pub as_many : (acts : List Act) (answers : List ActAnswer) → AreAnswers acts answers → length acts ≡ length answers
as_many = answers_alike

pub shown_by : {n : ℕ} (c new : ClusterValue) (row : List Act) (report : CycleReport n) → c.first.n ≡ n → new ≡ after_frames c row new.delivered → Reports c row new report → IsShown row report
shown_by {n} c new row report size e r = record {
  answers = r.fit;
  many = as_many row report.answers.items r.fit;
  rows = sym (length-map report.rows.items (λ (x : CycleRecord n). Some (told_of x)))
      ∙ ap length r.rows
      ∙ length-map new.elements (λ (e : ElementValue). e.last)
      ∙ ap (λ x. length x.elements) e
      ∙ length-map-range_with_len (ended_at (all_acted c.elements row) new.delivered) 0 c.first.n
      ∙ size;
  whole = r.whole;
}

-- ---- the cycle of the played run

pub cycle_of : {n : ℕ} (table : TableValue) (plan : Plan) (old mid new : ClusterValue) (row : List Act) (asked : Option (ℕ × Rejoined)) (report : CycleReport n) (told after : Told)
    → IsRejoinOf table plan old told asked mid → mid.journal ≡ old.journal → row ≡ acts_at plan (length old.journal) → new ≡ after_frames mid row new.delivered → (Follows mid → IsStepOfRun mid row new)
    → Reports mid row new report → PlaysOf mid row new (Some told) (Some after) → (mid.faulty ≡ None → Some after ≡ Some told)
    → IsCycleOf table plan old told asked row new report after
cycle_of {n} table plan old mid new row asked report told after begun same its next step reports plays silent s =
    let k : ℕ = length old.journal in
    let follows : FollowsScript table plan k mid told = (begun s).0 in
    let runs : RunsCycle plan k mid row new report told after = record {
      its_acts = its;
      next = next;
      step = step follows.follows;
      tells = reports;
      played = plays;
      silent = λ f. some_same (silent f);
    } in
    let done = cycles_of_script n table plan k mid row new report told after follows runs in (
      record {
        begins = (begun s).1;
        says = done.0.says;
        text = (λ i. cycle_lines ((begun s).1 i) row (report_told report)) ∙ done.0.text;
        totals = done.0.totals;
        frames = done.0.frames;
      },
      done.1,
    ) where
      some_same : {a b : Told} → Some a ≡ Some b → a ≡ b
      some_same e = cc

-- ---- the frames in the order of the trace

four_frames : (cycle : ℕ) (frames : Delivered) → cycle_entries 4 cycle frames ≡ cycle_frames 4 cycle (frame_at frames)
unfolding round_entries
four_frames cycle frames = refl

five_frames : (cycle : ℕ) (frames : Delivered) → cycle_entries 5 cycle frames ≡ cycle_frames 5 cycle (frame_at frames)
unfolding round_entries
five_frames cycle frames = refl

pub entries_are_frames : (n cycle : ℕ) (frames : Delivered) → (n ≡ 4) ⊎ (n ≡ 5) → cycle_entries n cycle frames ≡ cycle_frames n cycle (frame_at frames)
entries_are_frames n cycle frames (inl e) = rw e (four_frames cycle frames)
entries_are_frames n cycle frames (inr e) = rw e (five_frames cycle frames)

-- ---- one cycle, whether by one thread or by many

-- The cluster after the rejoin, `mid`, is the one that steps, `here`.
pub ready_next : (n : ℕ) (plan other : Plan) (mid here new : ClusterValue) (acts rest : List (ℕ × Act)) (row : List Act) (rejoins later : List (ℕ × Option ℕ)) → IsBegun n plan mid acts rejoins → IsTaken (length mid.journal) acts row rest
    → here ≡ mid → other ≡ plan → later ≡ rejoins → new ≡ after_frames here row new.delivered → IsReady n other new rest later
ready_next n plan other mid here new acts rest row rejoins later h t e f g next =
    rw (f, g) (ready_again n plan mid acts rest row rejoins h t new (subst (λ (x : ClusterValue). new ≡ after_frames x row new.delivered) e next))

pub cycle_next : {n : ℕ} (table : TableValue) (plan : Plan) (old mid here new : ClusterValue) (row : List Act) (asked : Option (ℕ × Rejoined)) (report : CycleReport n) (told now after : Told)
    → IsRejoinOf table plan old told asked mid → mid.journal ≡ old.journal → row ≡ acts_at plan (length mid.journal) → here ≡ mid → now ≡ told → new ≡ after_frames here row new.delivered → (Follows here → IsStepOfRun here row new)
    → Reports here row new report → PlaysOf here row new (Some now) (Some after) → (here.faulty ≡ None → Some after ≡ Some now)
    → IsCycleOf table plan old told asked row new report after
cycle_next {n} table plan old mid here new row asked report told now after begun same its e f next step reports plays silent =
    cycle_of table plan old mid new row asked report told after begun same (its ∙ ap (λ j. acts_at plan (length j)) same)
    (subst (λ (x : ClusterValue). new ≡ after_frames x row new.delivered) e next)
    (subst (λ (x : ClusterValue). Follows x → IsStepOfRun x row new) e step)
    (subst (λ (x : ClusterValue). Reports x row new report) e reports)
    (subst (λ (t : Told). PlaysOf mid row new (Some t) (Some after)) f (subst (λ (x : ClusterValue). PlaysOf x row new (Some now) (Some after)) e plays))
    (subst (λ (t : Told). mid.faulty ≡ None → Some after ≡ Some t) f (subst (λ (x : ClusterValue). x.faulty ≡ None → Some after ≡ Some now) e silent))

pub told_next : (n : ℕ) (old mid here new : ClusterValue) (before after : Option (List Carried)) → (n ≡ 4) ⊎ (n ≡ 5) → mid.first.n ≡ n → mid.journal ≡ old.journal → here ≡ mid
    → TellsMore before (cycle_entries here.first.n (length here.journal) new.delivered) after → TellsMore before (cycle_frames n (length old.journal) (frame_at new.delivered)) after
told_next n old mid here new before after four size same e h =
    let first : here.first.n ≡ n = ap (λ x. x.first.n) e ∙ size in
    let long : length here.journal ≡ length old.journal = ap (λ x. length x.journal) e ∙ ap length same in
    subst (λ (xs : List Carried). TellsMore before xs after) ((λ i. cycle_entries (first i) (long i) new.delivered) ∙ entries_are_frames n (length old.journal) new.delivered four) h
