-- What is known between two cycles of a run that is reported.
use Rattle.std.proofs.Common.{◌≡◌, ℕ, suc, ◌<◌, List, [], ◌∷◌, map, length, refl, ap, sym, subst, ◌∙◌, arith, append-nil}
use Rattle.std.specs.Prelude.{Option, Result, Ok, Err, OnOk, OnErr, None}
use Rattle.std.specs.List.{AllByRecursion}
use Rattle.element_core.specs.declared.records.CycleRecord.{CycleRecord}
use Rattle.element_core.specs.Told.{told_of}
use Rattle.cluster.specs.Reports.{IsTold}
use Rattle.ftpp_outside.specs.Told.{Adds}
use Rattle.link_fabric.specs.declared.fabrics.Carried.{Carried}
use Rattle.packet_format.specs.declared.acts.Act.{Act}
use Rattle.fault_script.specs.Plays.{Told}
use Rattle.element_core.specs.declared.Rejoined.{Rejoined}
use Rattle.element_core.specs.declared.records.CycleReport.{CycleReport}
use Rattle.cluster.specs.ClusterValue.{ClusterValue}
use Rattle.cluster.specs.Carrying.{TellsMore}
use Rattle.cluster.specs.Delivered.{frame_at}
use Rattle.report_text.specs.declared.totals.Totals.{Totals}
use Rattle.report_text.specs.Report.{report_told, cycle_lines}
use Rattle.report_text.specs.Sums.{with_report, no_totals, IsShort, IsFew}
use Rattle.report_text.specs.Lines.{end_line}
use Rattle.report_text.specs.Trace.{cycle_frames, carried_lines}
use Rattle.report_text.specs.PlayedRun.{report_at, lines_at, totals_below, totals_played, report_text, trace_text, frames_at, frames_played}
use Rattle.command_steps.specs.Ends.{AddsPrefix}
use Rattle.command_steps.specs.Loading.{Run}
use Rattle.command_steps.proofs.Writing.{adds_more, prefix_of_rest}
use Rattle.ftpp_top.specs.FollowsScript.{StandsAt}
use Rattle.ftpp_top.specs.Playing.{IsCycleOf}
use Rattle.ftpp_top.specs.Carries.{frames_below, CarriesSome}
use Rattle.ftpp_top.specs.Loops.{text_below, IsAlong, trace_at, IsReporting, IsSumming, no_lines}
use Rattle.ftpp_top.proofs.Loops.{along_first, along_more, along_cut, totals_more, report_is, trace_is, frames_are}

pub reporting_first : (r : Run) (c : ClusterValue) (told : Told) (old : Option (List ℕ)) (before : Option (List Carried)) → StandsAt r.table r.plan 0 c told → IsReporting r 0 c told no_totals old old before before
reporting_first r c told old before s = record { along = along_first r (lines_at r.table r.plan) c told old before s; totals = refl }

module _ {n : ℕ} (r : Run) (k : ℕ) (c d : ClusterValue) (told after : Told) (t u : Totals) (old mid new : Option (List ℕ)) (before between later : Option (List Carried)) (asked : Option (ℕ × Rejoined)) (row : List Act) (report : CycleReport n)
    (i : IsReporting r k c told t old mid before between) (long : length c.journal ≡ k) (cycle : IsCycleOf r.table r.plan c told asked row d report after) (size : d.first.n ≡ n)
    (told_frames : TellsMore between (cycle_frames n (length c.journal) (frame_at d.delivered)) later) where
  played : IsCycleOf r.table r.plan c told asked row d report after
  played = cycle

  here : StandsAt r.table r.plan (length c.journal) c told
  here = subst (λ (m : ℕ). StandsAt r.table r.plan m c told) (sym long) i.along.stands

  frames : TellsMore between (frames_at r.table r.plan k) later
  frames =
      subst (λ (xs : List Carried). TellsMore between xs later)
      (ap (λ m. cycle_frames m (length c.journal) (frame_at d.delivered)) (sym size) ∙ (cycle here).0.frames ∙ ap (frames_at r.table r.plan) long) told_frames

  lines : cycle_lines asked row (report_told report) ≡ lines_at r.table r.plan k
  lines = (cycle here).0.text ∙ ap (lines_at r.table r.plan) long

  stands : StandsAt r.table r.plan (suc k) d after
  stands = subst (λ (m : ℕ). StandsAt r.table r.plan (suc m) d after) long (cycle here).1

  pub reporting_more : u ≡ with_report t (report_told report) → Adds mid (cycle_lines asked row (report_told report)) new → IsReporting r (suc k) d after u old new before later
  reporting_more e w = record {
    along = along_more r (lines_at r.table r.plan) k c d told after old mid new before between later i.along stands (subst (λ (xs : List ℕ). Adds mid xs new) lines w) frames;
    totals = e ∙ (cycle here).0.totals t ∙ (λ j. with_report (i.totals j) (report_at r.table r.plan (long j))) ∙ sym (totals_more r.table r.plan k);
  }

  pub reporting_cut : k < r.plan.cycles → AddsPrefix mid (cycle_lines asked row (report_told report)) new → AddsPrefix old (report_text r.table r.plan) new × CarriesSome r before later
  reporting_cut l w =
      subst (λ (xs : List ℕ). AddsPrefix old xs new × CarriesSome r before later) (sym (report_is r))
      (along_cut r (lines_at r.table r.plan) (end_line (totals_below r.table r.plan r.plan.cycles)) k c told old mid new before between later i.along l (subst (λ (xs : List ℕ). AddsPrefix mid xs new) lines w) frames)

-- at the same cycle by another name
pub along_as : (r : Run) (lines : ℕ → List ℕ) (k m : ℕ) (c : ClusterValue) (told : Told) (old new : Option (List ℕ)) (before after : Option (List Carried)) → k ≡ m → IsAlong r lines k c told old new before after → IsAlong r lines m c told old new before after
along_as r lines k m c told old new before after e i = subst (λ (x : ℕ). IsAlong r lines x c told old new before after) e i

pub summing_at : (r : Run) (k m : ℕ) (c : ClusterValue) (told : Told) (t : Totals) (before after : Option (List Carried)) → k ≡ m → IsSumming r k c told t before after → IsSumming r m c told t before after
summing_at r k m c told t before after e i = subst (λ (x : ℕ). IsSumming r x c told t before after) e i

pub reporting_at : (r : Run) (k m : ℕ) (c : ClusterValue) (told : Told) (t : Totals) (old new : Option (List ℕ)) (before after : Option (List Carried)) → k ≡ m → IsReporting r k c told t old new before after → IsReporting r m c told t old new before after
reporting_at r k m c told t old new before after e i = subst (λ (x : ℕ). IsReporting r x c told t old new before after) e i

-- ---- what a report says whatever the fabric

few_rows : {n : ℕ} (rows : List (CycleRecord n)) → AllByRecursion (λ (x : CycleRecord n). IsTold (told_of x)) rows → AllByRecursion IsShort (map told_of rows)
few_rows [] h = tt
few_rows (x ∷ rows) h = (h.0.few, few_rows rows h.1)

pub few_noted : {n : ℕ} (report : CycleReport n) → AllByRecursion (λ (x : CycleRecord n). IsTold (told_of x)) report.rows.items → IsFew (report_told report)
few_noted report h = few_rows report.rows.items h

pub on_ok : {T E : Type 0} (r : Result T E) (P Q : Type 0) → (P → Q) → OnOk r P → OnOk r Q
on_ok (Ok x) P Q f h = f h
on_ok (Err e) P Q f h = tt

pub on_err : {T E : Type 0} (r : Result T E) (P Q : Type 0) → (P → Q) → OnErr r P → OnErr r Q
on_err (Ok x) P Q f h = tt
on_err (Err e) P Q f h = f h

pub err_always : {T E : Type 0} (r : Result T E) (Q : Type 0) → Q → OnErr r Q
err_always (Ok x) Q h = tt
err_always (Err e) Q h = h

-- ---- the line of the totals

pub reporting_ends : (r : Run) (c : ClusterValue) (told : Told) (t : Totals) (old mid new : Option (List ℕ)) (before after : Option (List Carried)) → IsReporting r r.plan.cycles c told t old mid before after
    → Adds mid (end_line t) new → Adds old (report_text r.table r.plan) new × TellsMore before (frames_played r.table r.plan) after
reporting_ends r c told t old mid new before after i w =
    let ends : Adds mid (end_line (totals_below r.table r.plan r.plan.cycles)) new = subst (λ (u : Totals). Adds mid (end_line u) new) i.totals w in (
      subst (λ (xs : List ℕ). Adds old xs new) (sym (report_is r)) (adds_more (text_below (lines_at r.table r.plan) r.plan.cycles) (end_line (totals_below r.table r.plan r.plan.cycles)) old mid new i.along.written ends),
      subst (λ (xs : List Carried). TellsMore before xs after) (sym (frames_are r)) i.along.carried,
    )

pub reporting_end_cut : (r : Run) (c : ClusterValue) (told : Told) (t : Totals) (old mid new : Option (List ℕ)) (before after : Option (List Carried)) → IsReporting r r.plan.cycles c told t old mid before after
    → AddsPrefix mid (end_line t) new → AddsPrefix old (report_text r.table r.plan) new × CarriesSome r before after
reporting_end_cut r c told t old mid new before after i w =
    let ends : AddsPrefix mid (end_line (totals_below r.table r.plan r.plan.cycles)) new = subst (λ (u : Totals). AddsPrefix mid (end_line u) new) i.totals w in (
      subst (λ (xs : List ℕ). AddsPrefix old xs new) (sym (report_is r)) (prefix_of_rest (text_below (lines_at r.table r.plan) r.plan.cycles) (end_line (totals_below r.table r.plan r.plan.cycles)) old mid new i.along.written ends),
      (r.plan.cycles, omega arith, i.along.carried),
    )

-- ---- sums alone

pub summing_first : (r : Run) (c : ClusterValue) (told : Told) (before : Option (List Carried)) → StandsAt r.table r.plan 0 c told → IsSumming r 0 c told no_totals before before
summing_first r c told before s = record { along = along_first r no_lines c told None before s; totals = refl }

-- a cycle of which nothing is written
pub carried_more : {n : ℕ} (r : Run) (k : ℕ) (c d : ClusterValue) (told after : Told) (before between later : Option (List Carried)) (asked : Option (ℕ × Rejoined)) (row : List Act) (report : CycleReport n)
    → IsAlong r no_lines k c told None None before between → length c.journal ≡ k → IsCycleOf r.table r.plan c told asked row d report after → d.first.n ≡ n → TellsMore between (cycle_frames n (length c.journal) (frame_at d.delivered)) later
    → IsAlong r no_lines (suc k) d after None None before later
carried_more {n} r k c d told after before between later asked row report i long cycle size told_frames =
    let here : StandsAt r.table r.plan (length c.journal) c told = subst (λ (m : ℕ). StandsAt r.table r.plan m c told) (sym long) i.stands in
    let frames : TellsMore between (frames_at r.table r.plan k) later =
    subst (λ (xs : List Carried). TellsMore between xs later) (ap (λ m. cycle_frames m (length c.journal) (frame_at d.delivered)) (sym size) ∙ (cycle here).0.frames ∙ ap (frames_at r.table r.plan) long) told_frames in
    let stands : StandsAt r.table r.plan (suc k) d after = subst (λ (m : ℕ). StandsAt r.table r.plan (suc m) d after) long (cycle here).1 in
    along_more r no_lines k c d told after None None None before between later i stands tt frames

pub summing_more : {n : ℕ} (r : Run) (k : ℕ) (c d : ClusterValue) (told after : Told) (t u : Totals) (before between later : Option (List Carried)) (asked : Option (ℕ × Rejoined)) (row : List Act) (report : CycleReport n)
    → IsSumming r k c told t before between → length c.journal ≡ k → IsCycleOf r.table r.plan c told asked row d report after → d.first.n ≡ n → TellsMore between (cycle_frames n (length c.journal) (frame_at d.delivered)) later
    → u ≡ with_report t (report_told report) → IsSumming r (suc k) d after u before later
summing_more {n} r k c d told after t u before between later asked row report i long cycle size told_frames e =
    let here : StandsAt r.table r.plan (length c.journal) c told = subst (λ (m : ℕ). StandsAt r.table r.plan m c told) (sym long) i.along.stands in
    record {
      along = carried_more {n = n} r k c d told after before between later asked row report i.along long cycle size told_frames;
      totals = e ∙ (cycle here).0.totals t ∙ (λ j. with_report (i.totals j) (report_at r.table r.plan (long j))) ∙ sym (totals_more r.table r.plan k);
    }

pub summing_ends : (r : Run) (k : ℕ) (c : ClusterValue) (told : Told) (t : Totals) (before after : Option (List Carried)) → k ≡ r.plan.cycles → IsSumming r k c told t before after
    → (t ≡ totals_played r.table r.plan) × TellsMore before (frames_played r.table r.plan) after
unfolding totals_played
summing_ends r k c told t before after e i = (
  i.totals ∙ ap (totals_below r.table r.plan) e,
  subst (λ (xs : List Carried). TellsMore before xs after) (ap (frames_below r) e ∙ sym (frames_are r)) i.along.carried,
)

-- ---- the trace

pub tracing_more : {n : ℕ} (r : Run) (k : ℕ) (c d : ClusterValue) (told after : Told) (old mid new : Option (List ℕ)) (before between later : Option (List Carried)) (asked : Option (ℕ × Rejoined)) (row : List Act) (report : CycleReport n)
    → IsAlong r (trace_at r) k c told old mid before between → length c.journal ≡ k → IsCycleOf r.table r.plan c told asked row d report after → d.first.n ≡ n → TellsMore between (cycle_frames n (length c.journal) (frame_at d.delivered)) later
    → Adds mid (carried_lines (cycle_frames n (length c.journal) (frame_at d.delivered))) new → IsAlong r (trace_at r) (suc k) d after old new before later
tracing_more {n} r k c d told after old mid new before between later asked row report i long cycle size told_frames w =
    let here : StandsAt r.table r.plan (length c.journal) c told = subst (λ (m : ℕ). StandsAt r.table r.plan m c told) (sym long) i.stands in
    let same : cycle_frames n (length c.journal) (frame_at d.delivered) ≡ frames_at r.table r.plan k =
    ap (λ m. cycle_frames m (length c.journal) (frame_at d.delivered)) (sym size) ∙ (cycle here).0.frames ∙ ap (frames_at r.table r.plan) long in
    let stands : StandsAt r.table r.plan (suc k) d after = subst (λ (m : ℕ). StandsAt r.table r.plan (suc m) d after) long (cycle here).1 in
    along_more r (trace_at r) k c d told after old mid new before between later i stands (subst (λ (xs : List Carried). Adds mid (carried_lines xs) new) same w) (subst (λ (xs : List Carried). TellsMore between xs later) same told_frames)

pub tracing_cut : {n : ℕ} (r : Run) (k : ℕ) (c d : ClusterValue) (told after : Told) (old mid new : Option (List ℕ)) (before between later : Option (List Carried)) (asked : Option (ℕ × Rejoined)) (row : List Act) (report : CycleReport n)
    → IsAlong r (trace_at r) k c told old mid before between → length c.journal ≡ k → IsCycleOf r.table r.plan c told asked row d report after → d.first.n ≡ n → TellsMore between (cycle_frames n (length c.journal) (frame_at d.delivered)) later
    → k < r.plan.cycles → AddsPrefix mid (carried_lines (cycle_frames n (length c.journal) (frame_at d.delivered))) new → AddsPrefix old (trace_text r.table r.plan) new × CarriesSome r before later
tracing_cut {n} r k c d told after old mid new before between later asked row report i long cycle size told_frames l w =
    let here : StandsAt r.table r.plan (length c.journal) c told = subst (λ (m : ℕ). StandsAt r.table r.plan m c told) (sym long) i.stands in
    let same : cycle_frames n (length c.journal) (frame_at d.delivered) ≡ frames_at r.table r.plan k =
    ap (λ m. cycle_frames m (length c.journal) (frame_at d.delivered)) (sym size) ∙ (cycle here).0.frames ∙ ap (frames_at r.table r.plan) long in
    let cut = along_cut r (trace_at r) [] k c told old mid new before between later i l (subst (λ (xs : List Carried). AddsPrefix mid (carried_lines xs) new) same w) (subst (λ (xs : List Carried). TellsMore between xs later) same told_frames) in
    subst (λ (xs : List ℕ). AddsPrefix old xs new × CarriesSome r before later) (append-nil (text_below (trace_at r) r.plan.cycles) ∙ sym (trace_is r)) cut

pub tracing_ends : (r : Run) (k : ℕ) (c : ClusterValue) (told : Told) (old new : Option (List ℕ)) (before after : Option (List Carried)) → k ≡ r.plan.cycles → IsAlong r (trace_at r) k c told old new before after
    → Adds old (trace_text r.table r.plan) new × TellsMore before (frames_played r.table r.plan) after
tracing_ends r k c told old new before after e i = (
  subst (λ (xs : List ℕ). Adds old xs new) (ap (text_below (trace_at r)) e ∙ sym (trace_is r)) i.written,
  subst (λ (xs : List Carried). TellsMore before xs after) (ap (frames_below r) e ∙ sym (frames_are r)) i.carried,
)
