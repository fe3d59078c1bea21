-- The trace of a played run without a rejoin follows, so the audit of it says so.
use Rattle.std.proofs.Common.{◌≡◌, ℕ, zero, suc, ◌*◌, List, [], length, refl, ap, arith, sym, ◌∙◌, subst, inl, inr, Ok, Err}
use Rattle.std.specs.Prelude.{Option, None, Result, filter}
use Rattle.std.specs.List.{AllByRecursion, flat_map}
use Rattle.std.proofs.lemmas.List.FromFn.{length-map-range_with_len}
use Rattle.ftpp_base.specs.Lists.{below}
use Rattle.two_round.proofs.Others.{IsSize}
use Rattle.config_table.specs.Table.{TableValue, IsValid}
use Rattle.script_text.specs.Reading.{Plan}
use Rattle.script_text.specs.declared.ScriptError.{ScriptError}
use Rattle.script_text.specs.declared.ScriptError.TheVariants.{At, Memory}
use Rattle.element_core.proofs.AloneLaws.{size_of}
use Rattle.element_core.proofs.Sound.{start_sound}
use Rattle.report_text.specs.Trace.{carried_lines}
use Rattle.report_text.specs.PlayedCycle.{Standing, is_of_cycle, first_next, next_at, faulty_after, faulty_in, rejoined_by, input_played}
use Rattle.report_text.specs.PlayedRun.{standing_at, journal_of, trace_text}
use Rattle.trace_audit.specs.declared.audit.Verdict.{Verdict}
use Rattle.trace_audit.specs.declared.audit.Verdict.TheVariants as verdict
use Rattle.trace_audit.specs.Trace.{Follows, listed, per_cycle}
use Rattle.trace_audit.specs.Laws.{IsCalm}
use Rattle.trace_audit.specs.AuditedTrace.{trace_of, Judges, Audits}
use Rattle.trace_audit.proofs.RunLaw.{runs_follow}
use Rattle.trace_audit.proofs.Verdicts.{never_both}
use Rattle.command_steps.specs.Ends.{Ends}
use Rattle.ftpp_top.specs.Audited.{judged}
use Rattle.audited_runs.specs.Played.{frames_in_cycle, frames_of_run}
use Rattle.audited_runs.specs.Audited.{TraceFollows, AnswersFollows, EndsFollowing}
use Rattle.audited_runs.proofs.ByteFrames.{all_made}
use Rattle.audited_runs.proofs.PlacedLines.{listed_long, reads_back}
use Rattle.audited_runs.proofs.PlayedInputs.{plays_inputs}
use Rattle.audited_runs.proofs.PlayedFrames.{plays_run_frames}

-- ---- without a rejoin

no_next : (plan : Plan) (cycle : ℕ) → plan.rejoins ≡ [] → next_at plan cycle ≡ None
no_next plan cycle none = ap (λ (rejoins : List (ℕ × Option ℕ)). first_next (filter (is_of_cycle cycle) rejoins)) none

faulty_still : (plan : Plan) (before : Standing) → plan.rejoins ≡ [] → faulty_in plan before ≡ before.faulty
faulty_still plan before none = ap (faulty_after before.faulty) (no_next plan before.state.cycle none)

-- one element is faulty in all cycles
faulty_first : (table : TableValue) (plan : Plan) (k : ℕ) → plan.rejoins ≡ [] → (standing_at table plan k).faulty ≡ plan.faulty
faulty_first table plan zero none = refl
faulty_first table plan (suc k) none = faulty_still plan (standing_at table plan k) none ∙ faulty_first table plan k none

calm_at : (table : TableValue) (plan : Plan) (k : ℕ) → plan.rejoins ≡ [] → IsCalm plan.faulty (input_played plan (standing_at table plan k))
unfolding input_played
calm_at table plan k none =
    let before = standing_at table plan k in
    record {
      rejoined = ap (rejoined_by before.faulty) (no_next plan before.state.cycle none);
      same = faulty_still plan before none ∙ faulty_first table plan k none;
    }

calm_all : (table : TableValue) (plan : Plan) → plan.rejoins ≡ [] → AllByRecursion (IsCalm plan.faulty) (journal_of table plan)
unfolding journal_of
calm_all table plan none = all_made (IsCalm plan.faulty) (λ cycle. input_played plan (standing_at table plan cycle)) (below plan.cycles) (λ k. calm_at table plan k none)

-- ---- the trace

pub size_is : (table : TableValue) → IsValid table → IsSize table.n
size_is table valid = size_of _ (start_sound table valid)

pub trace_follows : TraceFollows
unfolding trace_text
trace_follows r is =
    let table = r.table in
    let plan = r.plan in
    let cycles = frames_of_run table plan in
    let h = plays_run_frames table plan is.valid is.playable in
    let many : length cycles ≡ plan.cycles = length-map-range_with_len (frames_in_cycle table plan) 0 plan.cycles in
    let long = is.playable.long in
    let short = is.playable.short in
    record {
      frames = flat_map (listed table.n) cycles;
      read = ap (λ frames. trace_of table.n (carried_lines frames)) h.carried ∙ reads_back table.n cycles (size_is table is.valid) (omega arith) (omega arith) h.spelled;
      whole = listed_long table.n cycles ∙ ap (λ (k : ℕ). k * per_cycle table.n) many;
      follows = runs_follow table (journal_of table plan) plan.faulty cycles is.valid (plays_inputs table plan is.valid is.playable) (calm_all table plan is.calm) h.of_run;
    }

-- ---- the answer

pub same_times : (n a b : ℕ) → IsSize n → a * per_cycle n ≡ b * per_cycle n → a ≡ b
same_times n a b (inl e) = subst (λ k. a * per_cycle k ≡ b * per_cycle k → a ≡ b) (sym e) (λ g. omega arith)
same_times n a b (inr e) = subst (λ k. a * per_cycle k ≡ b * per_cycle k → a ≡ b) (sym e) (λ g. omega arith)

-- by the verdict on these frames
judged_so : (table : TableValue) (named : Option ℕ) (frames : List (List ℕ)) (cycles : ℕ) (given : Verdict) → IsSize table.n → Follows table named frames → length frames ≡ cycles * per_cycle table.n
    → Judges table named frames given → given ≡ verdict.Follows cycles
judged_so table named frames cycles (verdict.Follows k) size f whole j = ap verdict.Follows (same_times table.n k cycles size (sym j.1 ∙ whole))
judged_so table named frames cycles (verdict.Breaks at from to) size f whole j = absurd (never_both table named frames at.cycle at.round from to f j)

-- a result gives one value
pub ok_same : {A E : Type 0} (result : Result A E) (x y : A) → result ≡ Ok x → result ≡ Ok y → x ≡ y
ok_same result x y e g = cc

answer_by : (table : TableValue) (named : Option ℕ) (bytes : List ℕ) (frames : List (List ℕ)) (cycles : ℕ) (answer : Result Verdict ScriptError) → IsSize table.n
    → trace_of table.n bytes ≡ Ok frames → Follows table named frames → length frames ≡ cycles * per_cycle table.n → Audits table named bytes answer → answer ≡ Ok (verdict.Follows cycles)
answer_by table named bytes frames cycles (Ok given) size read f whole a =
    let same : a.0 ≡ frames = ok_same (trace_of table.n bytes) a.0 frames a.1 read in
    ap Ok (judged_so table named frames cycles given size f whole (subst (λ (trace : List (List ℕ)). Judges table named trace given) same a.2))
answer_by table named bytes frames cycles (Err (At line code)) size read f whole a = absurd (cc (sym a ∙ read))
answer_by table named bytes frames cycles (Err Memory) size read f whole a = absurd a

pub answers_follows : AnswersFollows
answers_follows r answer is a =
    let h = trace_follows r is in
    answer_by r.table r.plan.faulty (trace_text r.table r.plan) h.frames r.plan.cycles answer (size_is r.table is.valid) h.read h.follows h.whole a

pub ends_following : EndsFollowing
ends_following r status old new is h = subst (λ (answer : Result Verdict ScriptError). Ends (judged answer) status old new) (answers_follows r h.0 is h.1) h.2
