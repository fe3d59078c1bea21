-- Each cycle of a run is lawful, since a run stays sound.
use Rattle.std.proofs.Common.{◌≡◌, ℕ, zero, suc, ◌+◌, ◌<◌, [], ◌∷◌, length, take, refl, ap, arith, sym, ◌∙◌, subst}
use Rattle.std.specs.List.{AllByRecursion}
use Rattle.config_table.specs.Table.{TableValue, IsValid}
use Rattle.element_core.specs.Cycle.{State, Input, start, step}
use Rattle.element_core.specs.Run.{Journal, run, run_from, state_at, input_at, shown_at}
use Rattle.element_core.specs.Claims.{OnlyFullOverruns}
use Rattle.element_core.specs.Alone.{IsSound, IsInput}
use Rattle.whole_run.specs.Laws.{EachCycleLawful, AgreedStateKept}
use Rattle.element_core.proofs.RunLaws.{state_at-suc}
use Rattle.element_core.proofs.SoundRuns.{sound_at}
use Rattle.element_core.proofs.TogetherRun.{end_together}
use Rattle.element_core.specs.Together.{agreed_by}
use Rattle.whole_run.proofs.Accuracy.{always_accurate}
use Rattle.whole_run.proofs.Equal.{equal_entries, never_split}
use Rattle.whole_run.proofs.Members.{always_accurate_alike}
use Rattle.whole_run.proofs.Overruns.{only_full}
use Rattle.whole_run.proofs.Sourced.{always_sourced}
use Rattle.whole_run.proofs.Unchanged.{always_unchanged}

-- the state after a cycle is that before the next
next_at : (table : TableValue) (journal : Journal) (k : ℕ) → k < length journal → (step (state_at table journal k) (input_at journal k)).state ≡ state_at table journal (k + 1)
next_at table journal k l = let more : suc k ≡ k + 1 = omega arith in sym (state_at-suc table journal k l) ∙ ap (state_at table journal) more

-- Each cycle of a run is lawful.
pub each_cycle_lawful : EachCycleLawful
each_cycle_lawful table journal k valid are l =
    let s = state_at table journal k in
    let input = input_at journal k in
    let at = sound_at table journal k valid are l in
    record {
      accurate = always_accurate s input;
      equal = equal_entries s input at.0 at.1;
      whole = never_split s input at.0 at.1;
      alike = always_accurate_alike s input at.0 at.1;
      unchanged = always_unchanged s input at.0 at.1;
      sourced = always_sourced s input at.0 at.1;
      overruns = subst (λ after. OnlyFullOverruns after (shown_at table journal k)) (next_at table journal k l) (only_full s input at.0 at.1);
    }

-- Each element has the agreed state of the run, since it keeps its part of the run.
pub agreed_state_is_kept : AgreedStateKept
agreed_state_is_kept table journal carrieds me valid are carried l = ap agreed_by (end_together table journal carrieds me valid are carried l)
