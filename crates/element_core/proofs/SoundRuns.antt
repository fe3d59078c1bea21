-- A run stays sound.
use Rattle.std.proofs.Common.{◌≡◌, ℕ, zero, suc, ◌<◌, [], ◌∷◌, length, take, refl, arith, sym, ◌∙◌, subst}
use Rattle.std.specs.List.{AllByRecursion}
use Rattle.config_table.specs.Table.{TableValue, IsValid}
use Rattle.element_core.specs.Cycle.{State, Input, start, step}
use Rattle.element_core.specs.Run.{Journal, run, run_from, state_at, input_at}
use Rattle.element_core.specs.Alone.{IsSound, IsInput, RunsStaySound}
use Rattle.element_core.proofs.Sound.{start_sound, step_sound, step_size}

-- the later inputs are those among the elements that are there then
later_inputs : (s : State) (input : Input) (journal : Journal) → AllByRecursion (IsInput s.table.n) journal → AllByRecursion (IsInput (step s input).state.table.n) journal
later_inputs s input journal = subst (λ n. AllByRecursion (IsInput n) journal) (sym (step_size s input))

-- from a sound state on
from_sound : (s : State) (journal : Journal) → IsSound s → AllByRecursion (IsInput s.table.n) journal → IsSound (run_from s journal) × ((run_from s journal).table.n ≡ s.table.n)
from_sound s [] sound are = (sound, refl)
from_sound s (input ∷ journal) sound are =
    let more = from_sound (step s input).state journal (step_sound s input sound are.0) (later_inputs s input journal are.1) in
    (more.0, more.1 ∙ step_size s input)

-- A run stays sound.
pub runs_stay_sound : RunsStaySound
unfolding run
runs_stay_sound table journal valid are = from_sound (start table) journal (start_sound table valid) are

-- before each cycle the state is sound, and what comes from outside is as it should be
at_sound : (s : State) (journal : Journal) (k : ℕ) → IsSound s → AllByRecursion (IsInput s.table.n) journal → k < length journal
    → IsSound (run_from s (take k journal)) × IsInput (run_from s (take k journal)).table.n (input_at journal k)
at_sound s [] k sound are l = absurd (omega arith)
at_sound s (input ∷ journal) zero sound are l = (sound, are.0)
at_sound s (input ∷ journal) (suc k) sound are l = at_sound (step s input).state journal k (step_sound s input sound are.0) (later_inputs s input journal are.1) (omega arith)

-- so in a run from a valid table
pub sound_at : (table : TableValue) (journal : Journal) (k : ℕ) → IsValid table → AllByRecursion (IsInput table.n) journal → k < length journal
    → IsSound (state_at table journal k) × IsInput (state_at table journal k).table.n (input_at journal k)
unfolding run
sound_at table journal k valid are l = at_sound (start table) journal k (start_sound table valid) are l
