-- A played run is the run of its journal.
use Rattle.std.proofs.Common.{◌≡◌, ℕ, zero, suc, ◌+◌, [], ◌∷◌, ◌++◌, refl, ap, sym, ◌∙◌, arith}
use Rattle.std.proofs.lemmas.List.FromFn.{map-range_with_len_more}
use Rattle.ftpp_base.specs.Lists.{each_below}
use Rattle.script_text.specs.Reading.{Plan}
use Rattle.element_core.specs.Cycle.{Cycle, step}
use Rattle.element_core.specs.Run.{run, history}
use Rattle.element_core.proofs.RunLaws.{run-append, history-append}
use Rattle.report_text.specs.PlayedCycle.{Standing, input_played, cycle_played}
use Rattle.report_text.specs.PlayedRun.{standing_at, journal_below, shown_in}
use Rattle.report_text.specs.Laws.{StatesOfJournal, ShowsOfJournal}

each_more : {A : Type 0} (f : ℕ → A) (n : ℕ) → each_below (suc n) f ≡ each_below n f ++ f n ∷ []
each_more f n = let one : suc n ≡ n + 1 = omega arith in let same : 0 + n ≡ n = omega arith in ap (λ k. each_below k f) one ∙ map-range_with_len_more f 0 n n same

cycle_is : (plan : Plan) (before : Standing) → step before.state (input_played plan before) ≡ cycle_played plan before
unfolding cycle_played
cycle_is plan before = refl

pub states_of_journal : StatesOfJournal
unfolding run
states_of_journal table plan zero = refl
states_of_journal table plan (suc n) =
    let before = standing_at table plan n in
    ap (run table) (each_more (λ cycle. input_played plan (standing_at table plan cycle)) n)
    ∙ run-append table (journal_below table plan n) (input_played plan before)
    ∙ ap (λ s. (step s (input_played plan before)).state) (states_of_journal table plan n)
    ∙ ap (λ c. c.state) (cycle_is plan before)

pub shows_of_journal : ShowsOfJournal
unfolding history
shows_of_journal table plan zero = refl
shows_of_journal table plan (suc n) =
    let before = standing_at table plan n in
    ap (history table) (each_more (λ cycle. input_played plan (standing_at table plan cycle)) n)
    ∙ history-append table (journal_below table plan n) (input_played plan before)
    ∙ (λ i. shows_of_journal table plan n i ++ (step (states_of_journal table plan n i) (input_played plan before)).shown ∷ [])
    ∙ ap (λ (c : Cycle). each_below n (shown_in table plan) ++ c.shown ∷ []) (cycle_is plan before)
    ∙ sym (each_more (shown_in table plan) n)
